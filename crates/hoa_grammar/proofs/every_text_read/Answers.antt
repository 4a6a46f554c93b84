use Rattle.hoa_grammar.proofs.Laws.{every_text_read_lem}
use Rattle.hoa_grammar.proofs.every_text_read.Goals as goal

pub returns : goal.returns
returns c = every_text_read_lem
