use Rattle.hoa_grammar.proofs.Laws.{one_document_lem}
use Rattle.hoa_grammar.proofs.one_document.Goals as goal

pub returns : goal.returns
returns c = one_document_lem
