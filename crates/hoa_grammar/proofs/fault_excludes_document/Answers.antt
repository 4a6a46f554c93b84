use Rattle.hoa_grammar.proofs.Laws.{fault_excludes_document_lem}
use Rattle.hoa_grammar.proofs.fault_excludes_document.Goals as goal

pub returns : goal.returns
returns c = fault_excludes_document_lem
