use Rattle.hoa_grammar.proofs.Laws.{one_fault_lem}
use Rattle.hoa_grammar.proofs.one_fault.Goals as goal

pub returns : goal.returns
returns c = one_fault_lem
