-- A state is a number below their count.
use Rattle.std.proofs.Common.{arith}
use Rattle.std.proofs.lemmas.Bool.Decides.{nat_tests}
use Rattle.hoa_grammar.specs.Documents.{state_limit}
use Rattle.hoa_document.proofs.expect.state.Goals as goal

pub returns-clause-read : goal.returns-clause-read
returns-clause-read c = c.read_number.ensures.read (state_limit c.args.states) (λ n r p. grind (arith, nat_tests))
