-- A count is a number that is not above the most.
use Rattle.std.proofs.Common.{ltb, arith}
use Rattle.std.proofs.lemmas.Bool.Decides.{nat_tests}
use Rattle.hoa_tokens.specs.declared.fault.Refusal.TheVariants.{TooMany}
use Rattle.hoa_grammar.specs.Marking.{kept, breaks_if}
use Rattle.hoa_document.proofs.expect.count.Goals as goal

pub returns-clause-read : goal.returns-clause-read
returns-clause-read c = c.read_number.ensures.read (λ n. breaks_if (ltb c.args.most n) TooMany kept) (λ n r p. grind (arith, nat_tests))
