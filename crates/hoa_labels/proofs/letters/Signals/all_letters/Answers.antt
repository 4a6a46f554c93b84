-- The set of the letters that pass a test means the test.
use Rattle.std.proofs.Common.{true, sym, subst}
use Rattle.hoa_labels.specs.Letters.{Means}
use Rattle.hoa_labels.proofs.Sets.{means_set}
use Rattle.hoa_labels.proofs.letters.Signals.all_letters.Goals as goal

pub returns : goal.returns
returns c = subst (Means c.args.self.count (λ a. true)) (sym c.all_of.ensures) (means_set c.args.self.count (λ a. true))
