use Rattle.std.proofs.Common.{◌≤◌, arith, pow_mono}
use Rattle.std.proofs.lemmas.Nat.{one_shl}
use Rattle.automaton.proofs.automaton.letters.Goals as goal

pub returns-clause-few : goal.returns-clause-few
returns-clause-few g c =
    let few : c.signals.result ≤ 4 = c.signals.ensures.few in rw (one_shl c.signals.result 32 (omega arith)) (pow_mono {j = 4} few)
