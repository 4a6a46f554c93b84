-- No state before the head has a step to g.
use Rattle.std.proofs.Common.{◌-◌}
use Rattle.emptiness.proofs.Returns.{Returning}
use Rattle.emptiness.proofs.returning.last_of_return.Given as goal

abbrev pub invariant-loop-back : goal.invariant-loop-back
invariant-loop-back g l = Returning (g.A.Automaton.meaning l.automaton) l.g l.back

abbrev pub decreases-loop-back : goal.decreases-loop-back
decreases-loop-back g l = (g.A.Automaton.meaning l.automaton).states - l.back.head
