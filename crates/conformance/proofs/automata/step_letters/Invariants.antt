use Rattle.std.proofs.Common.{◌≡◌}
use Rattle.conformance.specs.Lines.{letter_set}
use Rattle.conformance.proofs.automata.step_letters.Given as goal

abbrev pub invariant-loop-a : goal.invariant-loop-a
invariant-loop-a g l = l.set ≡ letter_set (λ a. (g.A.Automaton.meaning l.automaton).step l.s a l.t) l.a
