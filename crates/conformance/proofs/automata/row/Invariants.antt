use Rattle.std.proofs.Common.{◌≡◌, vec_items}
use Rattle.conformance.specs.Lines.{each, text_of_step, letters_of_step}
use Rattle.conformance.proofs.automata.row.Given as goal

abbrev pub invariant-loop-t : goal.invariant-loop-t
invariant-loop-t g l = vec_items l.text ≡ each (λ t. text_of_step l.s t (letters_of_step (g.A.Automaton.meaning l.automaton) l.s t)) l.t
