use Rattle.std.proofs.Common.{◌≡◌, vec_items}
use Rattle.conformance.specs.Lines.{each, row_text}
use Rattle.conformance.proofs.automata.steps.Given as goal

abbrev pub invariant-loop-s : goal.invariant-loop-s
invariant-loop-s g l = vec_items l.text ≡ each (row_text (g.A.Automaton.meaning l.automaton)) l.s
