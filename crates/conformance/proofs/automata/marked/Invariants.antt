use Rattle.std.proofs.Common.{◌≡◌, vec_items}
use Rattle.conformance.specs.Lines.{each, listed_where, is_marked_at}
use Rattle.conformance.proofs.automata.marked.Given as goal

abbrev pub invariant-loop-s : goal.invariant-loop-s
invariant-loop-s g l = vec_items l.text ≡ each (λ s. listed_where (is_marked_at (g.A.Automaton.meaning l.automaton) l.mark s) s) l.s
