-- The ranks allow the steps to the targets below the iterator's place.
use Rattle.std.proofs.Common.{ℕ, ◌<◌, T, get_or}
use Rattle.automaton.specs.Successors.{IsOver}
use Rattle.evidence.specs.Asking.{Allowed}
use Rattle.evidence.proofs.ranking.Ranks.allows_by.Given as goal

abbrev pub invariant-loop-t : goal.invariant-loop-t
invariant-loop-t g l =
    let A = g.A.Automaton.meaning l.self.automaton.now in
    IsOver g.A.Automaton.meaning A l.s l.letter l.t-iterator
    × ((k : ℕ) → k < l.t-iterator.from → T (A.step l.s l.letter k) → Allowed (A.good l.s) (get_or l.self.ranks.now l.s 0) (get_or l.self.ranks.now k 0))
