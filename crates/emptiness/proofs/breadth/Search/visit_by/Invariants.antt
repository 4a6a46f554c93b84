-- The successors below the iterator's place are visited.
use Rattle.std.proofs.Common.{◌≡◌}
use Rattle.automaton.specs.Successors.{IsOver}
use Rattle.distances.proofs.Visits.{VisitedBelow}
use Rattle.emptiness.proofs.breadth.Search.visit_by.Given as goal

abbrev pub invariant-loop-t : goal.invariant-loop-t
invariant-loop-t g l =
    let A = g.A.Automaton.meaning l.automaton in
    record {
      over : IsOver g.A.Automaton.meaning A l.s l.letter l.t-iterator;
      visited : VisitedBelow A l.initial.self.distance.now l.initial.self.queue.now l.self.distance.now l.self.parent.now l.self.queue.now l.initial.self.head l.initial.self.end l.self.end l.s l.letter l.t-iterator.from;
      head : l.self.head ≡ l.initial.self.head;
    }
