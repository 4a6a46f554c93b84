-- The letters below the one in hand are visited by.
use Rattle.std.proofs.Common.{◌≡◌}
use Rattle.distances.proofs.Visits.{VisitedBy}
use Rattle.emptiness.proofs.breadth.Search.visit.Given as goal

abbrev pub invariant-loop-letter : goal.invariant-loop-letter
invariant-loop-letter g l =
    record {
      visited : VisitedBy (g.A.Automaton.meaning l.automaton) l.initial.self.distance.now l.initial.self.queue.now l.self.distance.now l.self.parent.now l.self.queue.now l.initial.self.head l.initial.self.end l.self.end l.letter;
      head : l.self.head ≡ l.initial.self.head;
    }
