-- The starts below s are the sources.
use Rattle.std.proofs.Common.{◌≡◌, ◌≤◌, length}
use Rattle.emptiness.proofs.Starting.{StartsBelow}
use Rattle.emptiness.proofs.breadth.Search.begin_at_starts.Given as goal

abbrev pub invariant-loop-s : goal.invariant-loop-s
invariant-loop-s g l =
    record {
      starts : StartsBelow (g.A.Automaton.meaning l.automaton) l.self.distance.now l.self.queue.now l.self.end l.s;
      head : l.self.head ≡ 0;
      parents : (g.A.Automaton.meaning l.automaton).states ≤ length l.self.parent.now;
    }
