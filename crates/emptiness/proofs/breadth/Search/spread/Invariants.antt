-- The states before the head are done with.
use Rattle.std.proofs.Common.{◌-◌}
use Rattle.distances.specs.Trees.{Extends}
use Rattle.emptiness.specs.Parts.{Searching}
use Rattle.emptiness.proofs.breadth.Search.spread.Given as goal

abbrev pub invariant-loop-self : goal.invariant-loop-self
invariant-loop-self g l =
    record {
      searching : Searching (g.A.Automaton.meaning l.automaton) l.self;
      extends : Extends l.initial.self.distance.now l.self.distance.now;
    }

abbrev pub decreases-loop-self : goal.decreases-loop-self
decreases-loop-self g l = (g.A.Automaton.meaning l.automaton).states - l.self.head
