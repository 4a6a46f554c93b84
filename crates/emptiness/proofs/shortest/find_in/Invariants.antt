-- The states before g in order of distance are tried.
use Rattle.emptiness.specs.Parts.{Wide}
use Rattle.emptiness.proofs.Best.{Tried}
use Rattle.emptiness.proofs.shortest.find_in.Given as goal

abbrev pub invariant-loop-g : goal.invariant-loop-g
invariant-loop-g g l =
    record {
      tried : Tried (g.A.Automaton.meaning l.automaton) l.found.distance.now l.found.queue.now l.strip l.best l.g-index;
      wide : Wide (g.A.Automaton.meaning l.automaton) l.back;
    }
