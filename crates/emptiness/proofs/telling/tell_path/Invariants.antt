-- The steps from t on are told.
use Rattle.emptiness.proofs.PathsTold.{Telling}
use Rattle.emptiness.proofs.telling.tell_path.Given as goal

abbrev pub invariant-loop-left : goal.invariant-loop-left
invariant-loop-left g l = Telling (g.A.Automaton.meaning l.automaton) l.found.distance.now l.initial.strip l.strip l.o l.far l.s l.left l.t
