use Rattle.relaxing.specs.Rounds.{Forced, rooms}
use Rattle.rankings.proofs.raising.settle.Given as goal

abbrev pub invariant-loop : goal.invariant-loop
invariant-loop g l = Forced (g.A.Automaton.meaning l.automaton) l.ranks

abbrev pub decreases-loop : goal.decreases-loop
decreases-loop g l = let A = g.A.Automaton.meaning l.automaton in rooms A.states l.ranks
