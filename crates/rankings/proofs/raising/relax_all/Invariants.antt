use Rattle.relaxing.specs.Rounds.{MetFrom, Swept}
use Rattle.rankings.proofs.raising.relax_all.Given as goal

abbrev pub invariant-loop-s : goal.invariant-loop-s
invariant-loop-s g l = let A = g.A.Automaton.meaning l.automaton in Swept A (MetFrom A) l.initial.ranks l.ranks l.changed l.s
