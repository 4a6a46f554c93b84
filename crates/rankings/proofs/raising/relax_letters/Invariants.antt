use Rattle.relaxing.specs.Rounds.{MetBy, Swept}
use Rattle.rankings.proofs.raising.relax_letters.Given as goal

abbrev pub invariant-loop-letter : goal.invariant-loop-letter
invariant-loop-letter g l =
    let A = g.A.Automaton.meaning l.automaton in Swept A (λ ranks. MetBy A ranks l.s) l.initial.ranks l.ranks l.changed l.letter
