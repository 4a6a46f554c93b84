use Rattle.std.proofs.Common.{T}
use Rattle.automaton.specs.Successors.{IsOver}
use Rattle.relaxing.specs.Rounds.{StepMet, Swept}
use Rattle.rankings.proofs.raising.relax_by.Given as goal

abbrev pub invariant-loop-t : goal.invariant-loop-t
invariant-loop-t g l =
    let A = g.A.Automaton.meaning l.automaton in
    IsOver g.A.Automaton.meaning A l.s l.letter l.t-iterator
    × Swept A (λ ranks t. T (A.step l.s l.letter t) → StepMet A ranks l.s t) l.initial.ranks l.ranks l.changed l.t-iterator.from
