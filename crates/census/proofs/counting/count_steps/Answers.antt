use Rattle.std.proofs.Common.{arith, rules}
use Rattle.std.specs.List.{range_with_len}
use Rattle.std.proofs.lemmas.Iterator.{YieldsList-from_range, YieldsList-from_map}
use Rattle.std.proofs.lemmas.Iterator.Consumers.{fits_by_from_yields_list, YieldsList-at}
use Rattle.census.specs.Counts.{steps_from}
use Rattle.census.proofs.Tallies.{steps_of_few}
use Rattle.census.proofs.counting.count_steps.Goals as goal

pub sum-requires-clause-fits : goal.sum-requires-clause-fits
sum-requires-clause-fits g c =
    let A = g.A.Automaton.meaning c.args.automaton.now in
    let few = steps_of_few A (g.A.Automaton.sound c.args.automaton.now) in
    fits_by_from_yields_list (steps_from A) (range_with_len 0 c.states.result) c.map.result _
    (YieldsList-from_map _ (steps_from A) (YieldsList-at c.map.ensures.source (YieldsList-from_range 0 c.states.result c.states.result (cc) (omega arith))) c.map.ensures.closure (λ x r q k. search rules))
    (rw c.states.ensures.is (omega (arith, few)))
