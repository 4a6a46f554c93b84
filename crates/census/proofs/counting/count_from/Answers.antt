-- Sixteen letters at most have few steps each.
use Rattle.std.proofs.Common.{arith, rules}
use Rattle.std.specs.List.{range_with_len}
use Rattle.std.proofs.lemmas.Iterator.{YieldsList-from_range, YieldsList-from_map}
use Rattle.std.proofs.lemmas.Iterator.Consumers.{fits_by_from_yields_list, sum_by_from_yields_List, YieldsList-at}
use Rattle.census.specs.Counts.{steps_by}
use Rattle.census.proofs.Tallies.{steps_from_few}
use Rattle.census.proofs.counting.count_from.Goals as goal

pub sum-requires-clause-fits : goal.sum-requires-clause-fits
sum-requires-clause-fits g c =
    let A = g.A.Automaton.meaning c.args.automaton.now in
    let few = steps_from_few A (g.A.Automaton.sound c.args.automaton.now) c.args.s in
    fits_by_from_yields_list (steps_by A c.args.s) (range_with_len 0 c.letters.result) c.map.result _
    (YieldsList-from_map _ (steps_by A c.args.s) (YieldsList-at c.map.ensures.source (YieldsList-from_range 0 c.letters.result c.letters.result (cc) (omega arith))) c.map.ensures.closure (λ x r q k. search rules))
    (rw c.letters.ensures.is (omega (arith, few)))

pub returns-clause-few : goal.returns-clause-few
returns-clause-few g c =
    let A = g.A.Automaton.meaning c.args.automaton.now in
    let few = steps_from_few A (g.A.Automaton.sound c.args.automaton.now) c.args.s in
    let is = sum_by_from_yields_List (steps_by A c.args.s) (range_with_len 0 c.letters.result) c.map.result _ c.sum.ensures.ran
    (YieldsList-from_map _ (steps_by A c.args.s) (YieldsList-at c.map.ensures.source (YieldsList-from_range 0 c.letters.result c.letters.result (cc) (omega arith))) c.map.ensures.closure (λ x r q k. search rules)) in
    rw is (rw c.letters.ensures.is few)
