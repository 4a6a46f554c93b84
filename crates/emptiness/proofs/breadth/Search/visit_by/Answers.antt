use Rattle.std.proofs.Common.{inl, inr}
use Rattle.automaton.proofs.Walks.{over_lowest, over_above, over_more}
use Rattle.distances.proofs.Visits.{queued-fits, successor_room, new_visited, old_visited}
use Rattle.emptiness.proofs.breadth.Search.visit_by.Goals as goal

pub bounds-self-self : goal.bounds-self-self
bounds-self-self g c = (queued-fits c.requires.searching _ c.requires.some).place

pub reach-requires : goal.reach-requires
reach-requires g c = successor_room (g.A.Automaton.sound c.args.automaton.now) c.loop-t.invariant.visited (over_lowest c.loop-t.invariant.over c.in-Some.ensures.steps)

pub loop-t-preserved : goal.loop-t-preserved
loop-t-preserved g c =
    let kept = c.loop-t.invariant in
    let sound = g.A.Automaton.sound c.args.automaton.now in
    let gives = c.in-Some.ensures.steps in
    let found = over_lowest kept.over gives in
    let place = over_above kept.over gives in
    elim c.reach.ensures [
      | inl new ↦ rw new.1 (record { over = over_more kept.over gives; visited = rw place (new_visited sound kept.visited found new.0); head = kept.head })
      | inr old ↦ rw old.1 (record { over = over_more kept.over gives; visited = rw place (old_visited sound kept.visited found old.0); head = kept.head })
    ]
