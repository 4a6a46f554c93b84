use Rattle.std.proofs.Common.{arith}
use Rattle.distances.specs.Trees.{at}
use Rattle.distances.proofs.Visits.{searched_fits, queued-fits}
use Rattle.emptiness.proofs.Options.{no_joining}
use Rattle.emptiness.proofs.Returns.{return_none, return_far, return_found, return-on}
use Rattle.emptiness.proofs.returning.last_of_return.Goals as goal

pub bounds-back-back : goal.bounds-back-back
bounds-back-back g c = (queued-fits c.loop-back.invariant.searching _ c.loop-back-test.true).place

pub overflow_add-stem : goal.overflow_add-stem
overflow_add-stem g c =
    let near = (queued-fits c.loop-back.invariant.searching _ c.loop-back-test.true).near in
    let few = (g.A.Automaton.sound c.args.automaton.now).few in
    let stem = c.requires.stem in
    omega arith

pub returns-then-is_at_most-clause-returns : goal.returns-then-is_at_most-clause-returns
returns-then-is_at_most-clause-returns g c = return_far c.loop-back.invariant c.args.stem c.args.best (c.is_at_most.ensures.0 c.if-is_at_most.true)

pub returns-then-is_some-clause-returns : goal.returns-then-is_some-clause-returns
returns-then-is_some-clause-returns g c =
    return_found c.loop-back.invariant c.loop-back-test.true c.args.stem c.args.best (λ less. cc (c.is_at_most.ensures.1 less)) c.letter_between.result (cc) c.letter_between.ensures

pub loop-back-smaller : goal.loop-back-smaller
loop-back-smaller g c = let fits = searched_fits c.loop-back.invariant.searching in omega arith

pub loop-back-preserved : goal.loop-back-preserved
loop-back-preserved g c =
    return-on c.loop-back.invariant c.loop-back-test.true (no_joining (g.A.Automaton.meaning c.args.automaton.now) (at c.loop-back.back.queue.now c.loop-back.back.head) c.args.g c.letter_between.result (cc) c.letter_between.ensures) c.visit.ensures.visiting c.visit.ensures.head

pub returns-clause-returns : goal.returns-clause-returns
returns-clause-returns g c k path = absurd (return_none c.loop-back.invariant c.loop-back-test.false k path)
