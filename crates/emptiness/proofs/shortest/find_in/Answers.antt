use Rattle.std.proofs.Common.{arith}
use Rattle.distances.proofs.Visits.{searched_fits, sources_kept}
use Rattle.distances.proofs.Nearest.{searched_traced}
use Rattle.emptiness.proofs.Best.{tried-more, order_long, order_place, best_shortest}
use Rattle.emptiness.proofs.shortest.find_in.Goals as goal

pub reached-g-items-requires : goal.reached-g-items-requires
reached-g-items-requires g c =
    let fits = searched_fits c.spread.ensures.searching in
    let places = c.spread.ensures.searching.places in
    omega arith

pub improve-best-requires-clause-found : goal.improve-best-requires-clause-found
improve-best-requires-clause-found g c =
    record {
      traced = searched_traced c.spread.ensures.searching;
      starts = λ s. (sources_kept _ _ c.spread.ensures.extends _ c.begin_at_starts.ensures.starts s).0;
    }

pub loop-g-preserved : goal.loop-g-preserved
loop-g-preserved g c =
    record {
      tried = tried-more _ c.loop-g.invariant.tried c.improve-best.ensures.tells c.improve-best.ensures.no_worse c.improve-best.ensures.least
          (order_place c.spread.new.self c.spread.ensures.searching c.reached-g-items.ensures c.loop-g.g-index c.loop-g-test.true);
      wide = c.improve-best.ensures.wide;
    }

pub returns : goal.returns
returns g c =
    let long = order_long c.spread.new.self c.spread.ensures.searching c.reached-g-items.ensures in
    let starts = sources_kept _ _ c.spread.ensures.extends _ c.begin_at_starts.ensures.starts in
    best_shortest c.spread.new.self c.spread.ensures.searching c.spread.ensures.all starts (omega arith) c.loop-g.invariant.tried
