use Rattle.std.proofs.Common.{arith}
use Rattle.distances.proofs.Visits.{searched_fits, extends_on}
use Rattle.emptiness.proofs.breadth.Search.spread.Goals as goal

pub loop-self-smaller : goal.loop-self-smaller
loop-self-smaller g c = let fits = searched_fits c.loop-self.invariant.searching in omega arith

pub loop-self-preserved : goal.loop-self-preserved
loop-self-preserved g c =
    record { searching = c.visit.ensures.visiting.searched; extends = extends_on _ _ _ c.loop-self.invariant.extends c.visit.ensures.visiting.extends }
