use Rattle.std.proofs.Common.{◌∙◌}
use Rattle.distances.proofs.Visits.{letter-visited}
use Rattle.emptiness.proofs.breadth.Search.visit.Goals as goal

pub loop-letter-preserved : goal.loop-letter-preserved
loop-letter-preserved g c =
    let head = c.visit_by.ensures.head ∙ c.loop-letter.invariant.head in
    record { visited = letter-visited c.loop-letter.invariant.visited (rw head at c.visit_by.ensures.visiting) (rw c.loop-letter.invariant.head at c.visit_by.ensures.all); head = head }
