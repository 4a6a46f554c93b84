use Rattle.std.proofs.Common.{◌≡◌, suc, ◌+◌, ◌-◌, subst, arith}
use Rattle.distances.specs.Trees.{at}
use Rattle.emptiness.specs.Parts.{AtMost}
use Rattle.emptiness.proofs.shortest.improve.Goals as goal

pub returns-in_default-clause-least : goal.returns-in_default-clause-least
returns-in_default-clause-least g c good k path =
    let reached = c.requires.reached in
    let e : at c.args.found.now.distance.now c.args.g - 1 + suc k ≡ at c.args.found.now.distance.now c.args.g + k = omega arith in
    subst (AtMost c.args.best) e (c.in_default.ensures.returns k path)

pub returns-clause-least : goal.returns-clause-least
returns-clause-least g c _ k path =
    let reached = c.requires.reached in
    let least = c.in-Some.ensures.returns.least k path in
    omega arith
