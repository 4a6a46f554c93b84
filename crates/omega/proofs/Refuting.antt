-- A ranking rules out every accepted word: a run on one would climb past the first state's number.
use Rattle.omega.specs.Laws.{RankingRefutes}
use Rattle.omega.proofs.Climbs.{accepted_climbs, climb_below}
use Rattle.std.proofs.Common.{ℕ, suc, arith}

pub ranking_refutes_lem : RankingRefutes
ranking_refutes_lem A inside rank R (w, accepted) =
    let s : ℕ = accepted.path 0 in
    omega (arith, climb_below A inside rank R (suc (rank s)) s (R.starts s accepted.run.begins) (accepted_climbs A w accepted (suc (rank s)) 0))
