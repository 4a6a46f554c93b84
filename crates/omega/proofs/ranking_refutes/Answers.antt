use Rattle.omega.proofs.ranking_refutes.Goals as goal
use Rattle.omega.proofs.Refuting.{ranking_refutes_lem}

pub returns : goal.returns
returns c = ranking_refutes_lem
