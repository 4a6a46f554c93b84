use Rattle.omega.proofs.lasso_or_least.Goals as goal
use Rattle.omega.proofs.Ranks.{lasso_or_least_lem}

pub returns : goal.returns
returns c = lasso_or_least_lem
