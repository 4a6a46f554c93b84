use Rattle.omega.proofs.word_gives_lasso.Goals as goal
use Rattle.omega.proofs.Looping.{word_gives_lasso_lem}

pub returns : goal.returns
returns c = word_gives_lasso_lem
