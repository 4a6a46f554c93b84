use Rattle.omega.proofs.lasso_shows_word.Goals as goal
use Rattle.omega.proofs.Looping.{lasso_shows_word_lem}

pub returns : goal.returns
returns c = lasso_shows_word_lem
