use Rattle.std.proofs.Common.{T, ◌↔◌, rules}
use Rattle.evidence.specs.Strips.{TellsLasso}
use Rattle.evidence.proofs.Worths.{told_lasso_shows_word}
use Rattle.evidence.proofs.lasso.is_lasso.Goals as goal

pub returns-then-closes-clause-worth : goal.returns-then-closes-clause-worth
returns-then-closes-clause-worth g c = λ yes.
    let A = g.A.Automaton.meaning c.args.automaton.now in
    let tells : T c.goes.result ↔ TellsLasso A c.args.strip.now = search rules in
    told_lasso_shows_word A c.args.strip.now (tells.0 yes)
