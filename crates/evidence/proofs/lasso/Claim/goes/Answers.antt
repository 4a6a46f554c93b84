use Rattle.std.proofs.Common.{◌+◌, refl, rules, tests}
use Rattle.evidence.specs.Asking.{StepAt}
use Rattle.evidence.proofs.Every.{all_below}
use Rattle.evidence.proofs.lasso.Claim.goes.Goals as goal

pub returns : goal.returns
returns g c =
    all_below (c.args.self.now.stem + c.args.self.now.round) (StepAt (g.A.Automaton.meaning c.args.self.now.automaton.now) c.args.self.now.strip.now) _ _ _ c.all.ensures.ran refl
    (λ i q k. (search rules, search (rules, tests)))
    (λ i q k. search (rules, tests))
