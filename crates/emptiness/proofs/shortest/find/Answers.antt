use Rattle.std.proofs.Common.{refl}
use Rattle.emptiness.proofs.LassosTold.{cleared-tells}
use Rattle.emptiness.proofs.shortest.find.Goals as goal

pub returns : goal.returns
returns g c = cleared-tells (g.A.Automaton.meaning c.args.automaton.now) _ _ _ _ c.in-Some.ensures refl (c.fill.ensures.after (λ y e. e))
