use Rattle.std.proofs.Common.{refl, arith, rules, tests}
use Rattle.evidence.specs.Asking.{AllowedBy}
use Rattle.evidence.proofs.Every.{all_below}
use Rattle.evidence.proofs.ranking.Ranks.allows_all.Goals as goal

pub returns : goal.returns
returns g c =
    let A = g.A.Automaton.meaning c.args.self.now.automaton.now in
    let every = all_below c.letters.result (AllowedBy A c.args.self.now.ranks.now c.args.s) _ _ _ c.all.ensures.ran refl (λ a q k. (search rules, search (rules, tests))) (λ a q k. search (rules, tests)) in (
      λ yes a t step.
          let known = (g.A.Automaton.sound c.args.self.now.automaton.now).letters c.args.s a t step in
          every.0 yes a (omega (arith, known, c.letters.ensures.is)) t step,
      λ allowed. every.1 (λ a _. allowed a),
    )
