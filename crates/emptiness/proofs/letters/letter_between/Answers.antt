use Rattle.std.proofs.Common.{ℕ, T, arith, rules}
use Rattle.std.proofs.lemmas.Iterator.{first_from_Range}
use Rattle.emptiness.proofs.Options.{first_joining}
use Rattle.emptiness.proofs.letters.letter_between.Goals as goal

pub returns : goal.returns
returns g c =
    let A = g.A.Automaton.meaning c.args.automaton.now in
    let step : ℕ → Type 0 = λ a. T (A.step c.args.s a c.args.t) in
    let count = c.letters.ensures.is in
    first_joining A c.args.s c.args.t c.letters.result c.find.result _
    (λ a step. let known = (g.A.Automaton.sound c.args.automaton.now).letters c.args.s a c.args.t step in omega arith)
    (first_from_Range _ _ _ c.find.result step (λ a. step a → ⊥) c.find.ensures.ran (λ a q called. search rules) (λ a q called. search rules))
