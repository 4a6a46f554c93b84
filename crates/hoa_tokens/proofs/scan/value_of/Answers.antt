use Rattle.std.proofs.Common.{◌≡◌, ℕ, ◌+◌, ◌-◌, ◌*◌, min, get_or, drop, sym, ap, ◌∙◌, arith}
use Rattle.std.proofs.lemmas.List.{at_drop_more}
use Rattle.hoa_tokens.specs.Bytes.{value_after}
use Rattle.hoa_tokens.proofs.Values.{capped}
use Rattle.hoa_tokens.proofs.scan.value_of.Goals as goal

pub loop-d-preserved : goal.loop-d-preserved
loop-d-preserved c =
    let ds = c.args.digits.now in
    let i = c.loop-d.d-index in
    let n = c.loop-d.n in
    let rest = drop (i + 1) ds in
    let more : ℕ = n * 10 + (get_or ds i 0 - 48) in
    let step : min 10000 (value_after n (drop i ds)) ≡ min 10000 (value_after more rest) = at_drop_more (λ l. min 10000 (value_after n l)) ds i 0 (omega arith) in
    let is : c.min-n.result ≡ min more 10000 = omega arith in
    (omega arith, ap (λ m. min 10000 (value_after m rest)) is ∙ capped more rest ∙ sym step ∙ c.loop-d.invariant.1)
