-- The first place of a byte.
use Rattle.std.proofs.Common.{◌≡◌, ℕ, ◌≤◌, Bool, true, false, cond, Some, None, Option, refl, ap, ◌∙◌, arith, ltb, ltb-false}
use Rattle.std.specs.Option.{unwrap_or}

place_told : (found : Option ℕ) (place end : ℕ) (before : Bool) → ltb place end ≡ before → place ≤ end → found ≡ cond before (Some place) None → unwrap_or found end ≡ place
place_told found place end true test within is = ap (λ (o : Option ℕ). unwrap_or o end) is
place_told found place end false test within is =
    let last : end ≤ place = ltb-false place end test in
    ap (λ (o : Option ℕ). unwrap_or o end) is ∙ omega arith

-- the place that is found, or the end
pub place_or_end : (found : Option ℕ) (place end : ℕ) → place ≤ end → found ≡ cond (ltb place end) (Some place) None → unwrap_or found end ≡ place
place_or_end found place end within is = place_told found place end (ltb place end) refl within is
