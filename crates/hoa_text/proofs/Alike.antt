-- Strings that differ at a place are not alike.
use Rattle.std.proofs.Common.{◌≡◌, ℕ, Bool, true, false, not, T, ◌↔◌, List, length, get_or, is_some, Some, None, Option, sym, ap, inl, inr, arith}
use Rattle.std.proofs.lemmas.Bool.{true≢false}
use Rattle.hoa_text.specs.Differences.{DifferAt, FirstDifference}

not_alike : (a b : List ℕ) (k : ℕ) → DifferAt a b k → a ≡ b → ⊥
not_alike a b k (inl d) e = d.2 (ap (λ xs. get_or xs k 0) e)
not_alike a b k (inr (inl d)) e = omega (arith, ap length e, d.0, d.1)
not_alike a b k (inr (inr d)) e = omega (arith, ap length e, d.0, d.1)

-- no difference is found exactly where they are alike
pub alike_where_none : (a b : List ℕ) (r : Option ℕ) (t : Bool) → FirstDifference a b r → is_some r ≡ not t → T t ↔ (a ≡ b)
alike_where_none a b (Some k) true d e = absurd (true≢false e)
alike_where_none a b (Some k) false d e = (λ no. absurd no, λ same. not_alike a b k d.1 same)
alike_where_none a b None true d e = (λ yes. d, λ same. tt)
alike_where_none a b None false d e = absurd (true≢false (sym e))
