-- `all` over the numbers below n, said of these numbers and not of a list.
use Rattle.std.proofs.Common.{◌≡◌, ℕ, ◌<◌, Bool, true, false, T, ◌↔◌, Option, List, length, get_or, MatchBool, MatchOption, subst, arith}
use Rattle.std.specs.Fn.{Called}
use Rattle.std.specs.Iterator.{YieldsThen}
use Rattle.std.specs.List.{FoldsTo, range_with_len, AllWithin, HoldsAt}
use Rattle.std.specs.declared.ops.Range.{Range}
use Rattle.std.proofs.iter.Yields.{nat_range_steps}
use Rattle.std.proofs.lemmas.Iterator.{cases_from_all, YieldsList-from_range}
use Rattle.std.proofs.lemmas.List.FromFn.{length-range_with_len, get_or-range_with_len}
use denote.Param.Members.{Mut}

module _ (n : ℕ) (P : ℕ → Type 0) where
  below_answer : (r : Bool) →
      MatchBool r (AllWithin P (range_with_len 0 n) 0 (length (range_with_len 0 n))) ((k : ℕ) × (k < length (range_with_len 0 n)) × HoldsAt (λ x. P x → ⊥) (range_with_len 0 n) k) →
      T r ↔ ((k : ℕ) → k < n → P k)
  below_answer true all = (
    λ _ k below.
        let e : get_or (range_with_len 0 n) k 0 ≡ k = omega (arith, get_or-range_with_len 0 n k 0 below) in
        subst P e (all k 0 (omega arith) (omega (arith, length-range_with_len 0 n))),
    λ _. tt,
  )
  below_answer false (k, inside, none) =
      let below : k < n = omega (arith, length-range_with_len 0 n) in
      let e : get_or (range_with_len 0 n) k 0 ≡ k = omega (arith, get_or-range_with_len 0 n k 0 below) in
      (λ no. absurd no, λ every. absurd (subst (λ x. P x → ⊥) e (none 0) (every k below)))

  pub all_below : {F : Type 0} {g : Mut F (ℕ × Unit {0}) Bool} {s : Range ℕ} (u : Range ℕ) (f : F) (r : Bool) →
      (xs : List ℕ) × (o : Option ℕ) × (j : F) × YieldsThen nat_range_steps s xs o u × FoldsTo (λ p x q. Called g p (x, tt) true q) f xs j × MatchOption o (r ≡ true) (λ x. (r ≡ false) × ((h : F) × Called g j (x, tt) false h)) →
      s ≡ record { start = 0; end = n } →
      ((x : ℕ) (q : F) → Called g f (x, tt) true q → (q ≡ f) × P x) →
      ((x : ℕ) (q : F) → Called g f (x, tt) false q → P x → ⊥) →
      T r ↔ ((k : ℕ) → k < n → P k)
  all_below u f r ran whole passes fails = below_answer r (cases_from_all u f r P (λ x. P x → ⊥) ran (YieldsList-from_range 0 n n whole (omega arith)) passes fails)
