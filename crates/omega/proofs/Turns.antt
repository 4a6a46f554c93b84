-- The turn of a pair passes on for ever exactly when each part is good for ever.
use Rattle.std.proofs.Common.{◌≡◌, ℕ, ◌+◌, ◌≤◌, Bool, true, false, not, ◌&&◌, T, ◌⊎◌, inl, inr, add-one, arith, T_not}
use native.Mathlib.Decide.{le_ind}
use Rattle.omega.specs.Words.{Often}
use Rattle.omega.specs.Pairs.{turned}
use Rattle.omega.proofs.Tests.{both_pass, parts_pass, passes_or_not}

-- what holds at moment m lasts until something happens
lasts_until : (P : ℕ → Type 0) (Happens : Type 0) (m : ℕ) → ((j : ℕ) → m ≤ j → P j → P (j + 1) ⊎ Happens) → P m → (k : ℕ) → m ≤ k → P k ⊎ Happens
lasts_until P Happens m next now k late =
    le_ind (λ j. P j ⊎ Happens) (inl now) (λ j h. elim [ inl p ↦ rw add-one at (next j h p) | inr d ↦ inr d ]) k late

-- the four things that the turn does in a step, from c to d, with the first part's state good or not (a), and the second's (b)
passes_to_second : (c a b d : Bool) → d ≡ turned c a b → T (not c) → T a → T d
passes_to_second true a b d e p q = absurd p
passes_to_second false a b d e p q = rw e q

passes_to_first : (c a b d : Bool) → d ≡ turned c a b → T c → T b → T (not d)
passes_to_first true a true d e p q = rw e tt
passes_to_first true a false d e p q = absurd q
passes_to_first false a b d e p q = absurd p

waits_for_first : (c a b d : Bool) → d ≡ turned c a b → T (not c) → T (not d) ⊎ T a
waits_for_first true a b d e p = absurd p
waits_for_first false true b d e p = inr tt
waits_for_first false false b d e p = inl (rw e tt)

waits_for_second : (c a b d : Bool) → d ≡ turned c a b → T c → T d ⊎ T b
waits_for_second true a true d e p = inr tt
waits_for_second true a false d e p = inl (rw e tt)
waits_for_second false a b d e p = absurd p

module _ (c a b : ℕ → Bool) (law : (i : ℕ) → c (i + 1) ≡ turned (c i) (a i) (b i)) where
  abbrev Later : (ℕ → Bool) → ℕ → Type 0
  Later test m = (k : ℕ) × (m ≤ k) × T (test k)

  -- while the first part is waited for and not good, it is waited for
  first_awaited : (m k : ℕ) → m ≤ k → T (not (c m)) → T (not (c k)) ⊎ Later a m
  first_awaited m k late low =
      lasts_until (λ j. T (not (c j))) (Later a m) m
      (λ j h now. elim (waits_for_first (c j) (a j) (b j) (c (j + 1)) (law j) now) [ inl p ↦ inl p | inr good ↦ inr (j, h, good) ])
      low k late

  -- while the second part is waited for and not good, it is waited for
  second_awaited : (m k : ℕ) → m ≤ k → T (c m) → T (c k) ⊎ Later (λ j. c j && b j) m
  second_awaited m k late high =
      lasts_until (λ j. T (c j)) (Later (λ j. c j && b j) m) m
      (λ j h now. elim (waits_for_second (c j) (a j) (b j) (c (j + 1)) (law j) now) [ inl p ↦ inl p | inr good ↦ inr (j, h, both_pass (c j) (b j) now good) ])
      high k late

  -- between two moments at which the second part is waited for and good, the first one is good
  pub first_often_good : Often (λ k. c k && b k) → Often a
  first_often_good often m =
      let (k, late, now) = often m in
      let (k', late', now') = often (k + 1) in
      let (high, good) = parts_pass (c k) (b k) now in
      elim (first_awaited (k + 1) k' late' (passes_to_first (c k) (a k) (b k) (c (k + 1)) (law k) high good)) [
        | inl low ↦ absurd (T_not (c k') low (parts_pass (c k') (b k') now').0)
        | inr later ↦ (later.0, omega arith, later.2)
      ]

  second_often_awaited : Often a → Often c
  second_often_awaited often m =
      let (k, late, good) = often m in
      elim (passes_or_not (c k)) [
        | inl high ↦ (k, late, high)
        | inr low ↦ (k + 1, omega arith, passes_to_second (c k) (a k) (b k) (c (k + 1)) (law k) low good)
      ]

  -- if both parts are often good, the second one is often good while it is waited for
  pub second_often_good : Often a → Often b → Often (λ k. c k && b k)
  second_often_good often-a often-b m =
      let (j, late, high) = second_often_awaited often-a m in
      let (k, late', good) = often-b j in
      elim (second_awaited j k late' high) [
        | inl now ↦ (k, omega arith, both_pass (c k) (b k) now good)
        | inr later ↦ (later.0, omega arith, later.2)
      ]
