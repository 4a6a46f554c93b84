-- Among n + 1 numbers below n two are equal.
use Rattle.omega.proofs.Finite.{found-or-all}
use Rattle.omega.proofs.Updates.{put, put_cases}
use Rattle.std.proofs.lemmas.Bool.{cases_eq}
use Rattle.std.proofs.Common.{◌≡◌, ℕ, zero, suc, ◌<◌, ◌≤◌, ◌≢◌, ◌⊎◌, inl, inr, arith}

-- two of the values f 0 to f n are equal
abbrev pub Repeat : ℕ → (ℕ → ℕ) → Type 0
Repeat n f = (i j : ℕ) × (i < j) × (j ≤ n) × (f i ≡ f j)

pub pigeonhole : (n : ℕ) (f : ℕ → ℕ) → ((i : ℕ) → i ≤ n → f i < n) → Repeat n f
pigeonhole zero f low = absurd (let b = low 0 (omega arith) in omega arith)
pigeonhole (suc n) f low = elim (found-or-all (suc n) again) [ inl twice ↦ twice | inr new ↦ fewer (pigeonhole n) new ]
  where
    top : ℕ
    top = f (suc n)

    again : (i : ℕ) → i < suc n → Repeat (suc n) f ⊎ (f i ≡ top → ⊥)
    again i b = elim (cases_eq (f i) top) [ inl e ↦ inl (i, suc n, b, omega arith, e) | inr d ↦ inr d ]

    -- with the value n replaced by the last one, the others lie below n
    fewer :
        ((g : ℕ → ℕ) → ((i : ℕ) → i ≤ n → g i < n) → Repeat n g) → ((i : ℕ) → i < suc n → f i ≡ top → ⊥) →
        Repeat (suc n) f
    fewer smaller new =
        let swap : ℕ → ℕ = put (λ v. v) n top in
        let swapped : (i : ℕ) → ((f i ≡ n) × (swap (f i) ≡ top)) ⊎ ((f i ≢ n) × (swap (f i) ≡ f i)) = λ i. put_cases (λ v. v) n top (f i) in
        let under : (i : ℕ) → i ≤ n → swap (f i) < n =
        λ i b. omega (arith, swapped i, low i (omega arith), low (suc n) (omega arith), new i (omega arith))
        in
        let (i, j, before, b, same) = smaller (λ i. swap (f i)) under in
        (i, j, before, omega arith, omega (arith, swapped i, swapped j, new i (omega arith), new j (omega arith)))
