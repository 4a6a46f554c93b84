-- A function that is raised at one place below n at a time, and stays at most b there, is not raised for ever.
use Rattle.omega.proofs.Updates.{put, put_cases}
use Rattle.std.proofs.Common.{ℕ, zero, suc, ◌+◌, ◌*◌, ◌<◌, ◌≤◌, ◌⊎◌, ap, inl, inr, arith}

-- the sum of the first n values
sum : ℕ → (ℕ → ℕ) → ℕ
sum zero f = 0
sum (suc n) f = sum n f + f n

sum_bound : (n b : ℕ) (f : ℕ → ℕ) → ((s : ℕ) → s < n → f s ≤ b) → sum n f ≤ n * b
unfolding sum
sum_bound zero b f h = omega arith
sum_bound (suc n) b f h = omega (arith, sum_bound n b f (λ s l. h s (omega arith)), h n (omega arith))

sum_grows : (n : ℕ) (f : ℕ → ℕ) (s v : ℕ) → f s < v → sum n f ≤ sum n (put f s v)
unfolding sum
sum_grows zero f s v up = omega arith
sum_grows (suc n) f s v up =
    let c = put_cases f s v n in
    let here : f n ≤ put f s v n = elim c [ inl e ↦ (let z = ap f e.0 in omega arith) | inr d ↦ omega arith ] in
    omega (arith, sum_grows n f s v up)

sum_rises : (n : ℕ) (f : ℕ → ℕ) (s v : ℕ) → s < n → f s < v → sum n f < sum n (put f s v)
unfolding sum
sum_rises zero f s v b up = absurd (omega arith)
sum_rises (suc n) f s v b up =
    elim (put_cases f s v n) [
      | inl e ↦ (let z = ap f e.0 in omega (arith, sum_grows n f s v up))
      | inr d ↦ (let z = d.1 in omega (arith, sum_rises n f s v (omega (arith, d.0)) up))
    ]

-- f is at most b below n, and can be raised there to a function that keeps a property
abbrev pub Raised : ℕ → ℕ → ((ℕ → ℕ) → Type 0) → (ℕ → ℕ) → Type 0
Raised n b Kept f = ((s : ℕ) → s < n → f s ≤ b) × ((s v : ℕ) × (s < n) × (f s < v) × Kept (put f s v))

module _ (n b : ℕ) (Kept : (ℕ → ℕ) → Type 0) (Goal : Type 0) (turn : (f : ℕ → ℕ) → Kept f → Goal ⊎ Raised n b Kept f) where
  -- the room that is left falls with each turn
  rising : (room : ℕ) (f : ℕ → ℕ) → Kept f → n * b < sum n f + room → Goal
  rising zero f kept h = elim (turn f kept) [ inl goal ↦ goal | inr r ↦ absurd (omega (arith, sum_bound n b f r.0)) ]
  rising (suc room) f kept h =
      elim (turn f kept) [
        | inl goal ↦ goal
        | inr r ↦ (let (s, v, below, up, kept') = r.1 in rising room (put f s v) kept' (omega (arith, sum_rises n f s v below up)))
      ]

  pub rising_ends : (f : ℕ → ℕ) → Kept f → Goal
  rising_ends f kept = rising (suc (n * b)) f kept (omega arith)
