-- A function on numbers with a new value at one place: what it is there and elsewhere.
use Rattle.std.proofs.lemmas.Bool.{cases_Bool, eqb-true, eqb-false, cond-true, cond-false}
use Rattle.std.proofs.Common.{◌≡◌, ℕ, cond, eqb, ◌≢◌, ◌⊎◌, inl, inr}

-- f, but v at s
unfoldable pub put : (ℕ → ℕ) → ℕ → ℕ → ℕ → ℕ
put f s v u = cond (eqb u s) v (f u)

pub put_cases : (f : ℕ → ℕ) (s v u : ℕ) → ((u ≡ s) × (put f s v u ≡ v)) ⊎ ((u ≢ s) × (put f s v u ≡ f u))
unfolding put
put_cases f s v u =
    elim (cases_Bool (eqb u s))
    [ inl e ↦ inl (eqb-true u s e, cond-true (eqb u s) v (f u) e) | inr e ↦ inr (eqb-false u s e, cond-false (eqb u s) v (f u) e) ]
