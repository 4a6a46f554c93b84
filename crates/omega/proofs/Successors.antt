-- A loop over all that passes a test, from the lowest on, as over the successors of a state by a letter: in the end it has seen each.
use Rattle.std.proofs.Common.{◌≡◌, ℕ, ◌+◌, ◌<◌, Bool, T, Some, None, subst, ⊎_elim, arith}
use Rattle.std.proofs.lemmas.Bool.{cases_lt}
use Rattle.omega.specs.Automata.{Lowest}

-- each that passes the test below f has P
module _ (test : ℕ → Bool) (P : ℕ → Type 0) (f : ℕ) (seen : (k : ℕ) → k < f → T (test k) → P k) where
  -- none is left from f on
  pub none_left_all_seen : Lowest test f None → (k : ℕ) → T (test k) → P k
  none_left_all_seen none k passes =
      ⊎_elim (λ before. seen k before passes) (λ late. absurd (none k late passes)) (cases_lt k f)

  -- the lowest from f on has P too
  pub lowest_seen_more : (t : ℕ) → Lowest test f (Some t) → P t → (k : ℕ) → k < t + 1 → T (test k) → P k
  lowest_seen_more t (_, _, first) here k h passes =
      ⊎_elim
      (λ before. seen k before passes)
      (λ late.
      ⊎_elim (λ earlier. absurd (first k late earlier passes)) (λ not_earlier. let e : t ≡ k = omega arith in subst P e here) (cases_lt k t))
      (cases_lt k f)
