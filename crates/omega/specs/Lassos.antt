-- Promise. Lassos, and those of fewest steps.
use Rattle.std.specs.Prelude.{◌≡◌, ℕ, ◌+◌, ◌<◌, ◌≤◌, T}
use Rattle.omega.specs.Automata.{Meaning}

-- m steps of stem and q ≥ 1 of loop: a chain of states from a start, with a letter for each step; state m is good, and the last one equals it
pub record Lasso (A : Meaning) (m q : ℕ) (state letter : ℕ → ℕ) : Type 0 where
  pub loops : 0 < q
  pub begins : T (A.start (state 0))
  pub goes : (i : ℕ) → i < m + q → T (A.step (state i) (letter i) (state (i + 1)))
  pub good : T (A.good (state m))
  pub closes : state (m + q) ≡ state m

abbrev pub SomeLasso : Meaning → Type 0
SomeLasso A = (m q : ℕ) × (state letter : ℕ → ℕ) × Lasso A m q state letter

-- a lasso that no other undercuts
pub record Fewest (A : Meaning) (m q : ℕ) (state letter : ℕ → ℕ) : Type 0 where
  pub lasso : Lasso A m q state letter
  pub fewest : (m' q' : ℕ) (state' letter' : ℕ → ℕ) → Lasso A m' q' state' letter' → m + q ≤ m' + q'
