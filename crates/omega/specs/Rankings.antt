-- Promise. Rankings, and the least one.
use Rattle.std.specs.Prelude.{ℕ, ◌<◌, ◌≤◌, Bool, T}
use Rattle.omega.specs.Automata.{Meaning}

-- the greatest number of a ranking
abbrev pub greatest_rank : ℕ
greatest_rank = 4294967294

-- a ranking calls each state inside, with a number, or outside: every start is inside, and from a state inside every step leads to one inside
-- whose number is not greater, and is smaller if the state left is good
pub record Ranking (A : Meaning) (inside : ℕ → Bool) (rank : ℕ → ℕ) : Type 0 where
  pub small : (s : ℕ) → T (inside s) → rank s ≤ greatest_rank
  pub starts : (s : ℕ) → T (A.start s) → T (inside s)
  pub stays : (s a t : ℕ) → T (inside s) → T (A.step s a t) → T (inside t)
  pub falls : (s a t : ℕ) → T (inside s) → T (A.step s a t) → rank t ≤ rank s
  pub drops : (s a t : ℕ) → T (inside s) → T (A.step s a t) → T (A.good s) → rank t < rank s

-- the least ranking: every other one has the states inside that this one has, with numbers at least as great
pub record Least (A : Meaning) (inside : ℕ → Bool) (rank : ℕ → ℕ) : Type 0 where
  pub ranking : Ranking A inside rank
  pub within : (inside' : ℕ → Bool) (rank' : ℕ → ℕ) → Ranking A inside' rank' → (s : ℕ) → T (inside s) → T (inside' s)
  pub below : (inside' : ℕ → Bool) (rank' : ℕ → ℕ) → Ranking A inside' rank' → (s : ℕ) → T (inside s) → rank s ≤ rank' s

abbrev pub SomeLeast : Meaning → Type 0
SomeLeast A = (inside : ℕ → Bool) × (rank : ℕ → ℕ) × Least A inside rank
