-- Promise. Sets of letters, bit a for letter a, and which set a test means.
use Rattle.std.specs.Prelude.{◌≡◌, ℕ, ◌^◌, ◌<◌, Bool}
use Rattle.hoa_grammar.specs.Labels.{on}

-- the set has exactly the letters below 2 ^ p for which the test holds
pub record Means (p : ℕ) (test : ℕ → Bool) (letters : ℕ) : Type 0 where
  pub small : letters < 2 ^ (2 ^ p)
  pub holds : (a : ℕ) → a < 2 ^ p → on a letters ≡ test a
