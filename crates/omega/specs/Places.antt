-- Scaffolding. Where `next` of a pair looks: places of a row and a column.
use Rattle.std.specs.Prelude.{ℕ, ◌/◌, ◌%◌, ◌<◌, ◌≤◌, Bool, ◌&&◌, T}

-- the place k, of row k / w and column k % w, passes if its row passes P and its column Q
abbrev pub place : (ℕ → Bool) → (ℕ → Bool) → ℕ → ℕ → Bool
place P Q w k = P (k / w) && Q (k % w)

-- no place from g on passes that stands in the row of g
pub record NoneInRow (P Q : ℕ → Bool) (w g : ℕ) : Type 0 where
  pub none : (k : ℕ) → g % w ≤ k → k < w → T (P (g / w)) → T (Q k) → ⊥
