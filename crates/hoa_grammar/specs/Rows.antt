-- Promise. Rows: lists that grow at their end, so that what stands before an element is a part of the row.
use Rattle.std.specs.Prelude.{ℕ, ◌+◌, Bool, false, ◌||◌}

pub data Row (A : Type 0) : Type 0 where
  none : Row A
  more : Row A → A → Row A

abbrev pub size : {A : Type 0} → Row A → ℕ
size none = 0
size (more r a) = size r + 1

-- some element passes the test
abbrev pub some : {A : Type 0} → (A → Bool) → Row A → Bool
some test none = false
some test (more r a) = test a || some test r
