-- Promise. The fields of a line, and the numbers that stand there.
use Rattle.std.specs.Prelude.{ℕ, ◌+◌, ◌-◌, ◌*◌, min, List, ◌==◌}
use Rattle.std.specs.List.{before_first, after_first}

-- what stands before the first b, and what stands behind it
abbrev pub front_of : ℕ → List ℕ → List ℕ
front_of b xs = before_first (λ x. x == b) xs

abbrev pub behind_of : ℕ → List ℕ → List ℕ
behind_of b xs = after_first (λ x. x == b) xs

-- the greatest number of a table
abbrev pub most_number : ℕ
most_number = 1000000

-- one more decimal digit
abbrev pub grown_by_digit : ℕ → ℕ → ℕ
grown_by_digit value digit = min (10 * value + (digit - 48)) most_number
