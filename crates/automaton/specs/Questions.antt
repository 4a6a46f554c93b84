-- Promise. What the answer of `next` is, besides the lowest target.
use Rattle.std.specs.Prelude.{ℕ, ◌<◌, Some, None, Option}

-- the answer, if there is one, is below n
abbrev pub Within : ℕ → Option ℕ → Type 0
Within n (Some t) = t < n
Within n None = Unit {0}
