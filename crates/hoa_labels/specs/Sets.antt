-- Scaffolding, no promise: the set of the letters that pass a test, as a number.
use Rattle.std.specs.Prelude.{ℕ, zero, suc, ◌+◌, ◌*◌, Bool, cond}

-- the letters below n for which the test holds, bit a for letter a
abbrev pub set_of : (ℕ → Bool) → ℕ → ℕ
set_of test zero = 0
set_of test (suc n) = cond (test 0) 1 0 + 2 * set_of (λ a. test (suc a)) n
