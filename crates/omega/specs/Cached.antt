-- Scaffolding. What the code of a pair works with: the numbers that it keeps.
-- The type of a pair does not carry that its parts fit, so the numbers that it keeps are clipped where they are used.
use Rattle.std.specs.Prelude.{ℕ, min, cond, ◌==◌}
use Rattle.omega.specs.Automata.{Meaning, most_states}
use Rattle.omega.specs.Pairs.{numbered}

-- n states, at most the limit, and none without a column
abbrev pub usable : ℕ → ℕ → ℕ
usable n w = cond (w == 0) 0 (min n most_states)

-- what a pair means that keeps n states and w columns
abbrev pub cached : ℕ → ℕ → Meaning → Meaning → Meaning
cached n w A B = numbered (usable n w) w A B
