-- Promise. How many states, signals, starts, good states and steps an automaton has.
use Rattle.std.specs.Prelude.{◌≡◌, ℕ, ◌^◌, Bool}
use Rattle.std.specs.List.{count_by, sum_by, range_with_len}
use Rattle.omega.specs.Automata.{Meaning}
use Rattle.census.specs.declared.census.Census.{Census}

-- how many numbers below n pass the test
abbrev pub tally : (ℕ → Bool) → ℕ → ℕ
tally test n = count_by test (range_with_len 0 n)

-- what the numbers below n count together
abbrev pub total : (ℕ → ℕ) → ℕ → ℕ
total count n = sum_by count (range_with_len 0 n)

-- the steps out of a state by a letter, out of a state, and all steps
abbrev pub steps_by : Meaning → ℕ → ℕ → ℕ
steps_by A s a = tally (A.step s a) A.states

abbrev pub steps_from : Meaning → ℕ → ℕ
steps_from A s = total (steps_by A s) (2 ^ A.signals)

abbrev pub steps_of : Meaning → ℕ
steps_of A = total (steps_from A) A.states

-- these are the automaton's counts
pub record Counted (A : Meaning) (x : Census) : Type 0 where
  pub states : x.states ≡ A.states
  pub signals : x.signals ≡ A.signals
  pub starts : x.starts ≡ tally A.start A.states
  pub goods : x.goods ≡ tally A.good A.states
  pub steps : x.steps ≡ steps_of A
