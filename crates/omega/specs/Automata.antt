-- Promise. What an automaton is, the limits that each keeps, and when two mean the same.
use Rattle.std.specs.Prelude.{◌≡◌, ℕ, ◌^◌, ◌<◌, ◌≤◌, Bool, T, Some, None, Option}

-- the meaning of an automaton: states 0 to `states` - 1, letters 0 to 2 ^ `signals` - 1, starts, good states, and steps by letters
pub record Meaning : Type 0 where
  pub states : ℕ
  pub signals : ℕ
  pub start : ℕ → Bool
  pub good : ℕ → Bool
  pub step : ℕ → ℕ → ℕ → Bool

-- the most states and the most signals that an automaton may have
abbrev pub most_states : ℕ
most_states = 65536

abbrev pub most_signals : ℕ
most_signals = 4

-- the limits are kept, and only states and letters that there are occur
pub record Sound (A : Meaning) : Type 0 where
  pub few : A.states ≤ most_states
  pub narrow : A.signals ≤ most_signals
  pub starts : (s : ℕ) → T (A.start s) → s < A.states
  pub goods : (s : ℕ) → T (A.good s) → s < A.states
  pub leaves : (s a t : ℕ) → T (A.step s a t) → s < A.states
  pub letters : (s a t : ℕ) → T (A.step s a t) → a < 2 ^ A.signals
  pub enters : (s a t : ℕ) → T (A.step s a t) → t < A.states

-- two automata mean the same: they agree at every point
pub record Same (A B : Meaning) : Type 0 where
  pub states : A.states ≡ B.states
  pub signals : A.signals ≡ B.signals
  pub start : (s : ℕ) → A.start s ≡ B.start s
  pub good : (s : ℕ) → A.good s ≡ B.good s
  pub step : (s a t : ℕ) → A.step s a t ≡ B.step s a t

-- the lowest number, not below f, that passes the test, or none where none passes
abbrev pub Lowest : (ℕ → Bool) → ℕ → Option ℕ → Type 0
Lowest test f (Some t) = (f ≤ t) × T (test t) × ((k : ℕ) → f ≤ k → k < t → T (test k) → ⊥)
Lowest test f None = (k : ℕ) → f ≤ k → T (test k) → ⊥
