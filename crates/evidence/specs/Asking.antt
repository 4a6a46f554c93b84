-- Scaffolding, no promise: what the code asks of a strip, one step or one state after another.
use Rattle.std.specs.Prelude.{ℕ, ◌+◌, ◌<◌, ◌≤◌, Bool, T, ◌≢◌, List, slice_index, slice_index_or}
use Rattle.omega.specs.Automata.{Meaning}
use Rattle.omega.specs.Rankings.{greatest_rank}
use Rattle.evidence.specs.Strips.{state_at, letter_at, outside}

-- step i of a lasso's strip is a step of the automaton
abbrev pub StepAt : Meaning → List ℕ → ℕ → Type 0
StepAt A strip i = T (A.step (state_at strip i) (letter_at strip i) (state_at strip (i + 1)))

-- a step from a state of rank `from`, good or not, may lead to one of rank `to`
abbrev pub Allowed : Bool → ℕ → ℕ → Type 0
Allowed good from to = (to ≢ outside) × (to ≤ from) × (T good → to < from)

-- the ranks allow every step from s by the letter a
abbrev pub AllowedBy : Meaning → List ℕ → ℕ → ℕ → Type 0
AllowedBy A ranks s a = (t : ℕ) → T (A.step s a t) → Allowed (A.good s) (slice_index ranks s) (slice_index ranks t)

-- the rank of state s is one that a ranking may give it: a number for a start, and with a number, which is not too great, every step is allowed
pub record Ranked (A : Meaning) (ranks : List ℕ) (s : ℕ) : Type 0 where
  pub small : slice_index_or ranks s 0 ≢ outside → slice_index ranks s ≤ greatest_rank
  pub starts : T (A.start s) → slice_index ranks s ≢ outside
  pub allowed : slice_index_or ranks s 0 ≢ outside → (a : ℕ) → AllowedBy A ranks s a
