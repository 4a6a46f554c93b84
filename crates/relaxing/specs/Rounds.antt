-- Scaffolding, no promise: ranks on the way to the least ranking, what raising them keeps, and when nothing is left to raise.
use Rattle.std.specs.Prelude.{◌≡◌, ℕ, ◌+◌, ◌-◌, ◌<◌, ◌≤◌, Bool, true, false, cond, T, ◌≢◌, ◌⊎◌, List, [], ◌∷◌, length, ◌==◌, slice_index, slice_set}
use Rattle.omega.specs.Automata.{Meaning}
use Rattle.omega.proofs.Paths.{Reachable}
use Rattle.omega.proofs.Climbs.{Climb}
use Rattle.evidence.specs.Strips.{outside}

-- the ranks have s inside
abbrev pub Inside : List ℕ → ℕ → Type 0
Inside ranks s = (s < length ranks) × (slice_index ranks s ≢ outside)

-- no ranking gives s less than v: s is reachable, and some way from it leaves good states v times; v passes the number of states by one at most
pub record Earned (A : Meaning) (v s : ℕ) : Type 0 where
  pub reachable : Reachable A s
  pub climbs : Climb A v s
  pub low : v ≤ A.states + 1

-- every state has its word, every start is inside, and every rank is earned
pub record Forced (A : Meaning) (ranks : List ℕ) : Type 0 where
  pub long : length ranks ≡ A.states
  pub starts : (s : ℕ) → T (A.start s) → Inside ranks s
  pub earned : (s : ℕ) → Inside ranks s → Earned A (slice_index ranks s) s

-- the ranks before any is raised: 0 at each start, and the other states outside
abbrev pub rank_at_first : Bool → ℕ
rank_at_first start = cond start 0 outside

-- what a step to a state of rank `to` asks of the state left, good or not
abbrev pub asked : Bool → ℕ → ℕ
asked good to = to + cond good 1 0

-- a step from rank `from` to rank `to` asks nothing more; where a rank is above n, nothing is asked for its sake
abbrev pub Met : ℕ → Bool → ℕ → ℕ → Type 0
Met n good from to = (to ≢ outside) × (to ≤ n → asked good to ≤ from)

-- the step from s to t asks nothing more
abbrev pub StepMet : Meaning → List ℕ → ℕ → ℕ → Type 0
StepMet A ranks s t = Met A.states (A.good s) (slice_index ranks s) (slice_index ranks t)

-- no step from s by the letter a asks more
abbrev pub MetBy : Meaning → List ℕ → ℕ → ℕ → Type 0
MetBy A ranks s a = (t : ℕ) → T (A.step s a t) → StepMet A ranks s t

-- no step from s asks more, if s is inside
abbrev pub MetFrom : Meaning → List ℕ → ℕ → Type 0
MetFrom A ranks s = Inside ranks s → (a : ℕ) → MetBy A ranks s a

-- how often a rank can still be raised where the greatest is n + 1
abbrev pub room : ℕ → ℕ → ℕ
room n rank = cond (rank == outside) (n + 2) ((n + 1) - rank)

-- the room of all ranks
abbrev pub rooms : ℕ → List ℕ → ℕ
rooms n [] = 0
rooms n (rank ∷ ranks) = room n rank + rooms n ranks

-- what one step from s to t does to the ranks: t comes inside, or s is raised to what is asked, or nothing changes since nothing is asked
abbrev pub Relaxed : ℕ → Bool → ℕ → ℕ → List ℕ → List ℕ → Bool → Type 0
Relaxed n good s t before after changed =
    ((changed ≡ true) × (slice_index before t ≡ outside) × (after ≡ slice_set before t 0)) ⊎
    (((changed ≡ true) × (slice_index before t ≤ n) × (slice_index before s < asked good (slice_index before t)) × (after ≡ slice_set before s (asked good (slice_index before t)))) ⊎
    ((changed ≡ false) × Met n good (slice_index before s) (slice_index before t) × (after ≡ before)))

-- what steps did to the ranks: all are still earned, no state went outside, and nothing changed or there is less room
pub record Risen (A : Meaning) (before after : List ℕ) (changed : Bool) : Type 0 where
  pub forced : Forced A after
  pub inside : (s : ℕ) → Inside before s → Inside after s
  pub same : changed ≡ false → after ≡ before
  pub less : changed ≡ true → rooms A.states after < rooms A.states before

-- the ranks have risen, and if nothing changed then each number below i is done
abbrev pub Swept : Meaning → (List ℕ → ℕ → Type 0) → List ℕ → List ℕ → Bool → ℕ → Type 0
Swept A Done before after changed i = Risen A before after changed × (changed ≡ false → (k : ℕ) → k < i → Done after k)

-- a rank above n
abbrev pub TooHigh : ℕ → List ℕ → Type 0
TooHigh n ranks = (s : ℕ) × Inside ranks s × (n < slice_index ranks s)

-- no rank is above n
abbrev pub AllLow : ℕ → List ℕ → Type 0
AllLow n ranks = (s : ℕ) → Inside ranks s → slice_index ranks s ≤ n
