-- Scaffolding, no promise: what a breadth-first search keeps.
use Rattle.std.specs.Prelude.{◌≡◌, ℕ, ◌+◌, ◌<◌, ◌≤◌, T, ◌≢◌, ◌⊎◌, List, length, slice_index}
use Rattle.omega.specs.Automata.{Meaning, most_states}

-- the word at a place, 0 past the end
abbrev pub at : List ℕ → ℕ → ℕ
at words i = slice_index words i

-- A breadth-first tree: d s is 1 more than the distance of s, or 0 where s is not reached; p s is the parent of s;
-- q is the queue of the `end` states reached, and the first `head` of them are done with. The sources are the states with d s ≡ 1.
pub record Tree (A : Meaning) (d p q : ℕ → ℕ) (head end : ℕ) : Type 0 where
  -- what is reached is a state
  pub states : (s : ℕ) → 0 < d s → s < A.states
  -- a state that is no source was reached by a step from its parent
  pub parents : (s : ℕ) → 1 < d s → (d s ≡ d (p s) + 1) × ((a : ℕ) × T (A.step (p s) a s))
  -- the queue holds exactly the states reached, each once, in rising distance
  pub queued : (i : ℕ) → i < end → 0 < d (q i)
  pub placed : (s : ℕ) → 0 < d s → (i : ℕ) × (i < end) × (q i ≡ s)
  pub once : (i j : ℕ) → i < j → j < end → q i ≢ q j
  pub rising : (i j : ℕ) → i ≤ j → j < end → d (q i) ≤ d (q j)
  -- no state in it is farther than a step from the head
  pub span : (i : ℕ) → i < end → head < end → d (q i) ≤ d (q head) + 1
  -- no distance passes the place in the queue
  pub near : (i : ℕ) → i < end → d (q i) ≤ i + 1
  -- all successors of what is done with are reached, in one step more at most
  pub done : (i a t : ℕ) → i < head → T (A.step (q i) a t) → (0 < d t) × (d t ≤ d (q i) + 1)

-- the same in lists with a word for each state
pub record Searched (A : Meaning) (distance parent queue : List ℕ) (head end : ℕ) : Type 0 where
  pub behind : head ≤ end
  pub distances : A.states ≤ length distance
  pub parents : A.states ≤ length parent
  pub places : A.states ≤ length queue
  pub tree : Tree A (at distance) (at parent) (at queue) head end

-- each state keeps its word, or is reached now, and not as a source
abbrev pub Extends : List ℕ → List ℕ → Type 0
Extends distance distance' = (s : ℕ) → (at distance' s ≡ at distance s) ⊎ ((at distance s ≡ 0) × (1 < at distance' s))

-- what visiting some successors of a state leaves, with its queue's first states as they were
pub record Visited (A : Meaning) (distance queue distance' parent' queue' : List ℕ) (head end end' : ℕ) : Type 0 where
  pub searched : Searched A distance' parent' queue' head end'
  pub grows : end ≤ end'
  pub extends : Extends distance distance'
  pub same : (i : ℕ) → i < end → at queue' i ≡ at queue i

-- the lists have words for the states s and t, and a place at the queue's end if t is not reached yet
pub record Room (distance parent queue : List ℕ) (end s t : ℕ) : Type 0 where
  pub known : s < length distance
  pub small : at distance s ≤ most_states
  pub next : t < length distance
  pub child : t < length parent
  pub few : end ≤ most_states
  pub place : at distance t ≡ 0 → end < length queue

-- the search has sources in its queue, and nothing else
pub record Begun (A : Meaning) (distance queue : List ℕ) (end : ℕ) : Type 0 where
  pub distances : A.states ≤ length distance
  pub places : A.states ≤ length queue
  pub tree : (p : ℕ → ℕ) → Tree A (at distance) p (at queue) 0 end
  pub sources : (s : ℕ) → 0 < at distance s → at distance s ≡ 1

-- the paths that a search leaves: each state reached has a path from a source, by its parents
pub record Traced (A : Meaning) (distance parent : List ℕ) : Type 0 where
  pub distances : A.states ≤ length distance
  pub parents : A.states ≤ length parent
  pub states : (s : ℕ) → 0 < at distance s → s < A.states
  pub near : (s : ℕ) → at distance s ≤ A.states
  pub steps : (s : ℕ) → 1 < at distance s → (at distance s ≡ at distance (at parent s) + 1) × ((a : ℕ) × T (A.step (at parent s) a s))
