-- Scaffolding, no promise: what the parts of the search answer and leave.
use Rattle.std.specs.Prelude.{◌≡◌, ℕ, suc, ◌+◌, ◌*◌, ◌<◌, ◌≤◌, T, ◌≢◌, ◌⊎◌, List, length, replicate, slice_set, Some, None, Option, IfSome, IsSomeAnd}
use Rattle.omega.specs.Automata.{Meaning}
use Rattle.omega.specs.Lassos.{Fewest}
use Rattle.omega.proofs.Paths.{Path}
use Rattle.distances.specs.Trees.{at, Searched, Visited, Room, Traced}
use Rattle.evidence.specs.Strips.{word_at, stem_of, loop_of, state_at, letter_at, TellsLasso}
use Rattle.emptiness.specs.declared.breadth.Search.{Search}

-- a letter by which a step leads from s to t, or none where no step does
abbrev pub Joining : Meaning → ℕ → ℕ → Option ℕ → Type 0
Joining A s t (Some a) = T (A.step s a t)
Joining A s t None = (a : ℕ) → T (A.step s a t) → ⊥

-- the number is there, and at most m
abbrev pub AtMost : Option ℕ → ℕ → Type 0
AtMost number m = IsSomeAnd number (λ k. k ≤ m)

-- each list of a search has a word for each state
pub record Wide (A : Meaning) (s : Search) : Type 0 where
  pub distances : A.states ≤ length s.distance.now
  pub parents : A.states ≤ length s.parent.now
  pub places : A.states ≤ length s.queue.now

-- a search over the automaton, in which the states before the head are done with
abbrev pub Searching : Meaning → Search → Type 0
Searching A s = Searched A s.distance.now s.parent.now s.queue.now s.head s.end

-- some successors of the head are visited
abbrev pub Visiting : Meaning → Search → Search → Type 0
Visiting A old new = Visited A old.distance.now old.queue.now new.distance.now new.parent.now new.queue.now new.head old.end new.end

-- nothing is reached
abbrev pub cleared : Search → Search
cleared s = record s { distance = record s.distance { now = replicate (length s.distance.now) 0 }; head = 0; end = 0 }

-- t stands at the queue's end
abbrev pub pushed : Search → ℕ → Search
pushed s t = record s { queue = record s.queue { now = slice_set s.queue.now s.end t }; end = s.end + 1 }

-- t is reached as a source
abbrev pub with_source : Search → ℕ → Search
with_source s t = pushed (record s { distance = record s.distance { now = slice_set s.distance.now t 1 } }) t

-- t is reached by a step from u
abbrev pub with_child : Search → ℕ → ℕ → Search
with_child s u t =
    pushed (record s { distance = record s.distance { now = slice_set s.distance.now t (at s.distance.now u + 1) }; parent = record s.parent { now = slice_set s.parent.now t u } }) t

-- there are words for the states u and t, and a place at the queue's end if t is not reached yet
abbrev pub HasRoom : Search → ℕ → ℕ → Type 0
HasRoom s u t = Room s.distance.now s.parent.now s.queue.now s.end u t

-- t, not reached before, is reached by a step from u; or t was reached, and nothing changes
abbrev pub Reaching : Search → ℕ → ℕ → Search → Type 0
Reaching old u t new = ((at old.distance.now t ≡ 0) × (new ≡ with_child old u t)) ⊎ ((at old.distance.now t ≢ 0) × (new ≡ old))

-- the paths that a search leaves, anywhere in its course
abbrev pub Tracing : Meaning → Search → Type 0
Tracing A s = Traced A s.distance.now s.parent.now

-- the paths that a search leaves begin at starts
pub record FromStarts (A : Meaning) (s : Search) : Type 0 where
  pub traced : Tracing A s
  pub starts : (u : ℕ) → at s.distance.now u ≡ 1 → T (A.start u)

-- t is the last state of a path from g back to g, which the search leaves
pub record Round (A : Meaning) (g : ℕ) (s : Search) (t : ℕ) : Type 0 where
  pub traced : Tracing A s
  pub source : (u : ℕ) → at s.distance.now u ≡ 1 → u ≡ g
  pub reached : 0 < at s.distance.now t
  pub closes : (a : ℕ) × T (A.step t a g)

-- the same of a shortest such path, which behind a stem of so many steps takes fewer than `best` steps
pub record Return (A : Meaning) (g stem : ℕ) (best : Option ℕ) (s : Search) (t : ℕ) : Type 0 where
  pub round : Round A g s t
  pub better : AtMost best (stem + at s.distance.now t) → ⊥
  pub least : (k : ℕ) → Path A (suc k) g g → at s.distance.now t ≤ suc k

-- such a state, or no path from g back to g takes fewer than `best` steps behind the stem
abbrev pub Returns : Meaning → ℕ → ℕ → Option ℕ → Search → Option ℕ → Type 0
Returns A g stem best s (Some t) = Return A g stem best s t
Returns A g stem best s None = (k : ℕ) → Path A (suc k) g g → AtMost best (stem + suc k)

-- the strip tells a path of k steps from a source to s, from its state o on, and is as before elsewhere
pub record TellsPath (A : Meaning) (distance before strip : List ℕ) (o k s : ℕ) : Type 0 where
  pub begins : at distance (state_at strip o) ≡ 1
  pub goes : (i : ℕ) → i < k → T (A.step (state_at strip (o + i)) (letter_at strip (o + i)) (state_at strip (o + i + 1)))
  pub ends : state_at strip (o + k) ≡ s
  pub keeps : (j : ℕ) → (j < 3 + 2 * o) ⊎ (3 + 2 * (o + k) < j) → word_at strip j ≡ word_at before j

-- the strip tells a lasso of `best` steps, where one is found
abbrev pub TellsBest : Meaning → List ℕ → Option ℕ → Type 0
TellsBest A strip best = IfSome best (λ steps. TellsLasso A strip × (stem_of strip + loop_of strip ≡ steps))

-- the later best is no worse than the earlier
abbrev pub NoWorse : Option ℕ → Option ℕ → Type 0
NoWorse old new = (m : ℕ) → AtMost old m → AtMost new m

-- no lasso whose loop begins at g has fewer than `best` steps, where `far` is 1 more than the distance of g
abbrev pub NoShorter : Meaning → ℕ → ℕ → Option ℕ → Type 0
NoShorter A g far best = (k : ℕ) → Path A (suc k) g g → AtMost best (far + k)

-- the strip tells a lasso of so many steps that no other undercuts
pub record TellsShortest (A : Meaning) (strip : List ℕ) (steps : ℕ) : Type 0 where
  pub tells : TellsLasso A strip
  pub fewest : Fewest A (stem_of strip) (loop_of strip) (state_at strip) (letter_at strip)
  pub count : stem_of strip + loop_of strip ≡ steps
