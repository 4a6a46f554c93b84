-- A search begins at the starts, one after another.
use Rattle.std.proofs.Common.{◌≡◌, ℕ, ◌+◌, ◌<◌, ◌≤◌, T, ◌↔◌, List, length, set, replicate, arith}
use Rattle.std.proofs.lemmas.Grind.{common_steps}
use lib.ListN.{length-replicate}
use Rattle.omega.specs.Automata.{Meaning}
use Rattle.tables.proofs.Added.{zero_everywhere}
use Rattle.distances.specs.Trees.{at, Begun}
use Rattle.distances.proofs.Nearest.{begun_empty, begun_more, begun_searched}
use Rattle.emptiness.specs.declared.breadth.Search.{Search}
use Rattle.emptiness.specs.Parts.{Wide, Searching, cleared, with_source}

-- nothing is reached yet
pub begun_cleared : {A : Meaning} (s : Search) → Wide A s → Begun A (cleared s).distance.now s.queue.now 0
begun_cleared {A} s wide =
    let n : ℕ = length s.distance.now in
    begun_empty A (replicate n 0) s.queue.now (rw (length-replicate {A = ℕ} n 0) wide.distances) wide.places (zero_everywhere n)

-- one source alone
pub begun_at : {A : Meaning} (s : Search) → Wide A s → (g : ℕ) → g < A.states → Searching A (with_source (cleared s) g)
begun_at {A} s wide g below =
    let n : ℕ = length s.distance.now in
    begun_searched (begun_more A (replicate n 0) s.queue.now 0 g (begun_cleared s wide) (zero_everywhere n g) below (omega arith)) s.parent.now wide.parents

-- the starts below k are the sources
pub record StartsBelow (A : Meaning) (distance queue : List ℕ) (end k : ℕ) : Type 0 where
  pub few : end ≤ k
  pub begun : Begun A distance queue end
  pub sources : (s : ℕ) → (at distance s ≡ 1) ↔ (T (A.start s) × (s < k))

module _ {A : Meaning} {distance queue : List ℕ} {end k : ℕ} (starts : StartsBelow A distance queue end k) (below : k < A.states) where
  new_start : at distance k ≡ 0
  new_start = grind (arith, starts.sources k, starts.begun.sources k)

  pub start_more : T (A.start k) → StartsBelow A (set distance k 1) (set queue end k) (end + 1) (k + 1)
  start_more start =
      let few = starts.few in
      let room = starts.begun.distances in
      record {
        few = omega arith;
        begun = begun_more A distance queue end k starts.begun new_start below (omega arith);
        sources = λ s. grind (arith, common_steps, starts.sources s);
      }

  pub start_skip : (T (A.start k) → ⊥) → StartsBelow A distance queue end (k + 1)
  start_skip none =
      let few = starts.few in
      record { few = omega arith; begun = starts.begun; sources = λ s. grind (arith, starts.sources s) }
