-- The search for a shortest path from a state back to itself.
use Rattle.std.proofs.Common.{◌≡◌, ℕ, suc, ◌+◌, ◌<◌, ◌≤◌, T, ◌↔◌, Option, None, Some, IsSome, refl, arith}
use native.Mathlib.Decide.{ℕ_discrete}
use Rattle.omega.specs.Automata.{Meaning}
use Rattle.omega.proofs.Paths.{Path}
use Rattle.distances.specs.Trees.{at}
use Rattle.distances.proofs.Visits.{sources_kept}
use Rattle.distances.proofs.Nearest.{searched_traced, path_past_head}
use Rattle.emptiness.proofs.Options.{at_most-more}
use Rattle.emptiness.specs.declared.breadth.Search.{Search}
use Rattle.emptiness.specs.Parts.{Searching, Visiting, AtMost, Joining, Return}

-- g is the only source, and no state done with has a step to it
pub record Returning (A : Meaning) (g : ℕ) (s : Search) : Type 0 where
  pub searching : Searching A s
  pub source : (u : ℕ) → (at s.distance.now u ≡ 1) ↔ (u ≡ g)
  pub closed : (i : ℕ) → i < s.head → (a : ℕ) → T (A.step (at s.queue.now i) a g) → ⊥

module _ {A : Meaning} {g : ℕ} {s : Search} (search : Returning A g s) where
  return_least : (k : ℕ) → Path A (suc k) g g → (s.head < s.end) × (at s.distance.now (at s.queue.now s.head) ≤ suc k)
  return_least k path =
      let one = (search.source g).1 refl in
      let (some, near) = path_past_head A (at s.distance.now) (at s.parent.now) (at s.queue.now) s.head s.end g search.searching.tree search.closed k g (omega arith) path in
      (some, omega arith)

  pub return_none : s.end ≤ s.head → (k : ℕ) → Path A (suc k) g g → ⊥
  return_none all k path = let some = (return_least k path).0 in omega arith

  pub return_far : (stem : ℕ) (best : Option ℕ) → AtMost best (stem + at s.distance.now (at s.queue.now s.head)) → (k : ℕ) → Path A (suc k) g g → AtMost best (stem + suc k)
  return_far stem best far k path = let least = (return_least k path).1 in at_most-more best (omega arith) far

  module _ (some : s.head < s.end) where
    pub return_found :
        (stem : ℕ) (best : Option ℕ) → (AtMost best (stem + at s.distance.now (at s.queue.now s.head)) → ⊥) → (a : Option ℕ) → IsSome a → Joining A (at s.queue.now s.head) g a →
        Return A g stem best s (at s.queue.now s.head)
    return_found stem best better None there step = absurd (cc)
    return_found stem best better (Some a) there step =
        record {
          round =
              record {
                traced = searched_traced search.searching;
                source = λ u. (search.source u).0;
                reached = search.searching.tree.queued s.head some;
                closes = (a, step);
              };
          better = better;
          least = λ k path. (return_least k path).1;
        }

    pub return-on :
        {s' : Search} → ((a : ℕ) → T (A.step (at s.queue.now s.head) a g) → ⊥) → Visiting A s s' → s'.head ≡ s.head + 1 → Returning A g s'
    return-on {s'} none V next =
        record {
          searching = V.searched;
          source = sources_kept s.distance.now s'.distance.now V.extends (λ u. u ≡ g) search.source;
          closed = λ i b a step.
              let step' : T (A.step (at s.queue.now i) a g) = rw (V.same i (omega arith)) at step in
              elim (ℕ_discrete i s.head) [ yes e ↦ none a (rw (← e) step') | no n ↦ search.closed i (omega arith) a step' ];
        }
