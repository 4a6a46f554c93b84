-- The lasso in the strip against every lasso.
use Rattle.std.proofs.Common.{◌≡◌, ℕ, zero, suc, ◌+◌, ◌<◌, ◌≤◌, T, ◌↔◌, List, length, take, Option, None, Some, MatchOption, sym, ap, ◌∙◌, subst, arith}
use native.Mathlib.Decide.{ℕ_discrete}
use Rattle.std.proofs.lemmas.List.{get_or-take, length-take-le}
use Rattle.omega.specs.Automata.{Meaning}
use Rattle.omega.specs.Lassos.{Lasso, SomeLasso}
use Rattle.distances.specs.Trees.{at}
use Rattle.distances.proofs.Visits.{searched_fits}
use Rattle.distances.proofs.Nearest.{path-no-shorter, lasso_paths}
use Rattle.emptiness.proofs.Options.{at_most-more}
use Rattle.emptiness.specs.declared.breadth.Search.{Search}
use Rattle.emptiness.specs.Parts.{Searching, AtMost, TellsBest, TellsShortest, NoWorse, NoShorter}

-- where no lasso is shorter than the best, that is a shortest
shortest_told :
    {A : Meaning} (strip : List ℕ) (best : Option ℕ) → TellsBest A strip best → ((m q : ℕ) (state letter : ℕ → ℕ) → Lasso A m q state letter → AtMost best (m + q)) →
    MatchOption best (SomeLasso A → ⊥) (TellsShortest A strip)
shortest_told strip None told least = λ some. let (m, q, state, letter, lasso) = some in least m q state letter lasso
shortest_told strip (Some steps) (tells, count) least =
    record {
      tells = tells;
      fewest = record { lasso = tells.lasso; fewest = λ m q state letter lasso. let x = least m q state letter lasso in omega arith };
      count = count;
    }

-- the first i states of the order are tried: none begins the loop of a lasso of fewer than `best` steps
pub record Tried (A : Meaning) (distance order strip : List ℕ) (best : Option ℕ) (i : ℕ) : Type 0 where
  pub tells : TellsBest A strip best
  pub least : (j : ℕ) → j < i → T (A.good (at order j)) → NoShorter A (at order j) (at distance (at order j)) best

-- one state more
pub tried-more :
    {A : Meaning} {distance order strip strip' : List ℕ} {best best' : Option ℕ} {i : ℕ} (g : ℕ) → Tried A distance order strip best i → TellsBest A strip' best' → NoWorse best best' →
    (T (A.good g) → NoShorter A g (at distance g) best') → g ≡ at order i → Tried A distance order strip' best' (i + 1)
tried-more {A} {distance} {order} {strip} {strip'} {best} {best'} {i} g tried tells no_worse here is =
    record {
      tells = tells;
      least = λ j b.
          elim (ℕ_discrete j i) [
            | yes e ↦ subst (λ k. T (A.good k) → NoShorter A k (at distance k) best') (is ∙ ap (at order) (sym e)) here
            | no n ↦ (λ good k path. no_worse _ (tried.least j (omega arith) good k path))
          ];
    }

-- the states that are reached, in the queue's order
module _ {A : Meaning} (s : Search) (search : Searching A s) {order : List ℕ} (is : order ≡ take s.end s.queue.now) where
  pub order_long : length order ≡ s.end
  order_long = let fits = searched_fits search in let places = search.places in ap length is ∙ length-take-le s.end s.queue.now (omega arith)

  pub order_place : (i : ℕ) → i < length order → at order i ≡ at s.queue.now i
  order_place i b = let long = order_long in ap (λ words. at words i) is ∙ get_or-take s.end s.queue.now i 0 (omega arith)

module _ {A : Meaning} (s : Search) (search : Searching A s) (done : s.head ≡ s.end) (starts : (u : ℕ) → (at s.distance.now u ≡ 1) ↔ T (A.start u))
    {strip : List ℕ} {best : Option ℕ} {i : ℕ} (all : s.end ≤ i) (tried : Tried A s.distance.now s.queue.now strip best i) where
  no_shorter : (m q : ℕ) (state letter : ℕ → ℕ) → Lasso A m q state letter → AtMost best (m + q)
  no_shorter m zero state letter lasso = absurd (let loops = lasso.loops in omega arith)
  no_shorter m (suc q) state letter lasso =
      let (there, back) = lasso_paths A m (suc q) state letter lasso in
      let one = (starts (state 0)).1 lasso.begins in
      let tree = rw done at search.tree in
      let (reached, near) = path-no-shorter A (at s.distance.now) (at s.parent.now) (at s.queue.now) s.end tree m (state 0) (state m) (omega arith) there in
      let (j, b, place) = search.tree.placed (state m) reached in
      let far : at s.distance.now (at s.queue.now j) ≡ at s.distance.now (state m) = ap (at s.distance.now) {x = at s.queue.now j} place in
      at_most-more {m = at s.distance.now (at s.queue.now j) + q} best (omega arith) (tried.least j (omega arith) (rw place lasso.good) q (rw place back))

  pub best_shortest : MatchOption best (SomeLasso A → ⊥) (TellsShortest A strip)
  best_shortest = shortest_told strip best tried.tells no_shorter
