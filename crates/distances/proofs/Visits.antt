-- Visiting the successors of the queue's head, one after another and letter by letter, in lists.
use Rattle.std.proofs.Common.{◌≡◌, ℕ, ◌+◌, ◌<◌, ◌≤◌, ◌↔◌, T, ◌≢◌, List, length, set, Some, sym, refl, ◌∙◌, subst, inl, arith, length-set, get_or-set_other, get_or-set_same}
use Rattle.std.proofs.lemmas.Grind.{common_steps}
use native.Mathlib.Decide.{ℕ_discrete}
use Rattle.omega.specs.Automata.{Meaning, Sound, Lowest}
use Rattle.omega.proofs.Successors.{lowest_seen_more}
use Rattle.distances.specs.Trees.{at, Searched, Extends, Visited, Room}
use Rattle.distances.proofs.Queues.{tree_fits, new_fits}
use Rattle.distances.proofs.Trees.{tree_grows}

pub searched_fits : {A : Meaning} {distance parent queue : List ℕ} {head end : ℕ} → Searched A distance parent queue head end → end ≤ A.states
searched_fits {A} {distance} {parent} {queue} {head} {end} found = tree_fits A (at distance) (at parent) (at queue) head end found.tree

-- a state in the queue, and its distance
pub record Queued (A : Meaning) (distance queue : List ℕ) (end i : ℕ) : Type 0 where
  pub place : i < length queue
  pub state : at queue i < A.states
  pub inside : at queue i < length distance
  pub reached : 0 < at distance (at queue i)
  pub near : at distance (at queue i) ≤ A.states
  pub fits : end ≤ A.states

pub queued-fits :
    {A : Meaning} {distance parent queue : List ℕ} {head end : ℕ} → Searched A distance parent queue head end → (i : ℕ) → i < end → Queued A distance queue end i
queued-fits {A} {distance} {parent} {queue} found i b =
    let fits = searched_fits found in
    let seen = found.tree.queued i b in
    let state = found.tree.states (at queue i) seen in
    let near = found.tree.near i b in
    let d = found.distances in
    let q = found.places in
    record { place = omega arith; state = state; inside = omega arith; reached = seen; near = omega arith; fits = fits }

pub extends_seen : (distance distance' : List ℕ) → Extends distance distance' → (s : ℕ) → 0 < at distance s → 0 < at distance' s
extends_seen distance distance' ext s seen = omega (arith, ext s)

pub extends_on : (one two three : List ℕ) → Extends one two → Extends two three → Extends one three
extends_on one two three first second s = grind (arith, first s, second s)

-- the sources stay the sources
pub sources_kept :
    (one two : List ℕ) → Extends one two → (P : ℕ → Type 0) → ((s : ℕ) → (at one s ≡ 1) ↔ P s) → (s : ℕ) → (at two s ≡ 1) ↔ P s
sources_kept one two ext P sources s = grind (arith, ext s, sources s)

pub visited_none : {A : Meaning} {distance parent queue : List ℕ} {head end : ℕ} → Searched A distance parent queue head end → Visited A distance queue distance parent queue head end end
visited_none found = record { searched = found; grows = omega arith; extends = λ s. inl refl; same = λ i b. refl }

pub visited-on :
    {A : Meaning} {distance queue distance₁ parent₁ queue₁ distance₂ parent₂ queue₂ : List ℕ} {head₁ head₂ end end₁ end₂ : ℕ} →
    Visited A distance queue distance₁ parent₁ queue₁ head₁ end end₁ → Visited A distance₁ queue₁ distance₂ parent₂ queue₂ head₂ end₁ end₂ →
    Visited A distance queue distance₂ parent₂ queue₂ head₂ end end₂
visited-on {A} {distance} {queue} {distance₁} {parent₁} {queue₁} {distance₂} V W =
    let x = V.grows in
    let y = W.grows in
    record {
      searched = W.searched;
      grows = omega arith;
      extends = extends_on distance distance₁ distance₂ V.extends W.extends;
      same = λ i b. grind (arith, W.same i, V.same i b);
    }

-- the successors of the state s by the letter a below f are visited, where s is the head
pub record VisitedBelow (A : Meaning) (distance queue distance' parent' queue' : List ℕ) (head end end' s a f : ℕ) : Type 0 where
  pub visited : Visited A distance queue distance' parent' queue' head end end'
  pub some : head < end
  pub from_head : s ≡ at queue head
  pub seen : (t : ℕ) → t < f → T (A.step s a t) → 0 < at distance' t

-- one successor more
module _ {A : Meaning} (sound : Sound A) {distance queue distance' parent' queue' : List ℕ} {head end end' s a f t : ℕ}
    (V : VisitedBelow A distance queue distance' parent' queue' head end end' s a f) (next : Lowest (A.step s a) f (Some t)) where
  head_is : at queue' head ≡ s
  head_is = V.visited.same head V.some ∙ sym V.from_head

  head_there : head < end'
  head_there = let some = V.some in let grows = V.visited.grows in omega arith

  step : T (A.step (at queue' head) a t)
  step = subst (λ x. T (A.step x a t)) (sym head_is) next.1

  pub successor_room : Room distance' parent' queue' end' s t
  successor_room =
      let found = V.visited.searched in
      let head_fits = queued-fits found head head_there in
      let near = head_fits.near in
      let fits = head_fits.fits in
      let few = sound.few in
      let below = sound.enters s a t next.1 in
      let d = found.distances in
      let p = found.parents in
      let q = found.places in
      record {
        known = rw (← head_is) head_fits.inside;
        small = rw (← head_is) (omega arith);
        next = omega arith;
        child = omega arith;
        few = omega arith;
        place = λ new. let room = new_fits A (at distance') (at parent') (at queue') head end' found.tree t below new in omega arith;
      }

  adds : at distance' t ≡ 0 → Visited A distance' queue' (set distance' t (at distance' s + 1)) (set parent' t s) (set queue' end' t) head end' (end' + 1)
  adds new =
      let found = V.visited.searched in
      let behind = found.behind in
      let room = successor_room in
      let below = sound.enters s a t next.1 in
      let seen = found.tree.queued head head_there in
      record {
        searched =
            record {
              behind = omega arith;
              distances = rw (length-set distance' t (at distance' s + 1)) found.distances;
              parents = rw (length-set parent' t s) found.parents;
              places = rw (length-set queue' end' t) found.places;
              tree =
                  tree_grows A (at distance') (at parent') (at queue') (at (set distance' t (at distance' s + 1))) (at (set parent' t s)) (at (set queue' end' t)) head end' t found.tree new below
                  (λ x n. get_or-set_other distance' t x (at distance' s + 1) 0 n)
                  (get_or-set_same queue' end' t 0 (room.place new)) (λ x n. get_or-set_other queue' end' x t 0 n)
                  a head_there step (grind (arith, common_steps, room.next, head_is))
                  (grind (arith, common_steps, room.child, head_is)) (λ x n. get_or-set_other parent' t x s 0 n);
            };
        grows = omega arith;
        extends = λ x. grind (arith, common_steps, new, room.next, head_is, seen);
        same = λ i b. get_or-set_other queue' end' i t 0 (omega arith);
      }

  more : {distance'' parent'' queue'' : List ℕ} {end'' : ℕ} → Visited A distance' queue' distance'' parent'' queue'' head end' end'' → 0 < at distance'' t →
      VisitedBelow A distance queue distance'' parent'' queue'' head end end'' s a (t + 1)
  more {distance''} W here =
      record {
        visited = visited-on V.visited W;
        some = V.some;
        from_head = V.from_head;
        seen = lowest_seen_more (A.step s a) (λ u. 0 < at distance'' u) f (λ u b st. extends_seen distance' distance'' W.extends u (V.seen u b st)) t next here;
      }

  -- t is new
  pub new_visited : at distance' t ≡ 0 → VisitedBelow A distance queue (set distance' t (at distance' s + 1)) (set parent' t s) (set queue' end' t) head end (end' + 1) s a (t + 1)
  new_visited new = more (adds new) (let here = get_or-set_same distance' t (at distance' s + 1) 0 successor_room.next in omega arith)

  -- t was reached before
  pub old_visited : at distance' t ≢ 0 → VisitedBelow A distance queue distance' parent' queue' head end end' s a (t + 1)
  old_visited old = more (visited_none V.visited.searched) (omega arith)

-- the successors of the head by the letters below a are visited
pub record VisitedBy (A : Meaning) (distance queue distance' parent' queue' : List ℕ) (head end end' a : ℕ) : Type 0 where
  pub visited : Visited A distance queue distance' parent' queue' head end end'
  pub some : head < end
  pub seen : (x t : ℕ) → x < a → T (A.step (at queue head) x t) → 0 < at distance' t

module _ {A : Meaning} {distance queue distance' parent' queue' : List ℕ} {head end end' a : ℕ} (V : VisitedBy A distance queue distance' parent' queue' head end end' a) where
  -- one letter more
  pub letter-visited :
      {distance'' parent'' queue'' : List ℕ} {end'' : ℕ} → Visited A distance' queue' distance'' parent'' queue'' head end' end'' →
      ((t : ℕ) → T (A.step (at queue' head) a t) → 0 < at distance'' t) → VisitedBy A distance queue distance'' parent'' queue'' head end end'' (a + 1)
  letter-visited {distance''} W new =
      record {
        visited = visited-on V.visited W;
        some = V.some;
        seen = λ x t b step.
            elim (ℕ_discrete x a) [
              | yes e ↦ new t (rw (V.visited.same head V.some, ← e) step)
              | no n ↦ extends_seen distance' distance'' W.extends t (V.seen x t (omega arith) step)
            ];
      }
