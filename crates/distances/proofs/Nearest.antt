-- What the distances of a search say of all paths, and how a search begins in lists.
use Rattle.std.proofs.Common.{◌≡◌, ℕ, zero, suc, ◌+◌, ◌<◌, ◌≤◌, T, ◌≢◌, ◌⊎◌, List, length, set, ap, subst, inl, inr, arith, length-set, get_or-set_other, get_or-set_same}
use Rattle.std.proofs.lemmas.Grind.{common_steps}
use native.Mathlib.Decide.{dec_lt}
use Rattle.omega.specs.Automata.{Meaning}
use Rattle.omega.specs.Lassos.{Lasso}
use Rattle.omega.proofs.Paths.{Path}
use Rattle.distances.specs.Trees.{at, Tree, Searched, Begun, Traced}
use Rattle.distances.proofs.Trees.{tree_begins, tree_empty}
use Rattle.distances.proofs.Visits.{queued-fits}

-- a finished search: no path from a source is shorter than the distance
pub path-no-shorter :
    (A : Meaning) (d p q : ℕ → ℕ) (end : ℕ) → Tree A d p q end end →
    (k s t : ℕ) → 0 < d s → Path A k s t → (0 < d t) × (d t ≤ d s + k)
path-no-shorter A d p q end tree zero s t seen e = grind (arith, seen, e)
path-no-shorter A d p q end tree (suc k) s t seen (a, u, step, path) =
    let (i, b, place) = tree.placed s seen in
    let (reached, low) = tree.done i a u b (rw place step) in
    grind (arith, low, place, path-no-shorter A d p q end tree k u t reached path)

-- a search broken off at its head, where no state done with has a step to g: no path to g is shorter than the head's distance
module _ (A : Meaning) (d p q : ℕ → ℕ) (head end g : ℕ) (tree : Tree A d p q head end) (closed : (i : ℕ) → i < head → (a : ℕ) → T (A.step (q i) a g) → ⊥) where
  -- what is reached is not nearer than the head, or all its successors are reached, and g is none of them
  head_or_done : (s a u : ℕ) → 0 < d s → T (A.step s a u) → ((head < end) × (d (q head) ≤ d s)) ⊎ ((0 < d u) × (d u ≤ d s + 1) × (u ≢ g))
  head_or_done s a u seen step =
      let (i, b, place) = tree.placed s seen in
      let step' : T (A.step (q i) a u) = rw place step in
      elim (dec_lt i head) [
        | yes before ↦
            (let (reached, low) = tree.done i a u before step' in
            inr (reached, grind (arith, low, place), λ e. closed i before a (rw (← e) step')))
        | no n ↦ inl (grind (arith, b, n), grind (arith, tree.rising head i, b, n, place))
      ]

  pub path_past_head : (k s : ℕ) → 0 < d s → Path A (suc k) s g → (head < end) × (d (q head) ≤ d s + k)
  path_past_head zero s seen (a, u, step, e) =
      elim (head_or_done s a u seen step) [ inl x ↦ (x.0, let y = x.1 in omega arith) | inr x ↦ absurd (x.2 e) ]
  path_past_head (suc k) s seen (a, u, step, path) =
      elim (head_or_done s a u seen step) [
        | inl x ↦ (x.0, let y = x.1 in omega arith)
        | inr x ↦ (let (some, far) = path_past_head k u x.0 path in let y = x.1 in (some, omega arith))
      ]

-- what a search leaves when it ends anywhere
pub searched_traced : {A : Meaning} {distance parent queue : List ℕ} {head end : ℕ} → Searched A distance parent queue head end → Traced A distance parent
searched_traced {A} {distance} found =
    record {
      distances = found.distances;
      parents = found.parents;
      states = found.tree.states;
      near = λ s.
          elim (dec_lt 0 (at distance s)) [
            | yes seen ↦ (let (i, b, place) = found.tree.placed s seen in let fits = queued-fits found i b in grind (arith, place, fits.near))
            | no n ↦ omega arith
          ];
      steps = found.tree.parents;
    }

-- a search begins with nothing reached, and one source more at a time
pub begun_empty : (A : Meaning) (distance queue : List ℕ) → A.states ≤ length distance → A.states ≤ length queue → ((s : ℕ) → at distance s ≡ 0) → Begun A distance queue 0
begun_empty A distance queue d q none =
    record {
      distances = d;
      places = q;
      tree = λ p. tree_empty A (at distance) p (at queue) none;
      sources = λ s seen. absurd (let z = none s in omega arith);
    }

pub begun_more :
    (A : Meaning) (distance queue : List ℕ) (end u : ℕ) → Begun A distance queue end → at distance u ≡ 0 → u < A.states → end < A.states →
    Begun A (set distance u 1) (set queue end u) (end + 1)
begun_more A distance queue end u begun new below room =
    let d = begun.distances in
    let q = begun.places in
    let here : at (set distance u 1) u ≡ 1 = get_or-set_same distance u 1 0 (omega arith) in
    let last : at (set queue end u) end ≡ u = get_or-set_same queue end u 0 (omega arith) in
    let others : (s : ℕ) → s ≢ u → at (set distance u 1) s ≡ at distance s = λ s n. get_or-set_other distance u s 1 0 n in
    let earlier : (i : ℕ) → i ≢ end → at (set queue end u) i ≡ at queue i = λ i n. get_or-set_other queue end i u 0 n in
    record {
      distances = rw (length-set distance u 1) d;
      places = rw (length-set queue end u) q;
      tree = λ p. tree_begins A (at distance) p (at queue) (at (set distance u 1)) p (at (set queue end u)) 0 end u (begun.tree p) new below others last earlier begun.sources here;
      sources = λ s. grind (arith, common_steps, begun.sources s);
    }

pub begun_searched : {A : Meaning} {distance queue : List ℕ} {end : ℕ} → Begun A distance queue end → (parent : List ℕ) → A.states ≤ length parent → Searched A distance parent queue 0 end
begun_searched begun parent room =
    record { behind = omega arith; distances = begun.distances; parents = room; places = begun.places; tree = begun.tree (at parent) }

-- n steps along states and letters are a path
chain-path :
    (A : Meaning) (n : ℕ) (state letter : ℕ → ℕ) → ((i : ℕ) → i < n → T (A.step (state i) (letter i) (state (i + 1)))) →
    (k i : ℕ) → i + k ≤ n → Path A k (state i) (state (i + k))
chain-path A n state letter goes zero i b = ap state (omega arith)
chain-path A n state letter goes (suc k) i b =
    let e : i + 1 + k ≡ i + suc k = omega arith in
    (letter i, state (i + 1), goes i (omega arith), subst (λ j. Path A k (state (i + 1)) (state j)) e (chain-path A n state letter goes k (i + 1) (omega arith)))

-- a lasso is a path from a start to a good state, and one from there back
pub lasso_paths : (A : Meaning) (m q : ℕ) (state letter : ℕ → ℕ) → Lasso A m q state letter → Path A m (state 0) (state m) × Path A q (state m) (state m)
lasso_paths A m q state letter lasso =
    let e : 0 + m ≡ m = omega arith in (
      subst (λ j. Path A m (state 0) (state j)) e (chain-path A (m + q) state letter lasso.goes m 0 (omega arith)),
      subst (Path A q (state m)) lasso.closes (chain-path A (m + q) state letter lasso.goes q m (omega arith)),
    )
