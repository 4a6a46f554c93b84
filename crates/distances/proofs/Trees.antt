-- A tree begins with its sources, and grows by a new successor of the head at the queue's end.
use Rattle.std.proofs.Common.{◌≡◌, ℕ, ◌+◌, ◌<◌, ◌≤◌, T, ◌≢◌, ◌⊎◌, sym, ap, ◌∙◌, arith}
use native.Mathlib.Decide.{ℕ_discrete}
use Rattle.omega.specs.Automata.{Meaning}
use Rattle.distances.specs.Trees.{Tree}

-- the state u is reached anew, and stands at the queue's end
module _ (A : Meaning) (d p q d⁺ p⁺ q⁺ : ℕ → ℕ) (head end u : ℕ) (tree : Tree A d p q head end) (new : d u ≡ 0) (below : u < A.states)
    (d-other : (s : ℕ) → s ≢ u → d⁺ s ≡ d s) (q-end : q⁺ end ≡ u) (q-other : (i : ℕ) → i ≢ end → q⁺ i ≡ q i) where
  reached_apart : (s : ℕ) → 0 < d s → s ≢ u
  reached_apart s seen e = let same = ap d e in omega arith

  reached_kept : (s : ℕ) → 0 < d s → d⁺ s ≡ d s
  reached_kept s seen = d-other s (reached_apart s seen)

  queued_kept : (i : ℕ) → i < end → d⁺ (q⁺ i) ≡ d (q i)
  queued_kept i b = grind (arith, q-other i, reached_kept (q i), tree.queued i)

  queued_cases : (i : ℕ) → i < end + 1 → ((i < end) × (d⁺ (q⁺ i) ≡ d (q i))) ⊎ ((i ≡ end) × (d⁺ (q⁺ i) ≡ d⁺ u))
  queued_cases i b = grind (arith, queued_kept i, q-end)

  placed⁺ : (s : ℕ) → 0 < d⁺ s → (i : ℕ) × (i < end + 1) × (q⁺ i ≡ s)
  placed⁺ s seen =
      elim (ℕ_discrete s u) [
        | yes e ↦ (end, omega arith, q-end ∙ sym e)
        | no n ↦ (let kept = d-other s n in let (i, b, at) = tree.placed s (omega arith) in (i, omega arith, q-other i (omega arith) ∙ at))
      ]

  states⁺ : (s : ℕ) → 0 < d⁺ s → s < A.states
  states⁺ s seen = grind (arith, d-other s, tree.states s)

  once⁺ : (i j : ℕ) → i < j → j < end + 1 → q⁺ i ≢ q⁺ j
  once⁺ i j before b = grind (arith, q-other i, q-other j, q-end, tree.once i j, tree.queued i, reached_apart (q i))

  -- as one more source
  module _ (sources : (s : ℕ) → 0 < d s → d s ≡ 1) (source : d⁺ u ≡ 1) where
    pub sources_more : (s : ℕ) → 0 < d⁺ s → d⁺ s ≡ 1
    sources_more s seen = grind (arith, d-other s, sources s, source)

    queued_source : (i : ℕ) → i < end + 1 → d⁺ (q⁺ i) ≡ 1
    queued_source i b = grind (arith, queued_cases i b, sources (q i), tree.queued i, source)

    pub tree_begins : Tree A d⁺ p⁺ q⁺ 0 (end + 1)
    tree_begins =
        record {
          states = states⁺;
          parents = λ s far. grind (arith, sources_more s);
          queued = λ i b. grind (arith, queued_source i b);
          placed = placed⁺;
          once = once⁺;
          rising = λ i j before b. grind (arith, queued_source i, queued_source j);
          span = λ i b some. grind (arith, queued_source i);
          near = λ i b. grind (arith, queued_source i);
          done = λ i a t b. absurd (omega arith);
        }

  -- by a step from the head
  module _ (a : ℕ) (some : head < end) (step : T (A.step (q head) a u)) (farther : d⁺ u ≡ d (q head) + 1) (p-new : p⁺ u ≡ q head) (p-other : (s : ℕ) → s ≢ u → p⁺ s ≡ p s) where
    head_seen : 0 < d (q head)
    head_seen = tree.queued head some

    rising⁺ : (i j : ℕ) → i ≤ j → j < end + 1 → d⁺ (q⁺ i) ≤ d⁺ (q⁺ j)
    rising⁺ i j before b = grind (arith, queued_cases i, queued_cases j b, tree.rising i j, tree.span i, some, farther)

    parents⁺ : (s : ℕ) → 1 < d⁺ s → (d⁺ s ≡ d⁺ (p⁺ s) + 1) × ((c : ℕ) × T (A.step (p⁺ s) c s))
    parents⁺ s far =
        elim (ℕ_discrete s u) [
          | yes e ↦
              (let from : p⁺ s ≡ q head = ap p⁺ e ∙ p-new in
              (grind (arith, from, farther, reached_kept (q head) head_seen), (a, rw (from, e) step)))
          | no n ↦
              (let (farther, (c, st)) = tree.parents s (grind (arith, d-other s)) in
              let from = p-other s n in
              (grind (arith, from, d-other s, reached_kept (p s)), (c, rw from st)))
        ]

    pub tree_grows : Tree A d⁺ p⁺ q⁺ head (end + 1)
    tree_grows =
        record {
          states = states⁺;
          parents = parents⁺;
          queued = λ i b. grind (arith, queued_cases i b, tree.queued i, farther);
          placed = placed⁺;
          once = once⁺;
          rising = rising⁺;
          span = λ i b _. grind (arith, queued_kept head some, queued_cases i b, tree.span i, farther);
          near = λ i b. grind (arith, queued_cases i b, tree.near i, tree.near head some, farther);
          done = λ i c t b st. grind (arith, tree.done i c t b, q-other i, st, reached_kept t, queued_kept i);
        }

-- nothing is reached, and there is no source
pub tree_empty : (A : Meaning) (d p q : ℕ → ℕ) → ((s : ℕ) → d s ≡ 0) → Tree A d p q 0 0
tree_empty A d p q none =
    record {
      states = λ s seen. grind (arith, none s);
      parents = λ s seen. grind (arith, none s);
      queued = λ i b. absurd (omega arith);
      placed = λ s seen. grind (arith, none s);
      once = λ i j before b. absurd (omega arith);
      rising = λ i j before b. absurd (omega arith);
      span = λ i b. absurd (omega arith);
      near = λ i b. absurd (omega arith);
      done = λ i a t b. absurd (omega arith);
    }
