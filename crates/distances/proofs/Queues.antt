-- A queue in which each state stands once has room for a state that it lacks.
use Rattle.std.proofs.Common.{◌≡◌, ℕ, ◌+◌, ◌<◌, ◌≤◌, ◌≢◌, ◌⊎◌, arith}
use native.Mathlib.Decide.{dec_le}
use Rattle.omega.specs.Automata.{Meaning}
use Rattle.omega.proofs.Pigeonhole.{pigeonhole}
use Rattle.omega.proofs.Updates.{put, put_cases}
use Rattle.distances.specs.Trees.{Tree}

pub queue_fits : (n end : ℕ) (q : ℕ → ℕ) → ((i : ℕ) → i < end → q i < n) → ((i j : ℕ) → i < j → j < end → q i ≢ q j) → end ≤ n
queue_fits n end q below once =
    elim (dec_le end n) [
      | yes fits ↦ fits
      | no past ↦ absurd (let (i, j, before, b, same) = pigeonhole n q (λ i b. below i (omega arith)) in once i j before (omega arith) same)
    ]

module _ (A : Meaning) (d p q : ℕ → ℕ) (head end : ℕ) (tree : Tree A d p q head end) where
  pub tree_fits : end ≤ A.states
  tree_fits = queue_fits A.states end q (λ i b. tree.states (q i) (tree.queued i b)) tree.once

  pub new_fits : (u : ℕ) → u < A.states → d u ≡ 0 → end < A.states
  new_fits u below new =
      let fits = queue_fits A.states (end + 1) more (λ i b. low i b (put_cases q end u i)) (λ i j before b. apart i j before b (put_cases q end u i) (put_cases q end u j)) in
      omega arith
    where
      more : ℕ → ℕ
      more = put q end u

      low : (i : ℕ) → i < end + 1 → ((i ≡ end) × (more i ≡ u)) ⊎ ((i ≢ end) × (more i ≡ q i)) → more i < A.states
      low i b cases = grind (arith, cases, tree.states (q i), tree.queued i)

      apart : (i j : ℕ) → i < j → j < end + 1 → ((i ≡ end) × (more i ≡ u)) ⊎ ((i ≢ end) × (more i ≡ q i)) → ((j ≡ end) × (more j ≡ u)) ⊎ ((j ≢ end) × (more j ≡ q j)) → more i ≢ more j
      apart i j before b cases cases' e = grind (arith, cases, cases', e, new, tree.queued i, tree.once i j)
