-- A path is told backwards, from its last state on, by the parents that a search left.
use Rattle.std.proofs.Common.{◌≡◌, ℕ, ◌+◌, ◌*◌, ◌<◌, ◌≤◌, T, ◌⊎◌, List, length, sym, subst}
use Rattle.omega.specs.Automata.{Meaning}
use Rattle.distances.specs.Trees.{at}
use Rattle.evidence.specs.Strips.{word_at, state_at, letter_at}

-- a step between equal states by an equal letter
pub step_same : (A : Meaning) (s s' a a' t t' : ℕ) → s ≡ s' → a ≡ a' → t ≡ t' → T (A.step s' a' t') → T (A.step s a t)
step_same A s s' a a' t t' x y z step =
    subst (λ u. T (A.step u a t)) (sym x) (subst (λ u. T (A.step s' u t)) (sym y) (subst (λ u. T (A.step s' a' u)) (sym z) step))

-- of the k steps to s, the first `left` are still to be told, up to t
pub record Telling (A : Meaning) (distance before strip : List ℕ) (o k s left t : ℕ) : Type 0 where
  pub few : left ≤ k
  pub far : at distance t ≡ left + 1
  pub here : state_at strip (o + left) ≡ t
  pub goes : (j : ℕ) → left ≤ j → j < k → T (A.step (state_at strip (o + j)) (letter_at strip (o + j)) (state_at strip (o + j + 1)))
  pub ends : state_at strip (o + k) ≡ s
  pub keeps : (j : ℕ) → (j < 3 + 2 * o) ⊎ (3 + 2 * (o + k) < j) → word_at strip j ≡ word_at before j
  pub fits : 4 + 2 * (o + k) ≤ length strip
