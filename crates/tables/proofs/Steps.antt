-- Where an automaton that keeps the limits has no step, and the lowest step of a table that a row of cells shows.
use Rattle.std.proofs.Common.{ℕ, ◌+◌, ◌*◌, ◌^◌, ◌<◌, ◌≤◌, T, List, Option, MatchOption, get_or, ◌⊎◌, Some, None, ◌&&◌, ltb, arith, lt→ltb, ltb→lt}
use Rattle.omega.specs.Automata.{Meaning, Sound, Lowest}
use Rattle.omega.specs.Signals.{bit}
use Rattle.omega.specs.Tables.{table}
use Rattle.omega.proofs.Tests.{both_pass, parts_pass}

-- no step leaves what is no state, and none is by what is no letter
pub no_step_outside : (A : Meaning) → Sound A → (s a f : ℕ) → (A.states ≤ s) ⊎ (2 ^ A.signals ≤ a) → Lowest (A.step s a) f None
no_step_outside A S s a f outside k h step = omega (arith, S.leaves s a k step, S.letters s a k step)

-- the first cell from f on, in the row of the state s, that has the bit of the letter a is that of the lowest step
module _ (n p starts goods : ℕ) (cells : List ℕ) (s a f : ℕ) (state : s < n) where
  abbrev pub Has : ℕ → Type 0
  Has t = T (bit a (get_or cells (s * n + t) 0))

  pub first_is_lowest : (r : Option ℕ) → MatchOption r ((k : ℕ) → f ≤ k → k < n → Has k → ⊥) (λ t. (f ≤ t) × (t < n) × Has t × ((k : ℕ) → f ≤ k → k < t → Has k → ⊥)) → Lowest ((table n p starts goods cells).step s a) f r
  first_is_lowest None none = λ k low step.
      let (states, has) = parts_pass (ltb s n && ltb k n) _ step in
      none k low (ltb→lt k n (parts_pass (ltb s n) _ states).1) has
  first_is_lowest (Some t) (low, inside, has, none) = (low, both_pass (ltb s n && ltb t n) _ (both_pass (ltb s n) _ (lt→ltb s n state) (lt→ltb t n inside)) has, λ k from below step. none k from below (parts_pass (ltb s n && ltb k n) _ step).1)
