-- A chain over the targets of the steps from a state by a letter: it goes over the states that pass, in order.
use Rattle.std.proofs.Common.{◌≡◌, ℕ, zero, suc, ◌+◌, ◌-◌, ◌<◌, ◌≤◌, Bool, true, false, cond, T, Some, None, List, [], ◌∷◌, length, refl, sym, ap, ◌∙◌, subst, ⊎_elim, arith}
use Rattle.std.specs.List.{filter, range_with_len}
use Rattle.std.proofs.lemmas.Bool.{cases_lt}
use Rattle.std.proofs.lemmas.Iterator.{YieldsList}
use Rattle.std.proofs.lemmas.Iterator.Consumers.{YieldsList-from_shown}
use Rattle.omega.specs.Automata.{Meaning}
use Rattle.automaton.specs.declared.stepping.Successors.{Successors}
use Rattle.automaton.specs.Successors.{Targets, targets, left, GivesLowest}

-- the targets that are left, as a list
abbrev pub listed : Targets → List ℕ
listed x = filter x.test (range_with_len x.from (x.bound - x.from))

fails : (b : Bool) → (T b → ⊥) → b ≡ false
fails true none = absurd (none tt)
fails false none = refl

passes : (b : Bool) → T b → b ≡ true
passes true h = refl
passes false h = absurd h

module _ (test : ℕ → Bool) where
  pub filter_none : (n from : ℕ) → ((k : ℕ) → from ≤ k → T (test k) → ⊥) → filter test (range_with_len from n) ≡ []
  filter_none zero from none = refl
  filter_none (suc n) from none =
      ap (λ b. cond b (from ∷ filter test (range_with_len (from + 1) n)) (filter test (range_with_len (from + 1) n))) (fails (test from) (none from (omega arith)))
      ∙ filter_none n (from + 1) (λ k late. none k (omega arith))

  pub filter_lowest : (n from t : ℕ) → from ≤ t → t < from + n → T (test t) → ((k : ℕ) → from ≤ k → k < t → T (test k) → ⊥) → filter test (range_with_len from n) ≡ t ∷ filter test (range_with_len (t + 1) (from + n - (t + 1)))
  filter_lowest zero from t low high here first = absurd (omega arith)
  filter_lowest (suc n) from t low high here first =
      let rest = filter test (range_with_len (from + 1) n) in
      ⊎_elim
      (λ later.
      let e : from + 1 + n - (t + 1) ≡ from + suc n - (t + 1) = omega arith in
      ap (λ b. cond b (from ∷ rest) rest) (fails (test from) (first from (omega arith) later))
      ∙ filter_lowest n (from + 1) t (omega arith) (omega arith) here (λ k late before. first k (omega arith) before)
      ∙ ap (λ m. t ∷ filter test (range_with_len (t + 1) m)) e)
      (λ not_later.
      let same : from ≡ t = omega arith in
      let e : n ≡ from + suc n - (from + 1) = omega arith in
      ap (λ b. cond b (from ∷ rest) rest) (passes (test from) (rw same here))
      ∙ ap (λ m. from ∷ filter test (range_with_len (from + 1) m)) e
      ∙ ap (λ k. k ∷ filter test (range_with_len (k + 1) (from + suc n - (k + 1)))) same)
      (cases_lt from t)

module _ {X : Type 0} (meaning : X → Meaning) where
  shown : Successors X → List ℕ
  shown it = listed (left meaning it)

  none_shown : (x y : Successors X) → GivesLowest meaning x None y → length (shown x) ≡ 0
  unfolding shown
  none_shown x y gives = ap length (filter_none (left meaning x).test ((left meaning x).bound - x.from) x.from gives.lowest)

  lowest_shown : (x : Successors X) (t : ℕ) (y : Successors X) → GivesLowest meaning x (Some t) y → shown x ≡ t ∷ shown y
  unfolding shown
  lowest_shown x t y gives =
      let n = (left meaning x).bound in
      let e : x.from + (n - x.from) - (t + 1) ≡ n - (t + 1) = omega (arith, gives.lowest.0, gives.lands) in
      filter_lowest (left meaning x).test (n - x.from) x.from t gives.lowest.0 (omega (arith, gives.lowest.0, gives.lands)) gives.lowest.1 gives.lowest.2
      ∙ ap (λ m. t ∷ filter (left meaning x).test (range_with_len (t + 1) m)) e
      ∙ ap (λ z. t ∷ listed z) (sym gives.leaves)

  -- all targets of s by a, lowest first
  pub successors_yield : (A : Meaning) (s a : ℕ) (it : Successors X) → left meaning it ≡ targets A s a 0 → YieldsList (GivesLowest meaning) (λ x. x) it (filter (A.step s a) (range_with_len 0 A.states))
  unfolding shown
  successors_yield A s a it whole =
      let e : A.states - 0 ≡ A.states = omega arith in
      subst (λ xs. YieldsList (GivesLowest meaning) (λ x. x) it xs) (ap listed whole ∙ ap (λ n. filter (A.step s a) (range_with_len 0 n)) e) (YieldsList-from_shown (GivesLowest meaning) (λ x. x) shown none_shown lowest_shown it)
