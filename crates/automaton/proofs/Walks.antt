-- A loop over the targets of the steps from a state by a letter: each turn has the lowest target that is left, and in the end every target was seen.
use Rattle.std.proofs.Common.{◌≡◌, ℕ, ◌<◌, T, Some, None, Option, sym, subst, ap, ◌∙◌, arith}
use Rattle.omega.specs.Automata.{Meaning, Lowest}
use Rattle.omega.proofs.Successors.{none_left_all_seen}
use Rattle.automaton.specs.Questions.{Within}
use Rattle.automaton.specs.declared.stepping.Successors.{Successors}
use Rattle.automaton.specs.Successors.{Targets, targets, above, left, GivesLowest, IsOver}

-- what is left is given, where it is `xs`
record Turn (xs : Targets) (given : Option ℕ) (ys : Targets) : Type 0 where
  lowest : Lowest xs.test xs.from given
  lands : Within xs.bound given
  leaves : ys ≡ record { test = xs.test; bound = xs.bound; from = above xs.from given }

module _ {X : Type 0} {meaning : X → Meaning} {A : Meaning} {s a : ℕ} where
  module _ {x y : Successors X} (over : IsOver meaning A s a x) {given : Option ℕ} (gives : GivesLowest meaning x given y) where
    turn : Turn (targets A s a x.from) given (left meaning y)
    turn = subst (λ xs. Turn xs given (left meaning y)) over.rest (record { lowest = gives.lowest; lands = gives.lands; leaves = gives.leaves })

    -- the target in hand is the lowest that is left
    pub over_lowest : Lowest (A.step s a) x.from given
    over_lowest = turn.lowest

    -- it is a state
    pub over_lands : Within A.states given
    over_lands = turn.lands

    -- the place is above it
    pub over_above : y.from ≡ above x.from given
    over_above = ap (λ xs. xs.from) turn.leaves

  module _ {x y : Successors X} (over : IsOver meaning A s a x) {t : ℕ} (gives : GivesLowest meaning x (Some t) y) where
    -- the loop goes on over the targets above it
    pub over_more : IsOver meaning A s a y
    over_more =
        record {
          rest = (turn over gives).leaves ∙ ap (targets A s a) (sym (over_above over gives));
          inside = omega (arith, over_above over gives, over_lands over gives);
        }

  module _ (P : ℕ → Type 0) {x y : Successors X} (over : IsOver meaning A s a x) (seen : (k : ℕ) → k < x.from → T (A.step s a k) → P k) where
    -- every target was seen
    pub over_all_seen : GivesLowest meaning x None y → (k : ℕ) → T (A.step s a k) → P k
    over_all_seen gives = none_left_all_seen (A.step s a) P x.from seen (over_lowest over gives)
