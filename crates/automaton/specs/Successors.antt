-- Promise. What an iterator over the targets of the steps by a letter has yet to give.
use Rattle.std.specs.Prelude.{◌≡◌, ℕ, ◌+◌, ◌≤◌, Bool, Some, None, Option}
use Rattle.omega.specs.Automata.{Meaning, Lowest}
use Rattle.automaton.specs.Questions.{Within}
use Rattle.automaton.specs.declared.stepping.Successors.{Successors}

-- the numbers from `from` on that pass the test, all of which are below `bound`
pub record Targets : Type 0 where
  pub test : ℕ → Bool
  pub bound : ℕ
  pub from : ℕ

-- the states from `from` on to which a step leads from s by the letter a
abbrev pub targets : Meaning → ℕ → ℕ → ℕ → Targets
targets A s a from = record { test = A.step s a; bound = A.states; from = from }

-- where the numbers are left: above the one that was given
abbrev pub above : ℕ → Option ℕ → ℕ
above from (Some t) = t + 1
above from None = from

module _ {X : Type 0} (meaning : X → Meaning) where
  -- what an iterator over an automaton of this meaning has left
  abbrev pub left : Successors X → Targets
  left it = targets (meaning it.automaton.now) it.state it.letter it.from

  -- x gives the lowest of what it has left, and then is y, which has those above it left
  pub record GivesLowest (x : Successors X) (given : Option ℕ) (y : Successors X) : Type 0 where
    pub lowest : Lowest (left x).test x.from given
    pub lands : Within (left x).bound given
    pub leaves : left y ≡ record { test = (left x).test; bound = (left x).bound; from = above x.from given }

  -- an iterator over the targets of s by a has those left that are not below its place
  pub record IsOver (A : Meaning) (s a : ℕ) (it : Successors X) : Type 0 where
    pub rest : left it ≡ targets A s a it.from
    pub inside : it.from ≤ A.states
