-- Scaffolding, no promise: ranks from which the least ranking is told.
use Rattle.std.specs.Prelude.{ℕ, List}
use Rattle.omega.specs.Automata.{Meaning}
use Rattle.relaxing.specs.Rounds.{Forced, MetFrom, AllLow}

-- every rank is earned and low, and no step asks for more
pub record Settled (A : Meaning) (ranks : List ℕ) : Type 0 where
  pub forced : Forced A ranks
  pub low : AllLow A.states ranks
  pub met : (s : ℕ) → MetFrom A ranks s
