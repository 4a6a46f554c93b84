-- Promise. What deciding an automaton answers and leaves.
use Rattle.std.specs.Prelude.{◌≡◌, ℕ, ◌+◌, ◌≤◌, List, length, replicate}
use Rattle.omega.specs.Automata.{Meaning}
use Rattle.omega.specs.Lassos.{SomeLasso}
use Rattle.omega.specs.Rankings.{Least}
use Rattle.evidence.specs.declared.verdict.Verdict.{Verdict}
use Rattle.evidence.specs.declared.verdict.Verdict.TheVariants as verdict
use Rattle.evidence.specs.Strips.{word_at, rank_at, inside_at, TellsRanking}

-- the strip tells the least ranking, and its later words are 0
pub record LeastTold (A : Meaning) (strip : List ℕ) : Type 0 where
  pub tells : TellsRanking A strip
  pub least : Least A (inside_at A.states strip) (rank_at strip)
  pub rest : (k : ℕ) → 3 + A.states ≤ k → word_at strip k ≡ 0

-- what is decided: there is a lasso, and the strip is all 0; or there is none, and the strip tells the least ranking
abbrev pub RankingFound : Meaning → List ℕ → Verdict → Type 0
RankingFound A strip verdict.Lasso = SomeLasso A × (strip ≡ replicate (length strip) 0)
RankingFound A strip verdict.Ranking = LeastTold A strip
