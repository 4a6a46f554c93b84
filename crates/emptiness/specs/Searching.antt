-- Promise. What a search for a shortest lasso answers and leaves.
use Rattle.std.specs.Prelude.{◌≡◌, ℕ, ◌+◌, ◌*◌, ◌≤◌, List, length, replicate}
use Rattle.omega.specs.Automata.{Meaning}
use Rattle.omega.specs.Lassos.{SomeLasso, Fewest}
use Rattle.evidence.specs.declared.verdict.Verdict.{Verdict}
use Rattle.evidence.specs.declared.verdict.Verdict.TheVariants as verdict
use Rattle.evidence.specs.Strips.{word_at, stem_of, loop_of, state_at, letter_at, TellsLasso}

-- the strip tells a lasso that no other undercuts, and its later words are 0
pub record ShortestTold (A : Meaning) (strip : List ℕ) : Type 0 where
  pub tells : TellsLasso A strip
  pub fewest : Fewest A (stem_of strip) (loop_of strip) (state_at strip) (letter_at strip)
  pub rest : (k : ℕ) → 4 + 2 * (stem_of strip + loop_of strip) ≤ k → word_at strip k ≡ 0

-- what is found: a shortest lasso, which the strip tells; or there is none, and the strip is all 0
abbrev pub ShortestFound : Meaning → List ℕ → Verdict → Type 0
ShortestFound A strip verdict.Lasso = ShortestTold A strip
ShortestFound A strip verdict.Ranking = (SomeLasso A → ⊥) × (strip ≡ replicate (length strip) 0)
