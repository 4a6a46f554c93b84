-- Promise. The strip: how a list of words tells a lasso or a ranking, when it is evidence, and what evidence is worth.
use Rattle.std.specs.Prelude.{◌≡◌, ℕ, ◌+◌, ◌*◌, ◌≤◌, Bool, not, ◌&&◌, ◌⊎◌, List, length, ◌==◌, nat_lt, slice_index}
use Rattle.omega.specs.Automata.{Meaning}
use Rattle.omega.specs.Words.{SomeWord}
use Rattle.omega.specs.Lassos.{Lasso}
use Rattle.omega.specs.Rankings.{Ranking}
use Rattle.evidence.specs.declared.verdict.Verdict.{Verdict}
use Rattle.evidence.specs.declared.verdict.Verdict.TheVariants as verdict

-- the first word of a strip
abbrev pub verdict_number : Verdict → ℕ
verdict_number verdict.Lasso = 1
verdict_number verdict.Ranking = 2

-- a word of a strip
abbrev pub word_at : List ℕ → ℕ → ℕ
word_at strip i = slice_index strip i

-- a lasso's strip is 1, m, q, and then states and letters in turn: s0, its letter, s1, its letter, up to s(m + q)
abbrev pub stem_of : List ℕ → ℕ
stem_of strip = word_at strip 1

abbrev pub loop_of : List ℕ → ℕ
loop_of strip = word_at strip 2

abbrev pub state_at : List ℕ → ℕ → ℕ
state_at strip i = word_at strip (3 + 2 * i)

abbrev pub letter_at : List ℕ → ℕ → ℕ
letter_at strip i = word_at strip (4 + 2 * i)

-- the strip's opening words are those of a lasso
pub record TellsLasso (A : Meaning) (strip : List ℕ) : Type 0 where
  pub verdict : word_at strip 0 ≡ verdict_number verdict.Lasso
  pub long : 4 + 2 * (stem_of strip + loop_of strip) ≤ length strip
  pub lasso : Lasso A (stem_of strip) (loop_of strip) (state_at strip) (letter_at strip)

-- the word for a state outside
abbrev pub outside : ℕ
outside = 4294967295

-- a ranking's strip is 2, n, 0, and then the numbers of the n states in their order
abbrev pub rank_at : List ℕ → ℕ → ℕ
rank_at strip s = word_at strip (3 + s)

abbrev pub inside_at : ℕ → List ℕ → ℕ → Bool
inside_at n strip s = nat_lt s n && not (rank_at strip s == outside)

-- the strip's opening words are those of a ranking
pub record TellsRanking (A : Meaning) (strip : List ℕ) : Type 0 where
  pub verdict : word_at strip 0 ≡ verdict_number verdict.Ranking
  pub states : word_at strip 1 ≡ A.states
  pub zero : word_at strip 2 ≡ 0
  pub long : 3 + A.states ≤ length strip
  pub ranking : Ranking A (inside_at A.states strip) (rank_at strip)

-- the strip is evidence: its opening words are those of a lasso or of a ranking, and it is not too short for what it claims
abbrev pub Evidence : Meaning → List ℕ → Type 0
Evidence A strip = TellsLasso A strip ⊎ TellsRanking A strip

-- what evidence is worth: a lasso shows an accepted word, and a ranking rules out every one
pub record Worth (A : Meaning) (strip : List ℕ) : Type 0 where
  pub lasso : word_at strip 0 ≡ verdict_number verdict.Lasso → SomeWord A
  pub ranking : word_at strip 0 ≡ verdict_number verdict.Ranking → SomeWord A → ⊥
