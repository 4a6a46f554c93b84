-- Promise. What recheck of a sheet and a rule answers, and what a yes is worth.
use Rattle.std.specs.Prelude.{◌≡◌, ℕ, Bool, T, ◌↔◌, List, Ok, Err, Result}
use Rattle.omega.specs.Automata.{Meaning}
use Rattle.omega.specs.Words.{SharedWord}
use Rattle.omega.specs.Pairs.{pair}
use Rattle.automaton.specs.declared.refusal.PartsRefusal.{PartsRefusal}
use Rattle.automaton.specs.Parts.{Fit, Unfit}
use Rattle.evidence.specs.declared.verdict.Verdict.TheVariants as verdict
use Rattle.evidence.specs.Strips.{verdict_number, word_at, Evidence}

-- refused where sheet and rule make no pair; else yes exactly when the strip is evidence for their pair
abbrev pub RightRecheck : Meaning → Meaning → List ℕ → Result Bool PartsRefusal → Type 0
RightRecheck S R strip (Ok told) = Fit S R × (T told ↔ Evidence (pair S R) strip)
RightRecheck S R strip (Err e) = Unfit S R e

-- a yes to a lasso shows a word that both accept, and a yes to a ranking rules out every one
pub record SharedWorth (S R : Meaning) (strip : List ℕ) : Type 0 where
  pub lasso : word_at strip 0 ≡ verdict_number verdict.Lasso → SharedWord S R
  pub ranking : word_at strip 0 ≡ verdict_number verdict.Ranking → SharedWord S R → ⊥

-- what an answer is worth
abbrev pub AnswerWorth : Meaning → Meaning → List ℕ → Result Bool PartsRefusal → Type 0
AnswerWorth S R strip (Ok told) = T told → SharedWorth S R strip
AnswerWorth S R strip (Err e) = Unit {0}
