-- Promise. The verdict that a word is read as.
use Rattle.std.specs.Prelude.{◌≡◌, ℕ, ◌≢◌, Result, MatchResult}
use Rattle.evidence.specs.declared.verdict.Verdict.{Verdict}
use Rattle.evidence.specs.declared.verdict.UnknownVerdict.{UnknownVerdict}
use Rattle.evidence.specs.Strips.{verdict_number}

-- the word is read as the verdict with its number, or refused where no verdict has it
abbrev pub VerdictRead : ℕ → Result Verdict UnknownVerdict → Type 0
VerdictRead word r = MatchResult r (λ verdict. word ≡ verdict_number verdict) (λ e. (e.0 ≡ word) × ((verdict : Verdict) → word ≢ verdict_number verdict))
