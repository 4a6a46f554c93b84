use Rattle.std.proofs.Common.{inl, inr}
use Rattle.evidence.specs.declared.verdict.Verdict.TheVariants as verdict
use Rattle.evidence.proofs.rechecking.recheck.Goals as goal

pub returns-in-Err-clause-evidence : goal.returns-in-Err-clause-evidence
returns-in-Err-clause-evidence g c = (
  λ no. absurd no,
  λ evidence.
      elim evidence [
        | inl told ↦ c.in-Err.ensures.1 verdict.Lasso told.verdict
        | inr told ↦ c.in-Err.ensures.1 verdict.Ranking told.verdict
      ],
)
