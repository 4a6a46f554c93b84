-- `Acceptance:` is due, and then the fixed tokens of the condition.
use Rattle.hoa_tokens.proofs.Returning.{passes_error}
use Rattle.hoa_document.proofs.header.read_condition.Goals as goal

pub returns-in_err-head : goal.returns-in_err-head
returns-in_err-head c k st =
    rw (passes_error _ c.from_residual.ensures.1) (c.in_err-head.ensures _ _ st)
