-- What `label` promises, and the step at its `]`, give what `bracketed` promises.
use Rattle.hoa_tokens.proofs.Returning.{passes_error}
use Rattle.hoa_labels.proofs.Closing.{bracket_fails, bracket_closed}
use Rattle.hoa_labels.proofs.label.Reader.bracketed.Goals as goal

pub returns-in_err-part : goal.returns-in_err-part
returns-in_err-part c whole =
    rw (passes_error _ c.from_residual.ensures.1) (bracket_fails whole c.in_err-part.ensures)

pub returns : goal.returns
returns c whole = bracket_closed whole c.in_ok-part.ensures c.closed.result c.closed.ensures
