-- The text is too long, or its header refuses it.
use Rattle.std.proofs.Common.{sym, subst}
use Rattle.hoa_tokens.proofs.Returning.{passes_error}
use Rattle.hoa_document.specs.Denoting.{TextRefused, too_long}
use Rattle.hoa_document.proofs.Meant.{refused_here}
use Rattle.hoa_document.proofs.document.begin.Goals as goal

pub returns-in_err-text : goal.returns-in_err-text
returns-in_err-text c =
    let long = c.in_err-text.ensures in
    rw (passes_error _ c.from_residual.ensures.1) (subst (TextRefused c.args.bytes.now) (sym long.0) (too_long long.1))

pub returns-in_err-header : goal.returns-in_err-header
returns-in_err-header c =
    let taken = c.in_ok-text.ensures in
    rw (passes_error _ c.from_residual-in_err-header.ensures.1) (refused_here taken.0 taken.1 _ c.in_err-header.ensures)
