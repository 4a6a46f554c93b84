-- What the header says is what the text says, once the body is read.
use Rattle.hoa_tokens.proofs.Returning.{passes_error}
use Rattle.hoa_document.proofs.Meant.{refused_here}
use Rattle.hoa_document.proofs.document.read_names.Goals as goal

pub returns-in_err-read_body-clause-names : goal.returns-in_err-read_body-clause-names
returns-in_err-read_body-clause-names c =
    let begun = c.in_ok-begun.ensures in
    rw (passes_error _ c.from_residual-in_err-read_body.ensures.1) (refused_here begun.0 begun.1 _ c.in_err-read_body.ensures)
