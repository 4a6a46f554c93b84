-- A label is read behind its bracket; without one all letters are meant.
use Rattle.std.proofs.Common.{Ok, Err, rules}
use Rattle.hoa_tokens.proofs.Returning.{passes_error}
use Rattle.hoa_document.proofs.Edges.{label_begins, labelled_read}
use Rattle.hoa_document.proofs.body.read_letters.Goals as goal

pub returns-in_err-behind : goal.returns-in_err-behind
returns-in_err-behind c =
    rw (passes_error _ c.from_residual.ensures.1) (λ cur names st. label_begins cur c.args.signals.count st (search rules) (Err _) c.in_err-behind.ensures.scanned)

pub returns-in-Mark-OpenBracket : goal.returns-in-Mark-OpenBracket
returns-in-Mark-OpenBracket c cur names st =
    labelled_read cur c.args.signals.count names
    (label_begins cur c.args.signals.count st (search rules) (Ok c.in_ok-behind.behind) c.in_ok-behind.ensures.scanned)
    c.read_label.result c.read_label.ensures
