-- `AP:` is due behind the starts, and then the number of signals.
use Rattle.std.proofs.Common.{refl}
use Rattle.hoa_tokens.proofs.Returning.{passes_error}
use Rattle.hoa_grammar.specs.Rows.{none}
use Rattle.hoa_grammar.specs.Documents.{most_signals, signals_limit}
use Rattle.hoa_grammar.specs.Machine.{at, signals, names}
use Rattle.hoa_document.proofs.Leading.{stands_there}
use Rattle.hoa_document.proofs.Slots.{starts_over, count_within}
use Rattle.hoa_document.proofs.header.read_signals.Goals as goal

pub returns-in_err-head : goal.returns-in_err-head
returns-in_err-head c n row r =
    rw (passes_error _ c.from_residual.ensures.1) (c.in_err-head.ensures _ _ (starts_over c.requires r))

pub returns : goal.returns
returns c n row r =
    let due-number = c.in_ok-head.ensures _ _ (starts_over c.requires r) in
    count_within c.args.text.bytes.now most_signals signals_limit (λ p. at (names n row none p)) c.count.result c.count.ensures.below (c.count.ensures.read (at (signals n row)) (λ p. at (names n row none p)) refl (stands_there due-number))
