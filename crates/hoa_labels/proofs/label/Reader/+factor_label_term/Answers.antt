-- What each way out of `factor`, `term` and `label` returns is a part that is read or a fault with which the text is refused.
-- First the arms of `factor`, then the first part and a turn of the loop of `term`, and the same of `label`.
use Rattle.std.proofs.Common.{ap, rules}
use Rattle.hoa_tokens.proofs.Returning.{passes_error}
use Rattle.hoa_tokens.specs.Scanning.{lexeme}
use Rattle.hoa_labels.proofs.Factors.{word_read, word_fails, signal_read, signal_fails, mark_fails, name_or_end_fails, opens_factor, opens_label, too_deep, scan_fails, part_fails, negation_read, group_closed}
use Rattle.hoa_labels.proofs.Turns.{term_first, term_fails_first, term_scan_fails, term_part_fails, term_more, label_first, label_fails_first, label_scan_fails, label_part_fails, label_more}
use Rattle.hoa_labels.proofs.label.Reader.+factor_label_term.Goals as goal

pub factor-returns-in_err-letters-in-Word : goal.factor-returns-in_err-letters-in-Word
factor-returns-in_err-letters-in-Word t c =
    rw (passes_error _ c.from_residual.ensures.1) (word_fails (ap lexeme c.in-Word.is) c.in_err-letters-in-Word.field-0.0 c.in_err-letters-in-Word.ensures)

pub factor-returns-in_ok-letters-in-Word : goal.factor-returns-in_ok-letters-in-Word
factor-returns-in_ok-letters-in-Word t c =
    word_read c.args.self.now.text.bytes.now c.args.head c.args.self.now.signals.count c.args.room (ap lexeme c.in-Word.is) c.in_ok-letters-in-Word.letters c.in_ok-letters-in-Word.ensures c.passed.result c.passed.ensures

pub factor-returns-in_err-letters-in-Number : goal.factor-returns-in_err-letters-in-Number
factor-returns-in_err-letters-in-Number t c =
    let high = c.in_err-letters-in-Number.ensures in
    rw (passes_error _ c.from_residual-in_err-letters-in-Number.ensures.1, high.1) (signal_fails (ap lexeme c.in-Number.is) high.0)

pub factor-returns-in_ok-letters-in-Number : goal.factor-returns-in_ok-letters-in-Number
factor-returns-in_ok-letters-in-Number t c =
    let read = c.in_ok-letters-in-Number.ensures in
    signal_read c.args.self.now.text.bytes.now c.args.head c.args.self.now.signals.count c.args.room (ap lexeme c.in-Number.is) c.in_ok-letters-in-Number.letters read.0 read.1 c.passed-in-Number.result c.passed-in-Number.ensures

pub factor-returns-in_err-inside-in-Not : goal.factor-returns-in_err-inside-in-Not
factor-returns-in_err-inside-in-Not t c =
    let full = c.in_err-inside-in-Not.ensures in
    rw (passes_error _ c.from_residual-in_err-inside-in-Not.ensures.1, full.1) (too_deep (opens_factor c.in-Mark.is c.in-Not.is) full.0)

pub factor-returns-in_err-behind-in-Not : goal.factor-returns-in_err-behind-in-Not
factor-returns-in_err-behind-in-Not t c =
    rw (passes_error _ c.from_residual-in_err-behind-in-Not.ensures.1) (scan_fails (opens_factor c.in-Mark.is c.in-Not.is) c.in_ok-inside-in-Not.inside c.in_ok-inside-in-Not.ensures c.in_err-behind-in-Not.ensures.scanned)

pub factor-returns-in_err-part-in-Not : goal.factor-returns-in_err-part-in-Not
factor-returns-in_err-part-in-Not t c =
    rw (passes_error _ c.from_residual-in_err-part-in-Not.ensures.1) (part_fails (opens_factor c.in-Mark.is c.in-Not.is) c.in_ok-inside-in-Not.inside c.in_ok-inside-in-Not.ensures c.in_ok-behind-in-Not.ensures.scanned c.in_err-part-in-Not.ensures)

pub factor-returns-in_ok-part-in-Not : goal.factor-returns-in_ok-part-in-Not
factor-returns-in_ok-part-in-Not t c =
    let rest = c.others.ensures in
    rw rest.2 (negation_read c.in_ok-inside-in-Not.ensures c.in_ok-behind-in-Not.ensures.scanned (opens_factor c.in-Mark.is c.in-Not.is) c.in_ok-part-in-Not.ensures rest.0 rest.1)

pub factor-returns-in_err-inside-in-OpenParen : goal.factor-returns-in_err-inside-in-OpenParen
factor-returns-in_err-inside-in-OpenParen t c =
    let full = c.in_err-inside-in-OpenParen.ensures in
    rw (passes_error _ c.from_residual-in_err-inside-in-OpenParen.ensures.1, full.1) (too_deep (opens_label c.in-Mark.is c.in-OpenParen.is) full.0)

pub factor-returns-in_err-behind-in-OpenParen : goal.factor-returns-in_err-behind-in-OpenParen
factor-returns-in_err-behind-in-OpenParen t c =
    rw (passes_error _ c.from_residual-in_err-behind-in-OpenParen.ensures.1) (scan_fails (opens_label c.in-Mark.is c.in-OpenParen.is) c.in_ok-inside-in-OpenParen.inside c.in_ok-inside-in-OpenParen.ensures c.in_err-behind-in-OpenParen.ensures.scanned)

pub factor-returns-in_err-group-in-OpenParen : goal.factor-returns-in_err-group-in-OpenParen
factor-returns-in_err-group-in-OpenParen t c =
    rw (passes_error _ c.from_residual-in_err-group-in-OpenParen.ensures.1) (part_fails (opens_label c.in-Mark.is c.in-OpenParen.is) c.in_ok-inside-in-OpenParen.inside c.in_ok-inside-in-OpenParen.ensures c.in_ok-behind-in-OpenParen.ensures.scanned c.in_err-group-in-OpenParen.ensures)

pub factor-returns-in_ok-group-in-OpenParen : goal.factor-returns-in_ok-group-in-OpenParen
factor-returns-in_ok-group-in-OpenParen t c =
    group_closed c.in_ok-inside-in-OpenParen.ensures c.in_ok-behind-in-OpenParen.ensures.scanned (opens_label c.in-Mark.is c.in-OpenParen.is) c.in_ok-group-in-OpenParen.ensures c.closed.result c.closed.ensures

pub factor-returns-in_default : goal.factor-returns-in_default
factor-returns-in_default t c = rw c.at.ensures (mark_fails c.in-Mark.mark c.in-Mark.is c.in_default.not-Not c.in_default.not-OpenParen)

pub factor-returns-in-Name : goal.factor-returns-in-Name
factor-returns-in-Name t c = rw c.at-in-Name.ensures (name_or_end_fails c.in-Name.is)

pub term-returns-in_err-letters : goal.term-returns-in_err-letters
term-returns-in_err-letters t c =
    rw (passes_error _ c.from_residual.ensures.1) (term_fails_first c.in_err-letters.ensures)

pub term-loop-head-init : goal.term-loop-head-init
term-loop-head-init t c = term_first c.in_ok-letters.ensures

pub term-returns-in_err-behind : goal.term-returns-in_err-behind
term-returns-in_err-behind t c =
    rw (passes_error _ c.from_residual-in_err-behind.ensures.1) (term_scan_fails c.loop-head.invariant (search rules) c.in_err-behind.field-0.0 c.in_err-behind.ensures.scanned)

pub term-returns-in_err-more : goal.term-returns-in_err-more
term-returns-in_err-more t c =
    rw (passes_error _ c.from_residual-in_err-more.ensures.1) (term_part_fails c.loop-head.invariant (search rules) c.in_ok-behind.ensures.scanned c.in_err-more.field-0.0 c.in_err-more.ensures)

pub term-loop-head-preserved : goal.term-loop-head-preserved
term-loop-head-preserved t c = rw c.both-letters.ensures (term_more c.loop-head.invariant (search rules) c.in_ok-behind.ensures.scanned c.in_ok-more.more c.in_ok-more.ensures)

pub label-returns-in_err-letters : goal.label-returns-in_err-letters
label-returns-in_err-letters t c =
    rw (passes_error _ c.from_residual.ensures.1) (label_fails_first c.in_err-letters.ensures)

pub label-loop-head-init : goal.label-loop-head-init
label-loop-head-init t c = label_first c.in_ok-letters.ensures

pub label-returns-in_err-behind : goal.label-returns-in_err-behind
label-returns-in_err-behind t c =
    rw (passes_error _ c.from_residual-in_err-behind.ensures.1) (label_scan_fails c.loop-head.invariant (search rules) c.in_err-behind.field-0.0 c.in_err-behind.ensures.scanned)

pub label-returns-in_err-more : goal.label-returns-in_err-more
label-returns-in_err-more t c =
    rw (passes_error _ c.from_residual-in_err-more.ensures.1) (label_part_fails c.loop-head.invariant (search rules) c.in_ok-behind.ensures.scanned c.in_err-more.field-0.0 c.in_err-more.ensures)

pub label-loop-head-preserved : goal.label-loop-head-preserved
label-loop-head-preserved t c = rw c.either-letters.ensures (label_more c.loop-head.invariant (search rules) c.in_ok-behind.ensures.scanned c.in_ok-more.more c.in_ok-more.ensures)
