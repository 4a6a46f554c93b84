use Rattle.std.proofs.Common.{[], ◌∷◌, ◌++◌, Ok, sym, ◌∙◌, append-nil}
use Rattle.hoa_tokens.specs.Scanning.{fault, found, Scanned, Ahead}
use Rattle.hoa_tokens.proofs.Cutting.{grown_more, grown_end, grown_fault, ahead_of, unclipped}
use Rattle.report.specs.Lines.{found_lines}
use Rattle.report.proofs.Lining.{lines_more, lines_added}
use Rattle.report.proofs.listing.listing.Goals as goal

pub returns-in-Err : goal.returns-in-Err
returns-in-Err c =
    let text = c.args.text.bytes.now in
    let from = c.loop-found.from in
    let f = c.in-Err.field-0 in
    let sofar = c.loop-found.invariant.1 in
    (sofar.0 ++ fault f ∷ [], grown_fault text 0 from f sofar.0 sofar.2 (unclipped (λ i. Scanned text i (fault f)) text from c.loop-found.invariant.0 c.in-Err.ensures.scanned), sofar.1 ∙ sym (lines_more sofar.0 (fault f) ∙ append-nil (found_lines sofar.0)))

pub returns-in-End : goal.returns-in-End
returns-in-End c =
    let text = c.args.text.bytes.now in
    let from = c.loop-found.from in
    let t = c.in-Ok.found in
    let sofar = c.loop-found.invariant.1 in (
      _,
      grown_end t.token text 0 from t.place t.next sofar.0 sofar.2 c.in-End.is (unclipped (λ i. Scanned text i (found (Ok t))) text from c.loop-found.invariant.0 c.in-Ok.ensures.scanned),
      lines_added _ _ _ sofar.0 (found (Ok t)) sofar.1 (c.as_slice.ensures.value ∙ c.in_ok-line.ensures) c.in_ok-extend_from_slice.ensures.items,
    )

pub loop-found-preserved : goal.loop-found-preserved
loop-found-preserved c =
    let text = c.args.text.bytes.now in
    let from = c.loop-found.from in
    let t = c.in-Ok.found in
    let sofar = c.loop-found.invariant.1 in (
      (ahead_of t.token text from t.place t.next c.in_default.not-End (unclipped (λ i. Ahead text i (found (Ok t))) text from c.loop-found.invariant.0 c.in-Ok.ensures.ahead)).1,
      (_, lines_added _ _ _ sofar.0 (found (Ok t)) sofar.1 (c.as_slice.ensures.value ∙ c.in_ok-line.ensures) c.in_ok-extend_from_slice.ensures.items, grown_more t.token text 0 from t.place t.next sofar.0 sofar.2 c.in_default.not-End (unclipped (λ i. Scanned text i (found (Ok t))) text from c.loop-found.invariant.0 c.in-Ok.ensures.scanned)),
    )
