use Rattle.std.proofs.Common.{vec_items, ◌∙◌}
use Rattle.conformance.proofs.Answering.{answers_read, answers_refused, lent_cells_lem}
use Rattle.conformance.proofs.answer.answer.Goals as goal

pub returns-in-Ok : goal.returns-in-Ok
returns-in-Ok c =
    answers_read c.line.result vec_items c.args.written.now c.as_slice.result.now c.in_ok-case.case.name.now c.as_slice-in-Ok.result.now _
    (c.as_slice.ensures.value ∙ c.in_ok-case.ensures.2) c.in_ok-case.ensures.0 (c.as_slice-in-Ok.ensures.value ∙ c.in_ok-text-in-Ok.ensures)
    c.in-Ok.ensures.read c.line.ensures

pub returns : goal.returns
returns c =
    let unread = c.in-Err.ensures.read in
    let lends = c.blank-table.ensures.lends.1 in
    let lent = c.min-lent.ensures in
    answers_refused c.line-in-Err.result vec_items c.args.written.now c.as_slice.result.now c.in_ok-case.case.name.now c.as_slice-in-Err.result.now _ c.in-Err.refusal
    (c.as_slice.ensures.value ∙ c.in_ok-case.ensures.2) c.in_ok-case.ensures.0 (lent_cells_lem c.args.written.now _ c.in_ok-case.case.cells c.min-lent.result c.in_ok-case.ensures.1 lent lends) (c.as_slice-in-Err.ensures.value ∙ c.in_ok-text-in-Err.ensures)
    unread c.line-in-Err.ensures
