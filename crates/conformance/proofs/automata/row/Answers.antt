use Rattle.std.proofs.Common.{ℕ, vec_items, ap, ◌∙◌}
use Rattle.conformance.specs.Lines.{text_of_step}
use Rattle.conformance.proofs.Listing.{each_more}
use Rattle.conformance.proofs.automata.row.Goals as goal

pub loop-t-preserved : goal.loop-t-preserved
loop-t-preserved g c =
    let t = c.loop-t.t in
    let item = c.as_slice.ensures.value ∙ (c.in_ok-item.ensures ∙ ap (λ (letters : ℕ). text_of_step c.args.s t letters) c.step_letters.ensures.is) in
    each_more _ t (vec_items c.loop-t.text) c.as_slice.result.now (vec_items c.extend_from_slice.new.self) c.loop-t.invariant item c.in_ok-extend_from_slice.ensures.items
