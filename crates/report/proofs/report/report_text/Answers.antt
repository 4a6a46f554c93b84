use Rattle.std.proofs.Common.{◌++◌, Ok, vec_items, refl, ap, ◌∙◌}
use Rattle.report.specs.Lines.{count_line}
use Rattle.report.proofs.report.report_text.Goals as goal

pub returns-in_ok-extend_from_slice-in-Ok : goal.returns-in_ok-extend_from_slice-in-Ok
returns-in_ok-extend_from_slice-in-Ok c =
    let heading = ap vec_items c.into_bytes-lines.ensures.value ∙ c.in_ok-heading-in-Ok.ensures.ok in
    (Ok c.in-Ok.count, c.in-Ok.ensures, (vec_items c.in_ok-listed-in-Ok.listed, c.in_ok-listed-in-Ok.ensures, c.in_ok-extend_from_slice-in-Ok.ensures.items ∙ ap (λ l. l ++ c.as_slice.result.now) heading ∙ ap (λ l. count_line c.args.source c.in-Ok.count ++ l) c.as_slice.ensures.value, refl))
