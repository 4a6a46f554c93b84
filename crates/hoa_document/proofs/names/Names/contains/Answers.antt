-- The slice has the name exactly where the row does.
use Rattle.std.proofs.Common.{◌∙◌, ap}
use Rattle.std.specs.List.{list_any}
use Rattle.std.specs.Str.{bytes_eq}
use Rattle.hoa_document.proofs.HeldNames.{all_held, any_held}
use Rattle.hoa_document.proofs.names.Names.contains.Goals as goal

pub returns : goal.returns
returns c =
    let x = c.args.self.now in
    let held = c.as_slice.ensures in
    c.contains.ensures.value ∙ ap (list_any (λ v. bytes_eq v.now c.args.name.now)) held.names ∙ any_held x.list c.args.name.now x.count (all_held x held.names (held.len c.requires))
