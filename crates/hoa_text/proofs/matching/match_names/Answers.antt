-- What the names of the two texts come to.
use Rattle.std.proofs.Common.{refl, ◌∙◌, sym, inl, inr}
use Rattle.std.proofs.lemmas.Bool.Decides.{not_from_Decides}
use Rattle.hoa_text.proofs.NameRows.{names_alike, names_read, names_few, as_many, same_size}
use Rattle.hoa_text.proofs.matching.match_names.Goals as goal

pub returns-then-left-right : goal.returns-then-left-right
returns-then-left-right c =
    let l = names_read _ c.args.first.now c.in_ok-left.left c.read_names.result _ c.in_ok-left.ensures.cases c.in_ok-left.ensures.variant c.read_names.ensures.names in
    let r = names_read _ c.args.second.now c.in_ok-right.right c.read_names-2.result _ c.in_ok-right.ensures.cases c.in_ok-right.ensures.variant c.read_names-2.ensures.names in
    inl (refl, (l.0, r.0, l.1, r.1, λ same. c.if-left-right.true (as_many _ _ c.in_ok-left.left c.in_ok-right.right l r same)))

pub returns-then-not-alike : goal.returns-then-not-alike
returns-then-not-alike c =
    let l = names_read _ c.args.first.now c.in_ok-left.left c.read_names.result _ c.in_ok-left.ensures.cases c.in_ok-left.ensures.variant c.read_names.ensures.names in
    let r = names_read _ c.args.second.now c.in_ok-right.right c.read_names-2.result _ c.in_ok-right.ensures.cases c.in_ok-right.ensures.variant c.read_names-2.ensures.names in
    let few = names_few _ c.in_ok-left.left c.read_names.result _ c.in_ok-left.ensures.cases c.in_ok-left.ensures.variant c.read_names.ensures.few in
    let few-2 = names_few _ c.in_ok-right.right c.read_names-2.result _ c.in_ok-right.ensures.cases c.in_ok-right.ensures.variant c.read_names-2.ensures.few in
    let decides = names_alike c.in_ok-left.left c.in_ok-right.right _ _ c.alike.result c.alike.ensures c.as_slice.ensures.names (c.as_slice.ensures.len few) c.as_slice-2.ensures.names (c.as_slice-2.ensures.len few-2) in
    inr (refl, (l.0, r.0, l.1, r.1, same_size _ _ c.in_ok-left.left c.in_ok-right.right l r c.if-left-right.false, λ same. not_from_Decides _ decides c.if-not-alike.true (sym l.2 ∙ same ∙ r.2)))

pub returns : goal.returns
returns c =
    let l = names_read _ c.args.first.now c.in_ok-left.left c.read_names.result _ c.in_ok-left.ensures.cases c.in_ok-left.ensures.variant c.read_names.ensures.names in
    let r = names_read _ c.args.second.now c.in_ok-right.right c.read_names-2.result _ c.in_ok-right.ensures.cases c.in_ok-right.ensures.variant c.read_names-2.ensures.names in
    let few = names_few _ c.in_ok-left.left c.read_names.result _ c.in_ok-left.ensures.cases c.in_ok-left.ensures.variant c.read_names.ensures.few in
    let few-2 = names_few _ c.in_ok-right.right c.read_names-2.result _ c.in_ok-right.ensures.cases c.in_ok-right.ensures.variant c.read_names-2.ensures.few in
    let decides = names_alike c.in_ok-left.left c.in_ok-right.right _ _ c.alike.result c.alike.ensures c.as_slice.ensures.names (c.as_slice.ensures.len few) c.as_slice-2.ensures.names (c.as_slice-2.ensures.len few-2) in
    (l.0, r.0, l.1, r.1, l.2 ∙ decides.0 c.if-not-alike.false ∙ sym r.2)
