use Rattle.std.proofs.Common.{◌≡◌, Ok, Err, sym, subst, arith, rules}
use Rattle.hoa_tokens.specs.declared.fault.Refusal.{Refusal}
use Rattle.hoa_tokens.specs.Bytes.{MarkRead}
use Rattle.hoa_tokens.specs.Faults.{fault_at}
use Rattle.hoa_tokens.specs.Items.{mark}
use Rattle.hoa_tokens.specs.Scanning.{Stands}
use Rattle.hoa_tokens.proofs.Returning.{passes_error}
use Rattle.hoa_tokens.proofs.Longest.{mark_longest, none_begins}
use Rattle.hoa_tokens.proofs.scan.token_at.Goals as goal

pub returns-then-place-text : goal.returns-then-place-text
returns-then-place-text c = Stands.ended c.if-place-text.true

pub returns-in_err-mark : goal.returns-in_err-mark
returns-in_err-mark c =
    let no : (r : Refusal) × (c.try_from.result ≡ Err r) × (c.in_err-mark.field-0.0 ≡ fault_at r c.args.place) = search rules in
    let said = subst (MarkRead _) {y = Err no.0} no.1 c.try_from.ensures in
    rw (passes_error _ c.from_residual.ensures.1, no.2, said.0) (Stands.nothing (omega arith) (none_begins c.args.text.now c.args.place (sym c.if-is_letter.ensures) (sym c.if-is_digit.ensures) c.if-b-eq34.false said.1))

pub returns : goal.returns
returns c =
    let is : c.try_from.result ≡ Ok c.in_ok-mark.mark = search rules in
    Stands.item (mark c.in_ok-mark.mark) _ (mark_longest c.in_ok-mark.mark c.args.text.now c.args.place (subst (MarkRead _) is c.try_from.ensures))
