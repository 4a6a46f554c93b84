-- The number in hand is read, or refused where there is none or where it breaks its limit.
use Rattle.std.proofs.Common.{◌≡◌, Err, rules}
use Rattle.hoa_tokens.specs.declared.fault.Refusal.{Refusal}
use Rattle.hoa_tokens.specs.Faults.{fault_at}
use Rattle.hoa_tokens.proofs.Returning.{passes_error}
use Rattle.hoa_document.proofs.Leading.{limit_kept, limit_broken, number_missing, number_over, number_last, number_here}
use Rattle.hoa_document.proofs.expect.read_number.Goals as goal

pub returns-in_err-value-clause-read : goal.returns-in_err-value-clause-read
returns-in_err-value-clause-read g c limit tests =
    rw (passes_error _ c.from_residual.ensures.1) (number_missing c.args.text.bytes.now c.args.head limit c.in_err-value.ensures.0 _ c.in_err-value.ensures.1)

pub returns-in_err-map_err-clause-read : goal.returns-in_err-map_err-clause-read
returns-in_err-map_err-clause-read g c limit tests =
    let over : (r : Refusal) × (c.test.result ≡ Err r) × (c.in_err-map_err.field-0.0 ≡ fault_at r c.args.head.place) = search rules in
    let broken = limit_broken (limit c.in_ok-value.value) c.test.result over.0 (tests c.in_ok-value.value c.test.result c.test.ensures) over.1 in
    rw (passes_error _ c.from_residual-in_err-map_err.ensures.1) (number_over c.args.text.bytes.now c.args.head limit c.in_ok-value.value c.in_ok-value.ensures over.0 broken _ over.2)

pub returns-in_err-head-clause-read : goal.returns-in_err-head-clause-read
returns-in_err-head-clause-read g c limit tests =
    let kept = limit_kept (limit c.in_ok-value.value) c.test.result (tests c.in_ok-value.value c.test.result c.test.ensures) c.in_ok-map_err.ensures.variant in
    rw (passes_error _ c.from_residual-in_err-head.ensures.1) (number_last c.args.text.bytes.now c.args.head limit c.in_ok-value.value c.in_ok-value.ensures kept _ c.in_err-head.ensures.scanned)

pub returns-clause-read : goal.returns-clause-read
returns-clause-read g c limit tests =
    let kept = limit_kept (limit c.in_ok-value.value) c.test.result (tests c.in_ok-value.value c.test.result c.test.ensures) c.in_ok-map_err.ensures.variant in
    number_here c.args.text.bytes.now c.args.head limit c.in_ok-value.value c.in_ok-value.ensures kept c.in_ok-head.head c.in_ok-head.ensures.scanned
