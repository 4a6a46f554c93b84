use Rattle.std.proofs.Common.{◌≡◌, ◌≤◌, take, fold}
use Rattle.conformance.specs.Fields.{grown_by_digit, most_number}
use Rattle.conformance.proofs.field.number.Given as goal

abbrev pub invariant-loop-digit : goal.invariant-loop-digit
invariant-loop-digit l = (l.value ≡ fold grown_by_digit 0 (take l.digit-index l.digits)) × (l.value ≤ most_number)
