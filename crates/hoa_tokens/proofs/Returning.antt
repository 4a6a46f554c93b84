-- What the way out by a `?` returns: the error that it met.
use Rattle.std.proofs.Common.{◌≡◌, Ok, Err, Result, ap}
use Rattle.std.specs.Result.{IsErrAnd}

pub passes_error : {T E : Type 0} (r : Result T E) {e : E} → IsErrAnd r (λ x. x ≡ e) → r ≡ Err e
passes_error (Ok x) none = absurd none
passes_error (Err x) same = ap Err same
