use Rattle.std.proofs.Common.{◌≡◌, ◌≤◌, min, drop}
use Rattle.hoa_tokens.specs.Bytes.{value, value_after}
use Rattle.hoa_tokens.proofs.scan.value_of.Given as goal

abbrev pub invariant-loop-d : goal.invariant-loop-d
invariant-loop-d l = (l.n ≤ 10000) × (min 10000 (value_after l.n (drop l.d-index l.digits)) ≡ min 10000 (value l.digits))
