use Rattle.std.proofs.Common.{◌≡◌, ◌++◌, drop, vec_items}
use Rattle.conformance.specs.declared.escape.Escape.TheVariants.{Plain}
use Rattle.conformance.specs.Escapes.{unescaped}
use Rattle.conformance.proofs.escape.unescape.Given as goal

abbrev pub invariant-loop-b : goal.invariant-loop-b
invariant-loop-b l = vec_items l.bytes ++ unescaped l.escape (drop l.b-index l.written) ≡ unescaped Plain l.written
