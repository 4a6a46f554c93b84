use Rattle.std.proofs.Common.{◌≡◌, ◌-◌, ◌≤◌, List, length, vec_items}
use Rattle.hoa_tokens.specs.Scanning.{Found}
use Rattle.hoa_tokens.proofs.Cutting.{Grown}
use Rattle.report.specs.Lines.{found_lines}
use Rattle.report.proofs.listing.listing.Given as goal

abbrev pub invariant-loop-found : goal.invariant-loop-found
invariant-loop-found l = (l.from ≤ length l.text.bytes.now) × ((tokens : List Found) × (vec_items l.lines ≡ found_lines tokens) × Grown l.text.bytes.now 0 l.from tokens)

abbrev pub decreases-loop-found : goal.decreases-loop-found
decreases-loop-found l = length l.text.bytes.now - l.from
