use Rattle.std.proofs.Common.{◌-◌, ◌≤◌, length}
use Rattle.hoa_tokens.specs.Bytes.{member}
use Rattle.hoa_tokens.specs.Items.{Each}
use Rattle.hoa_tokens.proofs.scan.run_end.Given as goal

abbrev pub invariant-loop-to : goal.invariant-loop-to
invariant-loop-to l = (l.from ≤ l.to) × (l.to ≤ length l.text) × Each (member l.class) l.text l.from l.to

abbrev pub decreases-loop-to : goal.decreases-loop-to
decreases-loop-to l = length l.text - l.to
