-- What the loop over the starts keeps, and why it ends.
use Rattle.std.proofs.Common.{◌-◌, length}
use Rattle.hoa_document.proofs.Starts.{StartsRead}
use Rattle.hoa_document.proofs.header.read_starts.Given as goal

abbrev pub invariant_loop_text : goal.invariant_loop_text
invariant_loop_text l = StartsRead l.text.bytes.now l.states l.starts l.head

-- how much of the text is left
abbrev pub decreases_loop_text : goal.decreases_loop_text
decreases_loop_text l = length l.text.bytes.now - l.head.next
