-- Some blocks are read, and the set of their states grows with each.
use Rattle.std.proofs.Common.{◌-◌, ◌<◌}
use Rattle.hoa_document.specs.Drafting.{BlocksRead}
use Rattle.hoa_document.specs.Naming.{row_of}
use Rattle.hoa_document.proofs.body.read_blocks.Given as goal

abbrev pub invariant-loop-signals : goal.invariant-loop-signals
invariant-loop-signals l = (l.described < 18446744073709551616) × BlocksRead l.text.bytes.now l.states l.signals.count (row_of l.header.value.names) l.described l.draft l.head

abbrev pub decreases-loop-signals : goal.decreases-loop-signals
decreases-loop-signals l = 18446744073709551616 - l.described
