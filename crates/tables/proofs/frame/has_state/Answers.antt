-- A set of 64 bits has no bit past them.
use Rattle.std.proofs.Common.{arith}
use Rattle.tables.proofs.Bits.{neither_past}
use Rattle.tables.proofs.frame.has_state.Goals as goal

pub returns-else-s-lt-BITS : goal.returns-else-s-lt-BITS
returns-else-s-lt-BITS c = neither_past c.args.s 64 c.args.set (omega arith) (omega arith)
