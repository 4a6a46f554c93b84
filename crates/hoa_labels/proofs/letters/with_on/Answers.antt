-- The last arm is the one of signal 3.
use Rattle.std.proofs.Common.{◌≡◌, arith}
use Rattle.hoa_labels.proofs.letters.with_on.Goals as goal

pub returns-in_default : goal.returns-in_default
returns-in_default c = let three : c.args.signal ≡ 3 = omega arith in rw three
