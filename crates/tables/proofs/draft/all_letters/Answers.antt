-- Neither shift loses a bit, for there are at most 16 letters.
use Rattle.std.proofs.Common.{◌^◌, arith}
use Rattle.std.proofs.lemmas.Nat.{pow_pos}
use Rattle.tables.proofs.Bits.{letter_count, letter_set_count}
use Rattle.tables.proofs.draft.all_letters.Goals as goal

pub overflow_shl-result-2 : goal.overflow_shl-result-2
overflow_shl-result-2 c = omega (arith, letter_count c.args.signals c.requires)

pub overflow_sub-result : goal.overflow_sub-result
overflow_sub-result c = omega (arith, pow_pos (2 ^ c.args.signals), letter_set_count c.args.signals c.requires)

pub overflow_cast-result : goal.overflow_cast-result
overflow_cast-result c = omega (arith, letter_set_count c.args.signals c.requires)

pub returns : goal.returns
returns c = omega (arith, letter_set_count c.args.signals c.requires)
