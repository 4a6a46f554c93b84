use Rattle.std.proofs.Common.{length, ap}
use Rattle.exports.proofs.Numbering.{answer_numbered}
use Rattle.exports.proofs.reading.zinniahoe_read.Goals as goal

pub returns : goal.returns
returns c =
    answer_numbered c.args.text.now _ _ c.number_of.result c.read-answer.result (ap length c.blank-table.ensures.lends.1) c.read-answer.ensures.read c.number_of.ensures
