use Rattle.std.proofs.Common.{sym}
use Rattle.hoa_tokens.specs.Items.{span}
use Rattle.hoa_tokens.proofs.Standing.{number_stands, number_refused}
use Rattle.hoa_tokens.proofs.Values.{plain_value}
use Rattle.hoa_tokens.proofs.scan.number_at.Goals as goal

pub returns-then-not-is_plain : goal.returns-then-not-is_plain
returns-then-not-is_plain c =
    rw c.at.ensures (number_refused c.args.text.now c.args.place c.run_end-next.result c.requires.begins c.run_end-next.ensures (sym c.if-not-is_plain.ensures))

pub returns : goal.returns
returns c =
    let fine = sym c.if-not-is_plain.ensures in
    number_stands c.args.text.now c.args.place c.run_end-next.result c.requires.begins c.run_end-next.ensures c.value_of-n.result fine (plain_value (span c.args.text.now c.args.place c.run_end-next.result) c.value_of-n.result fine c.value_of-n.ensures)
