use Rattle.std.proofs.Common.{sym}
use Rattle.hoa_tokens.proofs.Standing.{name_stands, name_refused}
use Rattle.hoa_tokens.proofs.scan.name_at.Goals as goal

pub returns-then-not-closes_name : goal.returns-then-not-closes_name
returns-then-not-closes_name c =
    rw c.at.ensures (name_refused c.args.text.now c.args.place c.run_end-end.result c.requires.within c.requires.begins c.run_end-end.ensures (sym c.if-not-closes_name.ensures))

pub returns : goal.returns
returns c =
    name_stands c.args.text.now c.args.place c.run_end-end.result c.requires.within c.requires.begins c.run_end-end.ensures (sym c.if-not-closes_name.ensures)
