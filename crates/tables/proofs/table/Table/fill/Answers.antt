-- There is room for the draft's cells; they come first, and those behind stay.
use Rattle.std.proofs.Common.{◌≡◌, length, drop, ◌∙◌, arith}
use Rattle.std.proofs.lemmas.List.{length-take-le, take_at, drop_at}
use Rattle.tables.specs.Cells.{table_cells}
use Rattle.tables.proofs.table.Table.fill.Goals as goal

pub copy_from_slice-requires : goal.copy_from_slice-requires
copy_from_slice-requires c = omega (arith, length-take-le table_cells c.args.self.now.cells.now c.in_ok-check_room.ensures)

pub returns-clause-cells : goal.returns-clause-cells
returns-clause-cells c =
    let room = c.in_ok-check_room.ensures in
    let copied = c.copy_from_slice.new.self in
    let behind = drop table_cells c.args.self.now.cells.now in
    let whole : length copied ≡ table_cells = omega (arith, length-take-le table_cells c.args.self.now.cells.now room) in
    (room, take_at copied behind table_cells whole ∙ c.copy_from_slice.ensures.after, drop_at copied behind table_cells whole)
