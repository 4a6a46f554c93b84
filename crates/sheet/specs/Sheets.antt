-- Promise. The automaton of a sheet, and when a sheet is as it was.
use Rattle.std.specs.Prelude.{◌≡◌}
use Rattle.omega.specs.Automata.{Meaning}
use Rattle.tables.specs.Meanings.{table_meaning}
use Rattle.sheet.specs.declared.sheet.Sheet.{Sheet}

-- the automaton of a sheet is that of its table
abbrev pub sheet_meaning : Sheet → Meaning
sheet_meaning x = table_meaning x.table.now

-- table, cells and count are as they were
pub record Unchanged (old new : Sheet) : Type 0 where
  pub frame : new.table.now.frame ≡ old.table.now.frame
  pub cells : new.table.now.cells.now ≡ old.table.now.cells.now
  pub count : new.count ≡ old.count
