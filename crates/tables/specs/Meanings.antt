-- Promise. The automaton of a table, and that of a draft.
use Rattle.std.specs.Prelude.{ℕ, List}
use Rattle.omega.specs.Automata.{Meaning}
use Rattle.omega.specs.Tables.{table}
use Rattle.tables.specs.declared.frame.Frame.{Frame}
use Rattle.tables.specs.declared.draft.Draft.{Draft}
use Rattle.tables.specs.declared.table.Table.{Table}

-- a frame with cells
abbrev pub framed : Frame → List ℕ → Meaning
framed x cells = table x.states x.signals x.starts x.goods cells

abbrev pub draft_meaning : Draft → Meaning
draft_meaning x = framed x.frame x.cells

abbrev pub table_meaning : Table → Meaning
table_meaning x = framed x.frame x.cells.now
