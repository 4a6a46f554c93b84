-- Promise. What reading a text into a table answers, and what it leaves in the cells.
use Rattle.std.specs.Prelude.{◌≡◌, ℕ, ◌*◌, ◌<◌, ◌≤◌, List, drop, slice_index}
use Rattle.tables.specs.declared.refusal.LenderRefusal.TheVariants.{TooFewCells}
use Rattle.tables.specs.Cells.{table_cells}
use Rattle.hoa_document.specs.Denoting.{TextRefused, SaysOne}
use Rattle.hoa_text.specs.declared.refusal.ReadRefusal.{ReadRefusal}
use Rattle.hoa_text.specs.declared.refusal.ReadRefusal.TheVariants.{Lender, Text}

-- why a text is not read into so many cells: they are too few, or else the text is refused
abbrev pub Unread : List ℕ → ℕ → ReadRefusal → Type 0
Unread text cells (Lender e) = (e ≡ TooFewCells) × (cells < table_cells)
Unread text cells (Text f) = (table_cells ≤ cells) × TextRefused text f

-- a text that is refused says one thing only
abbrev pub ToldOnce : List ℕ → ReadRefusal → Type 0
ToldOnce text (Lender e) = Unit {0}
ToldOnce text (Text f) = SaysOne text

-- the cells behind n × n and below 4,096 are 0, and those from 4,096 on are as before
pub record CellsSet (n : ℕ) (old new : List ℕ) : Type 0 where
  pub zero : (k : ℕ) → n * n ≤ k → k < table_cells → slice_index new k ≡ 0
  pub beyond : drop table_cells new ≡ drop table_cells old
