-- Promise. The number that says whether a text is read.
use Rattle.std.specs.Prelude.{ℕ, List, Ok, Err, Result}
use Rattle.omega.specs.Automata.{Meaning}
use Rattle.tables.specs.Cells.{table_cells}
use Rattle.tables.specs.Refusals.{lender_number}
use Rattle.hoa_tokens.specs.Numbers.{refusal_number}
use Rattle.hoa_document.specs.Denoting.{TextDenotes}
use Rattle.hoa_text.specs.Reading.{Unread}
use Rattle.hoa_text.specs.declared.refusal.ReadRefusal.{ReadRefusal}
use Rattle.hoa_text.specs.declared.refusal.ReadRefusal.TheVariants.{Lender, Text}

-- the number of a refusal
abbrev pub read_number : ReadRefusal → ℕ
read_number (Lender e) = lender_number e
read_number (Text f) = refusal_number f.refusal

-- the number of an answer: 0 where the text was read
abbrev pub answer_number : Result (Unit {0}) ReadRefusal → ℕ
answer_number (Ok x) = 0
answer_number (Err e) = read_number e

-- 0 where the text denotes an automaton, else the number of the reason why it is not read into 4,096 cells
pub data Numbered (text : List ℕ) : ℕ → Type 0 where
  read : (A : Meaning) → TextDenotes text A → Numbered text 0
  unread : (e : ReadRefusal) → Unread text table_cells e → Numbered text (read_number e)
