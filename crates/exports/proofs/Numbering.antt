-- An answer for 4,096 cells and a text is told by its number.
use Rattle.std.proofs.Common.{◌≡◌, ℕ, List, Ok, Err, Result, sym, subst, MatchResult}
use Rattle.omega.specs.Automata.{Meaning}
use Rattle.tables.specs.Cells.{table_cells}
use Rattle.hoa_document.specs.Denoting.{TextDenotes}
use Rattle.hoa_text.specs.Reading.{Unread}
use Rattle.hoa_text.specs.declared.refusal.ReadRefusal.{ReadRefusal}
use Rattle.exports.specs.Numbered.{answer_number, Numbered, read, unread}

pub answer_numbered : (text : List ℕ) (A : Meaning) (cells number : ℕ) (answer : Result (Unit {0}) ReadRefusal) → cells ≡ table_cells → MatchResult answer (λ _. TextDenotes text A) (Unread text cells) → number ≡ answer_number answer → Numbered text number
answer_numbered text A cells number (Ok x) lent denotes numbered = subst (Numbered text) (sym numbered) (read A denotes)
answer_numbered text A cells number (Err e) lent because numbered =
    let enough : Unread text table_cells e = subst (λ (k : ℕ). Unread text k e) lent because in
    subst (Numbered text) (sym numbered) (unread e enough)
