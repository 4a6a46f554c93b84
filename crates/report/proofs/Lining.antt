-- The lines of what is found, and one line more.
use Rattle.std.proofs.Common.{◌≡◌, ℕ, List, [], ◌∷◌, ◌++◌, sym, ap, ◌∙◌, append_assoc, append-nil}
use Rattle.hoa_tokens.specs.Scanning.{Found}
use Rattle.report.specs.Lines.{found_line, found_lines}

-- one more line
pub lines_more : (xs : List Found) (x : Found) → found_lines (xs ++ x ∷ []) ≡ found_lines xs ++ found_line x
lines_more [] x = append-nil (found_line x)
lines_more (y ∷ xs) x = ap (λ l. found_line y ++ l) (lines_more xs x) ∙ sym (append_assoc (found_line y) (found_lines xs) (found_line x))

pub lines_added : (before after line : List ℕ) (xs : List Found) (x : Found) → before ≡ found_lines xs → line ≡ found_line x → after ≡ before ++ line → after ≡ found_lines (xs ++ x ∷ [])
lines_added before after line xs x old new is = is ∙ ap (λ l. l ++ line) old ∙ ap (λ l. found_lines xs ++ l) new ∙ sym (lines_more xs x)
