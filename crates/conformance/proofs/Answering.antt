-- A line of a name and an answer is the answer to a case.
use Rattle.std.proofs.Common.{◌≡◌, ℕ, ◌-◌, min, List, ◌++◌, length, take, replicate, IfOk, Ok, Err, codes, Result, sym, ap, ◌∙◌, subst, arith}
use Rattle.std.proofs.lemmas.List.{length-take, length-replicate}
use Rattle.omega.specs.Automata.{Meaning}
use Rattle.hoa_document.specs.Denoting.{TextDenotes}
use Rattle.hoa_text.specs.Reading.{Unread}
use Rattle.hoa_text.specs.declared.refusal.ReadRefusal.{ReadRefusal}
use Rattle.conformance.specs.Lines.{name_of, cells_of, text_of, lent_cells, text_of_automaton, text_of_refusal, Answered, read, refused}

-- a line that was made, if memory sufficed
abbrev Made : {X Y : Type 0} → Result X Y → (X → List ℕ) → List ℕ → List ℕ → Type 0
Made r items name answer = IfOk r (λ v. items v ≡ name ++ (codes " " ++ (answer ++ codes "\n")))

made_answered : {X Y : Type 0} (r : Result X Y) (items : X → List ℕ) (line whole : List ℕ) → IfOk r (λ v. items v ≡ whole) → Answered line whole → IfOk r (λ v. Answered line (items v))
made_answered (Ok v) items line whole is answered = subst (Answered line) (sym is) answered
made_answered (Err e) items line whole is answered = tt

pub answers_read : {X Y : Type 0} (r : Result X Y) (items : X → List ℕ) (line text name answer : List ℕ) (A : Meaning) → text ≡ text_of line → name ≡ name_of line → answer ≡ text_of_automaton A → TextDenotes text A → Made r items name answer → IfOk r (λ v. Answered line (items v))
answers_read r items line text name answer A meant named said denotes line_made =
    let denoted : TextDenotes (text_of line) A = subst (λ (z : List ℕ). TextDenotes z A) meant denotes in
    made_answered r items line _ (rw (named, said) at line_made) (read A denoted)

pub answers_refused : {X Y : Type 0} (r : Result X Y) (items : X → List ℕ) (line text name answer : List ℕ) (cells : ℕ) (e : ReadRefusal) → text ≡ text_of line → name ≡ name_of line → cells ≡ lent_cells line → answer ≡ text_of_refusal e → Unread text cells e → Made r items name answer → IfOk r (λ v. Answered line (items v))
answers_refused r items line text name answer cells e meant named lent said unread line_made =
    let unread_text : Unread (text_of line) cells e = subst (λ (z : List ℕ). Unread z cells e) meant unread in
    let unread_cells : Unread (text_of line) (lent_cells line) e = subst (λ (z : ℕ). Unread (text_of line) z e) lent unread_text in
    made_answered r items line _ (rw (named, said) at line_made) (refused e unread_cells)

-- so many cells are lent as the case asks for, if there are so many
pub lent_cells_lem : (line xs : List ℕ) (cells lent : ℕ) → cells ≡ cells_of line → lent ≡ min cells 4097 → xs ≡ take (lent - 0) (replicate 4097 9) → length xs ≡ lent_cells line
lent_cells_lem line xs cells lent asked least lends =
    let all : length (replicate {A = ℕ} 4097 9) ≡ 4097 = length-replicate {A = ℕ} 4097 9 in
    let some : length xs ≡ min (lent - 0) (length (replicate {A = ℕ} 4097 9)) = ap length lends ∙ length-take (lent - 0) (replicate 4097 9) in
    let same : min cells 4097 ≡ lent_cells line = ap (λ (k : ℕ). min k 4097) asked in
    omega (arith, some, all, same)
