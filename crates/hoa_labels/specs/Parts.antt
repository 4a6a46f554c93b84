-- Scaffolding, no promise: what reading a part of a label comes to, from any place in a text where that part is due.
use Rattle.std.specs.Prelude.{◌≡◌, ℕ, ◌+◌, ◌≤◌, Bool, true, false, ◌⊎◌, List, length, Ok, Err, codes, Result}
use Rattle.hoa_tokens.specs.declared.fault.Fault.{Fault}
use Rattle.hoa_tokens.specs.declared.fault.Refusal.TheVariants.{Unexpected}
use Rattle.hoa_tokens.specs.declared.token.Mark.{Mark}
use Rattle.hoa_tokens.specs.declared.token.Mark.TheVariants.{And, Or}
use Rattle.hoa_tokens.specs.declared.token.Placed.{Placed}
use Rattle.hoa_tokens.specs.Scanning.{Lexeme, mark, fault, lexeme, found, Scanned, clipped}
use Rattle.hoa_grammar.specs.Labels.{Label, term, or, deepest, factor_holds, term_holds, label_holds}
use Rattle.hoa_grammar.specs.Documents.{alike}
use Rattle.hoa_grammar.specs.Rows.{size}
use Rattle.hoa_grammar.specs.Verdicts.{fault_at}
use Rattle.hoa_grammar.specs.Machine.{FactorContext, LabelContext, first_factor, first_term, next_term, bracketed, factor_depth, LabelSlot, factor_due, term_read, behind_factor, by_kind, is_token, Current, within, target, at}
use Rattle.hoa_grammar.specs.Reading.{Reached, Refused}
use Rattle.hoa_tokens.specs.declared.token.Read.{Read}
use Rattle.hoa_labels.specs.Letters.{Means}

-- in a block of a text with p signals, this slot of a label is reached before the token in hand
pub record Slotted (text : List ℕ) (p : ℕ) (cur : Current) (k : LabelSlot) (head : Placed) : Type 0 where
  pub signals : size cur.header.names ≡ p
  pub reached : Reached text (at (within cur k)) head

-- A kind of part has contexts C, in each of which it begins with a factor, in the context `first c`.
-- Wherever the part is due, with room for so many more `(` and `!`, reading leads on to the slot `behind c`.
pub record Leads {C : Type 0} (first : C → FactorContext) (text : List ℕ) (head : Placed) (p room : ℕ) (behind : C → LabelSlot) (next : Placed) : Type 0 where
  pub on : (c : C) (cur : Current) → factor_depth (first c) + room ≡ deepest → Slotted text p cur (factor_due (first c)) head → Slotted text p cur (behind c) next

-- wherever the part is due, the text is refused
pub record Fails {C : Type 0} (first : C → FactorContext) (text : List ℕ) (head : Placed) (p room : ℕ) (f : Fault) : Type 0 where
  pub on : (c : C) (cur : Current) → factor_depth (first c) + room ≡ deepest → Slotted text p cur (factor_due (first c)) head → Refused text f

abbrev pub at_end : Lexeme → Bool
at_end x = by_kind (λ w. false) (λ n. false) (λ w. false) (λ m. false) true x

-- reading has gone on behind the token in hand, which was not the text's end
pub record Onward (text : List ℕ) (head next : Placed) : Type 0 where
  pub more : at_end (lexeme head.token) ≡ false
  pub forward : clipped text head.next ≤ next.next
  pub within : next.next ≤ length text

-- a part is read: a tree, its letters, and how reading has gone on
pub record Reads {C T : Type 0} (first : C → FactorContext) (holds : T → ℕ → Bool) (behind : T → C → LabelSlot) (text : List ℕ) (head : Placed) (p room : ℕ) (x : Read ℕ) : Type 0 where
  pub tree : T
  pub means : Means p (holds tree) x.value
  pub onward : Onward text head x.head
  pub leads : Leads first text head p room (behind tree) x.head

-- a word is `t` or `f`, with its letters, or neither
abbrev pub WordRead : ℕ → List ℕ → ℕ → Result ℕ Fault → Type 0
WordRead p w place (Ok letters) = ((alike w (codes "t") ≡ true) × Means p (λ a. true) letters) ⊎ ((alike w (codes "t") ≡ false) × (alike w (codes "f") ≡ true) × (letters ≡ 0))
WordRead p w place (Err e) = (alike w (codes "t") ≡ false) × (alike w (codes "f") ≡ false) × (e ≡ fault_at Unexpected place)

-- the token behind the one in hand is found, or a fault of its bytes
abbrev pub Passed : List ℕ → Placed → ℕ → Result (Read ℕ) Fault → Type 0
Passed text head letters (Ok x) = (x.value ≡ letters) × Scanned text (clipped text head.next) (found (Ok x.head))
Passed text head letters (Err f) = Scanned text (clipped text head.next) (fault f)

-- the mark in hand is passed, or another token is in hand, which is not allowed there
abbrev pub ClosedBy : Mark → List ℕ → Read ℕ → Result (Read ℕ) Fault → Type 0
ClosedBy m text x r = ((is_token (mark m) (lexeme x.head.token) ≡ true) × Passed text x.head x.value r) ⊎ ((is_token (mark m) (lexeme x.head.token) ≡ false) × (r ≡ Err (fault_at Unexpected x.head.place)))

-- a factor is read, or the text is refused
abbrev pub FactorRead : List ℕ → Placed → ℕ → ℕ → Result (Read ℕ) Fault → Type 0
FactorRead text head p room (Ok x) = Reads (λ c. c) factor_holds (λ f c. behind_factor c f) text head p room x
FactorRead text head p room (Err e) = Fails {C = FactorContext} (λ c. c) text head p room e

-- factors joined by `&` are read
abbrev pub TermBegun : List ℕ → Placed → ℕ → ℕ → Read ℕ → Type 0
TermBegun text head p room x = Reads first_factor term_holds (λ t c. term_read c t) text head p room x

-- a term is read: no `&` follows
abbrev pub TermRead : List ℕ → Placed → ℕ → ℕ → Result (Read ℕ) Fault → Type 0
TermRead text head p room (Ok x) = TermBegun text head p room x × (is_token (mark And) (lexeme x.head.token) ≡ false)
TermRead text head p room (Err e) = Fails first_factor text head p room e

abbrev pub label_start : LabelContext → FactorContext
label_start c = first_factor (first_term c)

-- the slot behind a label's last term
abbrev pub label_read : Label → LabelContext → LabelSlot
label_read (term t) c = term_read (first_term c) t
label_read (or l t) c = term_read (next_term c l) t

-- terms joined by `|` are read, the last one whole
abbrev pub LabelBegun : List ℕ → Placed → ℕ → ℕ → Read ℕ → Type 0
LabelBegun text head p room x = Reads label_start label_holds label_read text head p room x × (is_token (mark And) (lexeme x.head.token) ≡ false)

-- a label is read: neither `&` nor `|` follows
abbrev pub LabelRead : List ℕ → Placed → ℕ → ℕ → Result (Read ℕ) Fault → Type 0
LabelRead text head p room (Ok x) = LabelBegun text head p room x × (is_token (mark Or) (lexeme x.head.token) ≡ false)
LabelRead text head p room (Err e) = Fails label_start text head p room e

-- a label in square brackets is read, from behind the opening one: a target is due behind the closing one
abbrev pub BracketedRead : List ℕ → Placed → ℕ → Result (Read ℕ) Fault → Type 0
BracketedRead text head p (Ok x) =
    (l : Label) × Means p (label_holds l) x.value × ((cur : Current) → size cur.header.names ≡ p → Reached text (at (within cur (factor_due (label_start bracketed)))) head → Reached text (at (target cur l)) x.head)
BracketedRead text head p (Err e) =
    (cur : Current) → size cur.header.names ≡ p → Reached text (at (within cur (factor_due (label_start bracketed)))) head → Refused text e
