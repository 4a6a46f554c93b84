-- The starts of a header: each is added to the set of those before it, and each lies further ahead in the text.
use Rattle.std.proofs.Common.{◌≡◌, ℕ, ◌-◌, ◌*◌, ◌%◌, ◌^◌, ◌<◌, ◌≤◌, eqb, List, length, Ok, codes, Result, sym, refl, ap, ◌∙◌, subst, arith, MatchResult}
use mathlib.Core.Bool.{or_comm}
use lib.Bits.{bit_or}
use Rattle.std.proofs.lemmas.Nat.{pow_pos, one_shl}
use Rattle.std.proofs.lemmas.Result.{MatchResult-weaker}
use Rattle.hoa_tokens.specs.declared.fault.Fault.{Fault}
use Rattle.hoa_tokens.specs.declared.token.Placed.{Placed}
use Rattle.hoa_tokens.specs.Scanning.{Lexeme, word, number, name, mark, end, token, lexeme, found, Scanned, Ahead, clipped}
use Rattle.hoa_grammar.specs.Rows.{Row, none, more, some}
use Rattle.hoa_grammar.specs.Documents.{state_limit}
use Rattle.hoa_grammar.specs.Machine.{at, starts, start, step}
use Rattle.hoa_grammar.specs.Reading.{Reached, Refused}
use Rattle.tables.proofs.Bits.{bit_past, bit-or, bit_power}
use Rattle.tables.proofs.Added.{state_added_in}
use Rattle.hoa_tokens.specs.declared.token.Read.{Read}
use Rattle.hoa_document.specs.Standing.{NumberRead}
use Rattle.hoa_document.specs.Drafting.{InRow}
use Rattle.hoa_document.proofs.Leading.{stands_there, stands_on, word_not_end}

-- a row of starts is read, and the set holds just these
pub record StartsRead (text : List ℕ) (n set : ℕ) (head : Placed) : Type 0 where
  pub row : Row ℕ
  pub reached : Reached text (at (starts n row)) head
  pub members : InRow set row
  pub below : set < 2 ^ n

pub no_starts : {text : List ℕ} {n : ℕ} {head : Placed} → Reached text (at (starts n none)) head → StartsRead text n 0 head
no_starts {n = n} r = record { row = none; reached = r; members = λ s. bit_past s 0 0 (omega arith) (omega arith); below = pow_pos n }

-- one more start in the row is one more in the set
pub start_added : (n s set : ℕ) (row : Row ℕ) → n ≤ 64 → s < n → InRow set row → InRow (bit_or set ((1 * 2 ^ s) % 2 ^ 64)) (more row s)
start_added n s set row few inside members k =
    let single = one_shl s 64 (omega arith) in
    rw (single, bit-or k set (2 ^ s), bit_power k s, members k) (or_comm (some (eqb k) row) (eqb k s))

module _ {text : List ℕ} {n set : ℕ} {head : Placed} (r : StartsRead text n set head) where
  module _ (is : lexeme head.token ≡ word (codes "Start:")) where
    -- a start is due behind `Start:`
    pub start_due : (q : Result Placed Fault) → Scanned text (clipped text head.next) (found q) → MatchResult q (Reached text (at (start n r.row))) (Refused text)
    start_due = stands_on (stands_there r.reached) (λ e. word_not_end (codes "Start:") (sym is ∙ e)) (at (start n r.row)) (ap (step (at (starts n r.row))) is)

    -- and the state that is read there is one
    pub start_read : (b : Placed) → Scanned text (clipped text head.next) (found (Ok b)) → (q : Result (Read ℕ) Fault) → NumberRead text b (state_limit n) q → MatchResult q (λ x. Reached text (at (starts n (more r.row x.value))) x.head) (Refused text)
    start_read b scanned q read = MatchResult-weaker q (read (at (start n r.row)) (λ s. at (starts n (more r.row s))) refl (stands_there (start_due (Ok b) scanned))) (λ x p. p.1) (λ f p. p)

  pub one_start_more : (x : Read ℕ) → n ≤ 64 → x.value < n → Reached text (at (starts n (more r.row x.value))) x.head → StartsRead text n (bit_or set ((1 * 2 ^ x.value) % 2 ^ 64)) x.head
  one_start_more x few inside reached = record {
    row = more r.row x.value;
    reached = reached;
    members = start_added n x.value set r.row few inside r.members;
    below = state_added_in n x.value set few inside r.below;
  }

-- no token ends before the position from which it was scanned, nor past the text's end
token_ahead : (text : List ℕ) (from place next : ℕ) (x : Lexeme) → from ≤ length text → Ahead text from (token x place next) → (from ≤ next) × (next ≤ length text)
token_ahead text from place next (word w) inside a = (omega arith, a.1)
token_ahead text from place next (number n) inside a = (omega arith, a.1)
token_ahead text from place next (name w) inside a = (omega arith, a.1)
token_ahead text from place next (mark m) inside a = (omega arith, a.1)
token_ahead text from place next end inside a = (omega arith, omega arith)

-- behind a number there is less of the text left than before it
pub number_shortens : (text : List ℕ) (from : ℕ) (b h : Placed) (n : ℕ) → Ahead text (clipped text from) (found (Ok b)) → lexeme b.token ≡ number n → Ahead text (clipped text b.next) (found (Ok h)) → length text - h.next < length text - from
number_shortens text from b h n ahead is behind =
    let on : (clipped text from < b.next) × (b.next ≤ length text) = subst (λ x. Ahead text (clipped text from) (token x b.place b.next)) is ahead in
    let last : (clipped text b.next ≤ h.next) × (h.next ≤ length text) = token_ahead text (clipped text b.next) h.place h.next (lexeme h.token) (omega arith) behind in
    omega arith
