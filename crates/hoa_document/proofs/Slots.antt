-- Where the machine stands in the header: before its first token, behind its starts, and behind its names.
use Rattle.std.proofs.Common.{◌≡◌, ℕ, ◌≤◌, Bool, true, false, cond, List, [], ◌∷◌, IfOk, Ok, Err, codes, Result, sym, refl, ap, ◌∙◌, arith, MatchResult}
use Rattle.hoa_tokens.specs.declared.fault.Fault.{Fault}
use Rattle.hoa_tokens.specs.declared.token.Placed.{Placed}
use Rattle.hoa_tokens.specs.Scanning.{Lexeme, word, number, name, mark, end, lexeme, fault, found, Scanned, clipped}
use Rattle.hoa_tokens.proofs.Cutting.{unclipped}
use Rattle.hoa_grammar.specs.Rows.{Row, none}
use Rattle.hoa_grammar.specs.Marking.{Limit, kept}
use Rattle.hoa_grammar.specs.Documents.{alike, infinitely_often}
use Rattle.hoa_grammar.specs.Machine.{State, stuck, goes, due, at, starts, signals, names, blocks, header_of, step, word_only, is_token, initial}
use Rattle.hoa_grammar.specs.Reading.{Reached, Refused}
use Rattle.hoa_grammar.proofs.Tests.{alike_true}
use Rattle.hoa_tokens.specs.declared.token.Read.{Read}
use Rattle.hoa_document.specs.Standing.{Stands}
use Rattle.hoa_document.proofs.Leading.{stands_there, stands_on, word_not_end}

-- the first token of a text is in hand, or its bytes are refused
pub first_token : (text : List ℕ) (q : Result Placed Fault) → Scanned text (clipped text 0) (found q) → MatchResult q (Reached text initial) (Refused text)
first_token text q scanned = go q (unclipped (λ i. Scanned text i (found q)) text 0 (omega arith) scanned)
  where
    go : (q : Result Placed Fault) → Scanned text 0 (found q) → MatchResult q (Reached text initial) (Refused text)
    go (Ok h) s = record { from = 0; within = omega arith; before = []; grown = λ rest cut. cut; scanned = s; runs = refl }
    go (Err f) s = record { from = 0; within = omega arith; before = []; at = fault f; grown = λ rest cut. cut; scanned = s; runs = refl }

-- where one of two words may come and the first is not in hand, only the second is taken
pub second_word : (u v : List ℕ) (s s' : State) (x : Lexeme) → (x ≡ word u → ⊥) → word_only (λ w. cond (alike w u) (goes kept s) (cond (alike w v) (goes kept s') stuck)) x ≡ cond (is_token (word v) x) (goes kept s') stuck
second_word u v s s' (word w) other = go (alike w u) refl
  where
    go : (b : Bool) → alike w u ≡ b → cond b (goes kept s) (cond (alike w v) (goes kept s') stuck) ≡ cond (alike w v) (goes kept s') stuck
    go true e = absurd (other (ap word (alike_true w u e)))
    go false e = refl
second_word u v s s' (number n) other = refl
second_word u v s s' (name w) other = refl
second_word u v s s' (mark m) other = refl
second_word u v s s' end other = refl

module _ {text : List ℕ} {head : Placed} {n : ℕ} {row : Row ℕ} where
  -- behind the starts `AP:` is due
  pub starts_over : (lexeme head.token ≡ word (codes "Start:") → ⊥) → Reached text (at (starts n row)) head → Stands text (due (word (codes "AP:") ∷ []) (signals n row)) head
  starts_over other r = record { state = at (starts n row); reached = r; alike = second_word (codes "Start:") (codes "AP:") _ _ (lexeme head.token) other }

  -- behind the names the acceptance is due, unless it is named first
  pub names_over : {ws : Row (List ℕ)} → (lexeme head.token ≡ word (codes "acc-name:") → ⊥) → Reached text (at (names n row ws 0)) head → Stands text (due (word (codes "Acceptance:") ∷ infinitely_often) (blocks (header_of n row ws false) none)) head
  names_over {ws = ws} other r = record { state = at (names n row ws 0); reached = r; alike = second_word (codes "acc-name:") (codes "Acceptance:") _ _ (lexeme head.token) other }

  -- the name of the acceptance is due behind `acc-name:`, and then the acceptance
  pub acceptance_named : {ws : Row (List ℕ)} → lexeme head.token ≡ word (codes "acc-name:") → Reached text (at (names n row ws 0)) head → (q : Result Placed Fault) → Scanned text (clipped text head.next) (found q) → MatchResult q (Reached text (due (word (codes "Buchi") ∷ word (codes "Acceptance:") ∷ infinitely_often) (blocks (header_of n row ws true) none))) (Refused text)
  acceptance_named {ws = ws} is r = stands_on (stands_there r) (λ e. word_not_end (codes "acc-name:") (sym is ∙ e)) _ (ap (step (at (names n row ws 0))) is)

-- a count that was read is not above its limit
pub count_within : (text : List ℕ) (most : ℕ) (limit : ℕ → Limit) (go : ℕ → State) (r : Result (Read ℕ) Fault) → IfOk r (λ x. x.value ≤ most) → MatchResult r (λ x. (limit x.value ≡ kept) × Reached text (go x.value) x.head) (Refused text) → MatchResult r (λ x. (x.value ≤ most) × Reached text (go x.value) x.head) (Refused text)
count_within text most limit go (Ok x) few read = (few, read.1)
count_within text most limit go (Err f) few read = read
