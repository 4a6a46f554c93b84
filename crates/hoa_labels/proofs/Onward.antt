-- Reading goes on through the text and never back, which is why the loops end.
use Rattle.std.proofs.Common.{◌≡◌, ℕ, ◌≤◌, true, false, List, length, Ok, sym, refl, ap, ◌∙◌, true≢false, arith}
use Rattle.hoa_tokens.specs.declared.token.Mark.{Mark}
use Rattle.hoa_tokens.specs.declared.token.Placed.{Placed}
use Rattle.hoa_tokens.specs.declared.token.Token.{Token}
use Rattle.hoa_tokens.specs.declared.token.Token.TheVariants as case
use Rattle.hoa_tokens.specs.Scanning.{Lexeme, word, number, name, mark, end, lexeme, token, found, Scanned, Ahead, clipped}
use Rattle.hoa_tokens.proofs.Once.{scanned_ahead}
use Rattle.hoa_grammar.specs.Machine.{is_token}
use Rattle.hoa_labels.specs.Parts.{at_end, Onward}

-- a mark is not the text's end
pub mark_goes_on : (m : Mark) (x : Lexeme) → is_token (mark m) x ≡ true → at_end x ≡ false
mark_goes_on m (word w) is = refl
mark_goes_on m (number n) is = refl
mark_goes_on m (name w) is = refl
mark_goes_on m (mark n) is = refl
mark_goes_on m end is = sym is

pub not_end : (t : Token) → at_end (lexeme t) ≡ false → t ≡ case.End → ⊥
not_end t more is = true≢false (sym (ap (λ k. at_end (lexeme k)) is) ∙ more)

-- a scan from within the text does not go back
ahead_within : (t : Token) (text : List ℕ) (from place next : ℕ) → from ≤ length text → Ahead text from (token (lexeme t) place next) → (from ≤ next) × (next ≤ length text)
ahead_within (case.Word w) text from place next inside h = (omega arith, h.1)
ahead_within (case.Number n) text from place next inside h = (omega arith, h.1)
ahead_within (case.Name w) text from place next inside h = (omega arith, h.1)
ahead_within (case.Mark m) text from place next inside h = (omega arith, h.1)
ahead_within case.End text from place next inside h = (omega arith, omega arith)

module _ {text : List ℕ} {head next : Placed} where
  -- to the token behind the one in hand
  pub onward_next : at_end (lexeme head.token) ≡ false → Scanned text (clipped text head.next) (found (Ok next)) → Onward text head next
  onward_next more scanned =
      let from = clipped text head.next in
      let h = ahead_within next.token text from next.place next.next (omega arith) (scanned_ahead text from (found (Ok next)) scanned) in
      record { more = more; forward = h.0; within = h.1 }

  pub onward_on : {last : Placed} → Onward text head next → Onward text next last → Onward text head last
  onward_on one two = record { more = one.more; forward = omega arith; within = two.within }
