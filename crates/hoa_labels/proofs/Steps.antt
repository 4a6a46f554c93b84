-- Which step the machine makes behind a term or a label, by tests of the token there.
use Rattle.std.proofs.Common.{◌≡◌, ℕ, Bool, true, false, cond, eqb, refl, ap, ◌∙◌, arith}
use Rattle.std.proofs.lemmas.Bool.Decides.{nat_tests}
use Rattle.hoa_tokens.specs.declared.token.Mark.{Mark}
use Rattle.hoa_tokens.specs.declared.token.Mark.TheVariants.{And, Or, CloseParen, CloseBracket}
use Rattle.hoa_tokens.specs.Bytes.{sign}
use Rattle.hoa_tokens.specs.Scanning.{Lexeme, word, number, name, mark, end}
use Rattle.hoa_grammar.specs.Marking.{kept}
use Rattle.hoa_grammar.specs.Labels.{Term, Label, term, or, group}
use Rattle.hoa_grammar.specs.Machine.{FactorContext, TermContext, LabelContext, first_factor, next_factor, first_term, next_term, bracketed, grouping, factor_due, term_read, behind_factor, around, label_with, LabelStep, stray, onto, closes, close_paren, close_bracket, label_step, is_token}
use Rattle.hoa_labels.specs.Parts.{label_read}

-- a token is at most one mark
one_mark : (m n : Mark) (x : Lexeme) → eqb (sign m) (sign n) ≡ false → is_token (mark m) x ≡ true → is_token (mark n) x ≡ false
one_mark m n (word w) other is = refl
one_mark m n (number i) other is = refl
one_mark m n (name w) other is = refl
one_mark m n (mark k) other is = grind (arith, nat_tests)
one_mark m n end other is = refl

either : (b : Bool) → cond b stray stray ≡ stray
either true = refl
either false = refl

-- the step at a token that is no `&`, behind a label so far
abbrev behind_terms : LabelContext → Label → Lexeme → LabelStep
behind_terms c l x = cond (is_token (mark Or) x) (onto kept (factor_due (first_factor (next_term c l)))) (cond (is_token (mark CloseParen) x) (close_paren c l) (cond (is_token (mark CloseBracket) x) (close_bracket c l) stray))

behind_term : (p : ℕ) (c : TermContext) (t : Term) (x : Lexeme) → label_step p (term_read c t) x ≡ cond (is_token (mark And) x) (onto kept (factor_due (next_factor c t))) (behind_terms (around c) (label_with c t) x)
behind_term p c t (word w) = refl
behind_term p c t (number n) = refl
behind_term p c t (name w) = refl
behind_term p c t (mark m) = refl
behind_term p c t end = refl

pub at_and : (p : ℕ) (c : TermContext) (t : Term) (x : Lexeme) → is_token (mark And) x ≡ true → label_step p (term_read c t) x ≡ onto kept (factor_due (next_factor c t))
at_and p c t x is = behind_term p c t x ∙ ap (λ b. cond b (onto kept (factor_due (next_factor c t))) (behind_terms (around c) (label_with c t) x)) is

module _ (p : ℕ) (l : Label) (x : Lexeme) (no-and : is_token (mark And) x ≡ false) where
  behind_label_lem : (whole : Label) (c : LabelContext) → label_step p (label_read whole c) x ≡ behind_terms c whole x
  behind_label_lem (term t) c = behind_term p (first_term c) t x ∙ ap (λ b. cond b (onto kept (factor_due (next_factor (first_term c) t))) (behind_terms c (term t) x)) no-and
  behind_label_lem (or k t) c = behind_term p (next_term c k) t x ∙ ap (λ b. cond b (onto kept (factor_due (next_factor (next_term c k) t))) (behind_terms c (or k t) x)) no-and

  pub at_or : (c : LabelContext) → is_token (mark Or) x ≡ true → label_step p (label_read l c) x ≡ onto kept (factor_due (first_factor (next_term c l)))
  at_or c is = behind_label_lem l c ∙ rw is

  module _ (no_or : is_token (mark Or) x ≡ false) where
    pub at_close_paren : (c : FactorContext) → is_token (mark CloseParen) x ≡ true → label_step p (label_read l (grouping c)) x ≡ onto kept (behind_factor c (group l))
    at_close_paren c is = behind_label_lem l (grouping c) ∙ rw (no_or, is)

    pub at_close_bracket : is_token (mark CloseBracket) x ≡ true → label_step p (label_read l bracketed) x ≡ closes l
    at_close_bracket is = let not-paren = one_mark CloseBracket CloseParen x refl is in behind_label_lem l bracketed ∙ rw (no_or, not-paren, is)

    pub not_close_paren : (c : FactorContext) → is_token (mark CloseParen) x ≡ false → label_step p (label_read l (grouping c)) x ≡ stray
    not_close_paren c other = behind_label_lem l (grouping c) ∙ rw (no_or, other) (either (is_token (mark CloseBracket) x))

    pub not_close_bracket : is_token (mark CloseBracket) x ≡ false → label_step p (label_read l bracketed) x ≡ stray
    not_close_bracket other = behind_label_lem l bracketed ∙ rw (no_or, other) (either (is_token (mark CloseParen) x))
