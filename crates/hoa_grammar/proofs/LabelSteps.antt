-- Each token that a label takes is written behind those before it.
use Rattle.std.proofs.Common.{◌≡◌, ℕ, ◌+◌, List, [], ◌∷◌, ◌++◌, codes, sym, refl, ap, ◌∙◌, append_assoc}
use Rattle.hoa_tokens.specs.declared.token.Mark.{Mark}
use Rattle.hoa_tokens.specs.declared.token.Mark.TheVariants.{CloseBracket, OpenParen, CloseParen, Not, And, Or}
use Rattle.hoa_tokens.specs.Scanning.{Lexeme, word, mark}
use Rattle.hoa_grammar.specs.Marking.{kept, Marked, marked}
use Rattle.hoa_grammar.specs.Labels.{Factor, Term, Label, always, never, signal, negated, group, depth_limit, signal_limit, spell_factor, spell_term, spell_label}
use Rattle.hoa_grammar.specs.Machine.{FactorContext, first_factor, next_factor, negating, TermContext, first_term, next_term, LabelContext, bracketed, grouping, factor_depth, term_depth, label_depth, LabelSlot, factor_due, term_read, behind_factor, label_with, around, LabelStep, stray, onto, closes, close_paren, close_bracket, factor_word, factor_mark, term_mark, label_step}
use Rattle.hoa_grammar.proofs.Tests.{by_kind_lem, by_word, by_mark}
use Rattle.hoa_grammar.proofs.Written.{before_factor, before_term, before_label, label_up_to}

-- a sign joins what stands before it and behind it
join_behind : (xs ys : List Marked) (sign : Marked) (zs : List Marked) → xs ++ (ys ++ sign ∷ zs) ≡ (xs ++ (ys ++ sign ∷ [])) ++ zs
join_behind xs ys sign zs = simp append_assoc

factor_written : (p : ℕ) (c : FactorContext) (f : Factor) → label_up_to p (behind_factor c f) ≡ before_factor p c ++ spell_factor p (factor_depth c) f
factor_written p (first_factor c) f = refl
factor_written p (next_factor c t) f = join_behind (before_term p c) (spell_term p (term_depth c) t) (marked (mark And) kept) (spell_factor p (term_depth c) f)
factor_written p (negating c) f =
    factor_written p c (negated f)
    ∙ sym (append_assoc (before_factor p c) (marked (mark Not) (depth_limit (factor_depth c)) ∷ []) (spell_factor p (factor_depth c + 1) f))

label_written : (p : ℕ) (c : TermContext) (t : Term) → before_label p (around c) ++ spell_label p (label_depth (around c)) (label_with c t) ≡ label_up_to p (term_read c t)
label_written p (first_term c) t = refl
label_written p (next_term c l) t = join_behind (before_label p c) (spell_label p (label_depth c) l) (marked (mark Or) kept) (spell_term p (label_depth c) t)

abbrev pub LabelLawful : ℕ → LabelSlot → Lexeme → LabelStep → Type 0
LabelLawful p k x stray = Unit {0}
LabelLawful p k x (onto l k') = label_up_to p k' ≡ label_up_to p k ++ marked x l ∷ []
LabelLawful p k x (closes l) = (x ≡ mark CloseBracket) × (spell_label p 0 l ≡ label_up_to p k)

close_paren_lawful : (p : ℕ) (c : LabelContext) (l : Label) (k : LabelSlot) → before_label p c ++ spell_label p (label_depth c) l ≡ label_up_to p k → LabelLawful p k (mark CloseParen) (close_paren c l)
close_paren_lawful p bracketed l k e = tt
close_paren_lawful p (grouping c) l k e =
    factor_written p c (group l)
    ∙ rejoined (before_factor p c) (marked (mark OpenParen) (depth_limit (factor_depth c))) (spell_label p (factor_depth c + 1) l) (marked (mark CloseParen) kept)
    ∙ ap (λ zs. zs ++ marked (mark CloseParen) kept ∷ []) e
  where
    rejoined : (xs : List Marked) (y : Marked) (zs : List Marked) (z : Marked) → xs ++ y ∷ (zs ++ z ∷ []) ≡ ((xs ++ y ∷ []) ++ zs) ++ z ∷ []
    rejoined xs y zs z = simp append_assoc

close_bracket_lawful : (p : ℕ) (c : LabelContext) (l : Label) (k : LabelSlot) → before_label p c ++ spell_label p (label_depth c) l ≡ label_up_to p k → LabelLawful p k (mark CloseBracket) (close_bracket c l)
close_bracket_lawful p bracketed l k e = (refl, e)
close_bracket_lawful p (grouping c) l k e = tt

word_lawful : (p : ℕ) (c : FactorContext) (w : List ℕ) → LabelLawful p (factor_due c) (word w) (factor_word c w)
word_lawful p c w =
    by_word (LabelLawful p (factor_due c)) w (codes "t") (onto kept (behind_factor c always)) _ (factor_written p c always)
    (by_word (LabelLawful p (factor_due c)) w (codes "f") (onto kept (behind_factor c never)) stray (factor_written p c never) tt)

open_lawful : (p : ℕ) (c : FactorContext) (m : Mark) → LabelLawful p (factor_due c) (mark m) (factor_mark c m)
open_lawful p c m =
    by_mark (LabelLawful p (factor_due c)) m Not (onto (depth_limit (factor_depth c)) (factor_due (negating c))) _ refl
    (by_mark (LabelLawful p (factor_due c)) m OpenParen (onto (depth_limit (factor_depth c)) (factor_due (first_factor (first_term (grouping c))))) stray refl tt)

term_lawful : (p : ℕ) (c : TermContext) (t : Term) (m : Mark) → LabelLawful p (term_read c t) (mark m) (term_mark c t m)
term_lawful p c t m =
    let whole = label_written p c t in
    by_mark (LabelLawful p (term_read c t)) m And (onto kept (factor_due (next_factor c t))) _ (sym (append_assoc (before_term p c) (spell_term p (term_depth c) t) (marked (mark And) kept ∷ [])))
    (by_mark (LabelLawful p (term_read c t)) m Or (onto kept (factor_due (first_factor (next_term (around c) (label_with c t))))) _
    (sym (append_assoc (before_label p (around c)) (spell_label p (label_depth (around c)) (label_with c t)) (marked (mark Or) kept ∷ [])) ∙ ap (λ zs. zs ++ marked (mark Or) kept ∷ []) whole)
    (by_mark (LabelLawful p (term_read c t)) m CloseParen (close_paren (around c) (label_with c t)) _ (close_paren_lawful p (around c) (label_with c t) (term_read c t) whole)
    (by_mark (LabelLawful p (term_read c t)) m CloseBracket (close_bracket (around c) (label_with c t)) stray (close_bracket_lawful p (around c) (label_with c t) (term_read c t) whole) tt)))

pub label_lawful : (p : ℕ) (k : LabelSlot) (x : Lexeme) → LabelLawful p k x (label_step p k x)
label_lawful p (factor_due c) x = by_kind_lem (LabelLawful p (factor_due c)) (factor_word c) (λ i. onto (signal_limit p i) (behind_factor c (signal i))) (λ w. stray) (factor_mark c) stray (word_lawful p c) (λ i. factor_written p c (signal i)) (λ w. tt) (open_lawful p c) tt x
label_lawful p (term_read c t) x = by_kind_lem (LabelLawful p (term_read c t)) (λ w. stray) (λ n. stray) (λ w. stray) (term_mark c t) stray (λ w. tt) (λ n. tt) (λ w. tt) (term_lawful p c t) tt x
