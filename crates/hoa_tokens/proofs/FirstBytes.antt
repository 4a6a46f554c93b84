-- The first byte of an item tells its kind, so that items which begin at one place are of one kind.
use Rattle.std.proofs.Common.{◌≡◌, ℕ, ◌<◌, ◌≤◌, Bool, true, false, cond, eqb, List, get_or, sym, refl, ap, ◌∙◌, subst, inl, inr, arith, lit<}
use Rattle.std.proofs.lemmas.Bool.Decides.{nat_tests}
use Rattle.hoa_tokens.specs.declared.token.Mark.{Mark}
use Rattle.hoa_tokens.specs.declared.token.Mark.TheVariants.{OpenBracket, CloseBracket, OpenBrace, CloseBrace, OpenParen, CloseParen, Not, And, Or}
use Rattle.hoa_tokens.specs.Bytes.{letter, digit, quote, sign}
use Rattle.hoa_tokens.specs.Items.{Kind, word, digits, name, mark, Item, Longest}

pub never : (b : Bool) → b ≡ true → b ≡ false → ⊥
never b p q = let z : ◌≡◌ {A = ℕ} 0 1 = cc in omega arith

-- the mark of a byte, if it is one
abbrev mark_at : ℕ → Mark
mark_at b = cond (eqb b 91) OpenBracket (cond (eqb b 93) CloseBracket (cond (eqb b 123) OpenBrace (cond (eqb b 125) CloseBrace (cond (eqb b 40) OpenParen (cond (eqb b 41) CloseParen (cond (eqb b 33) Not (cond (eqb b 38) And Or)))))))

-- the kind of an item that begins with the byte, if any does
abbrev pub kind_at : ℕ → Kind
kind_at b = cond (letter b) word (cond (digit b) digits (cond (eqb b quote) name (mark (mark_at b))))

kind_sign : (m : Mark) → kind_at (sign m) ≡ mark m
kind_sign OpenBracket = refl
kind_sign CloseBracket = refl
kind_sign OpenBrace = refl
kind_sign CloseBrace = refl
kind_sign OpenParen = refl
kind_sign CloseParen = refl
kind_sign Not = refl
kind_sign And = refl
kind_sign Or = refl

pub some_sign : (m : Mark) → 0 < sign m
some_sign OpenBracket = lit< tt
some_sign CloseBracket = lit< tt
some_sign OpenBrace = lit< tt
some_sign CloseBrace = lit< tt
some_sign OpenParen = lit< tt
some_sign CloseParen = lit< tt
some_sign Not = lit< tt
some_sign And = lit< tt
some_sign Or = lit< tt

kind_letter : (b : ℕ) → letter b ≡ true → kind_at b ≡ word
kind_letter b e = ap (λ v. cond v word (cond (digit b) digits (cond (eqb b quote) name (mark (mark_at b))))) e

no_letter : (b : ℕ) → digit b ≡ true → letter b ≡ false
no_letter b e = grind (arith, nat_tests)

kind_digit : (b : ℕ) → digit b ≡ true → kind_at b ≡ digits
kind_digit b e =
    ap (λ v. cond v word (cond (digit b) digits (cond (eqb b quote) name (mark (mark_at b))))) (no_letter b e)
    ∙ ap (λ v. cond v digits (cond (eqb b quote) name (mark (mark_at b)))) e

pub kind_at_lem : (kind : Kind) (text : List ℕ) (from to : ℕ) → Item kind text from to → kind_at (get_or text from 0) ≡ kind
kind_at_lem word text from to (inl stem) = kind_letter (get_or text from 0) stem.1
kind_at_lem word text from to (inr ended) = kind_letter (get_or text from 0) ended.0.1
kind_at_lem digits text from to run = kind_digit (get_or text from 0) (run.1 from (omega arith) run.0)
kind_at_lem name text from to quoted = ap kind_at quoted.0
kind_at_lem (mark m) text from to one = ap kind_at one.1 ∙ kind_sign m

-- an item is the longest if it is the longest of its kind
pub longest_of : (kind : Kind) (text : List ℕ) (from to : ℕ) → Item kind text from to → ((end : ℕ) → Item kind text from end → end ≤ to) → Longest kind text from to
longest_of kind text from to it most =
    record { item = it; longest = λ other end o. most end (subst (λ k. Item k text from end) (sym (kind_at_lem other text from end o) ∙ kind_at_lem kind text from to it) o) }
