-- Promise. Labels: how each is written, and for which letters it holds.
use Rattle.std.specs.Prelude.{ℕ, ◌+◌, ◌/◌, ◌%◌, ◌^◌, Bool, true, false, not, ◌&&◌, ◌||◌, List, [], ◌∷◌, ◌++◌, codes, ◌==◌, nat_le}
use Rattle.hoa_tokens.specs.declared.fault.Refusal.TheVariants.{OutOfRange, TooDeep}
use Rattle.hoa_tokens.specs.declared.token.Mark.TheVariants.{OpenParen, CloseParen, Not, And, Or}
use Rattle.hoa_tokens.specs.Scanning.{word, number, mark}
use Rattle.hoa_grammar.specs.Marking.{Limit, kept, Marked, marked, breaks_if}

-- a factor is `t`, `f`, a signal, `!` and a factor, or a label in parentheses; a term is factors joined by `&`, a label terms joined by `|`
mutual
  pub data Factor : Type 0 where
    always : Factor
    never : Factor
    signal : ℕ → Factor
    negated : Factor → Factor
    group : Label → Factor

  pub data Term : Type 0 where
    factor : Factor → Term
    and : Term → Factor → Term

  pub data Label : Type 0 where
    term : Term → Label
    or : Label → Term → Label

-- at most so many `(` and `!` are open at once
abbrev pub deepest : ℕ
deepest = 16

-- a signal of p
abbrev pub signal_limit : ℕ → ℕ → Limit
signal_limit p i = breaks_if (nat_le p i) OutOfRange kept

-- a `(` or `!` inside d others that are open
abbrev pub depth_limit : ℕ → Limit
depth_limit d = breaks_if (nat_le deepest d) TooDeep kept

-- the tokens that write it, with p signals, where d `(` and `!` are open
abbrev mutual
  pub spell_factor : ℕ → ℕ → Factor → List Marked
  spell_factor p d always = marked (word (codes "t")) kept ∷ []
  spell_factor p d never = marked (word (codes "f")) kept ∷ []
  spell_factor p d (signal i) = marked (number i) (signal_limit p i) ∷ []
  spell_factor p d (negated f) = marked (mark Not) (depth_limit d) ∷ spell_factor p (d + 1) f
  spell_factor p d (group l) = marked (mark OpenParen) (depth_limit d) ∷ (spell_label p (d + 1) l ++ marked (mark CloseParen) kept ∷ [])

  pub spell_term : ℕ → ℕ → Term → List Marked
  spell_term p d (factor f) = spell_factor p d f
  spell_term p d (and t f) = spell_term p d t ++ marked (mark And) kept ∷ spell_factor p d f

  pub spell_label : ℕ → ℕ → Label → List Marked
  spell_label p d (term t) = spell_term p d t
  spell_label p d (or l t) = spell_label p d l ++ marked (mark Or) kept ∷ spell_term p d t

-- signal i is on in the letter a
abbrev pub on : ℕ → ℕ → Bool
on i a = a / 2 ^ i % 2 == 1

-- it holds for the letter a
abbrev mutual
  pub factor_holds : Factor → ℕ → Bool
  factor_holds always a = true
  factor_holds never a = false
  factor_holds (signal i) a = on i a
  factor_holds (negated f) a = not (factor_holds f a)
  factor_holds (group l) a = label_holds l a

  pub term_holds : Term → ℕ → Bool
  term_holds (factor f) a = factor_holds f a
  term_holds (and t f) a = term_holds t a && factor_holds f a

  pub label_holds : Label → ℕ → Bool
  label_holds (term t) a = term_holds t a
  label_holds (or l t) a = label_holds l a || term_holds t a
