-- Promise. Worked examples, as cases of four kinds, and what it says of a case that it holds.
use Rattle.std.specs.Prelude.{◌≡◌, ℕ, ◌^◌, ◌<◌, Bool, T, ◌⊎◌, ◌↔◌, List}
use mathlib.Core.List.{Memᴰ}
use Rattle.hoa_tokens.specs.declared.fault.Fault.{Fault}
use Rattle.hoa_tokens.specs.Scanning.{Lexeme}
use Rattle.hoa_grammar.specs.Marking.{tokens_of, AllKept}
use Rattle.hoa_grammar.specs.Labels.{Label, spell_label, label_holds}
use Rattle.hoa_grammar.specs.Documents.{Document}
use Rattle.hoa_document.specs.Denoting.{TextWrites, TextRefused}
use Rattle.omega.specs.Automata.{Meaning, Sound}
use Rattle.omega.specs.Words.{SomeWord, SharedWord}
use Rattle.omega.specs.Lassos.{SomeLasso}
use Rattle.omega.specs.Rankings.{Ranking}
use Rattle.omega.specs.Pairs as pairs
use Rattle.omega.specs.Signals as signals
use Rattle.omega.specs.Tables as tables
use Rattle.evidence.specs.Strips.{TellsLasso, TellsRanking}

-- an automaton that can be written down: a table of n states and p signals with its starts, its good states and its cells; `again` and `settles`
-- of a signal i of p; and the pair of two
pub data Shape : Type 0 where
  table : (n p starts goods : ℕ) → List ℕ → Shape
  again : (i p : ℕ) → Shape
  settles : (i p : ℕ) → Shape
  pair : Shape → Shape → Shape

-- the automaton of a shape
abbrev pub meaning : Shape → Meaning
meaning (table n p starts goods cells) = tables.table n p starts goods cells
meaning (again i p) = signals.again i p
meaning (settles i p) = signals.settles i p
meaning (pair a b) = pairs.pair (meaning a) (meaning b)

-- for a pair of shapes, a statement about its two parts
abbrev pub OfParts : (Meaning → Meaning → Type 0) → Shape → Type 0
OfParts P (table n p starts goods cells) = Unit {0}
OfParts P (again i p) = Unit {0}
OfParts P (settles i p) = Unit {0}
OfParts P (pair a b) = P (meaning a) (meaning b)

-- the strip tells a lasso: some word is accepted, by both parts of a pair, and no ranking exists
pub record ShowsWord (shape : Shape) (strip : List ℕ) : Type 0 where
  pub tells : TellsLasso (meaning shape) strip
  pub word : SomeWord (meaning shape)
  pub shared : OfParts SharedWord shape
  pub unranked : (inside : ℕ → Bool) (rank : ℕ → ℕ) → Ranking (meaning shape) inside rank → ⊥

-- the strip tells a ranking: no word is accepted, none by both parts of a pair, and no lasso exists
pub record RulesOut (shape : Shape) (strip : List ℕ) : Type 0 where
  pub tells : TellsRanking (meaning shape) strip
  pub no_word : SomeWord (meaning shape) → ⊥
  pub no_shared : OfParts (λ A B. SharedWord A B → ⊥) shape
  pub no_lasso : SomeLasso (meaning shape) → ⊥

-- the automaton of the shape keeps the limits, and the strip is evidence for it, with all that follows
pub record Judged (shape : Shape) (strip : List ℕ) : Type 0 where
  pub sound : Sound (meaning shape)
  pub evidence : ShowsWord shape strip ⊎ RulesOut shape strip

-- with p signals, these tokens write the label, none breaks a limit, and it holds for a letter exactly if that is listed
pub record HoldsFor (p : ℕ) (label : Label) (tokens : List Lexeme) (letters : List ℕ) : Type 0 where
  pub spelled : tokens_of (spell_label p 0 label) ≡ tokens
  pub kept : AllKept (spell_label p 0 label)
  pub exactly : (a : ℕ) → a < 2 ^ p → T (label_holds label a) ↔ Memᴰ a letters

-- a worked example
pub data Case : Type 0 where
  -- a shape, and a strip that is evidence for it
  judges : Shape → List ℕ → Case
  -- a number of signals, a label, the tokens that write it, and the letters for which it holds
  labels : ℕ → Label → List Lexeme → List ℕ → Case
  -- a text that writes a document within the limits
  reads : List ℕ → Case
  -- a text, and the fault with which it is refused
  refuses : List ℕ → Fault → Case

-- what it says of a case that it holds
abbrev pub Holds : Case → Type 0
Holds (judges shape strip) = Judged shape strip
Holds (labels p label tokens letters) = HoldsFor p label tokens letters
Holds (reads text) = (d : Document) × TextWrites text d
Holds (refuses text f) = TextRefused text f
