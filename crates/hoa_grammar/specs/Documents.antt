-- Promise. Documents: how each is written token by token, which limits its tokens break, and the automaton that it means.
use Rattle.std.specs.Prelude.{ℕ, ◌^◌, Bool, true, false, ◌&&◌, List, [], ◌∷◌, ◌++◌, codes, ◌==◌, nat_eq, nat_le, nat_lt}
use Rattle.hoa_tokens.specs.declared.fault.Refusal.TheVariants.{TooMany, OutOfRange, Repeated}
use Rattle.hoa_tokens.specs.declared.token.Mark.TheVariants.{OpenBracket, CloseBracket, OpenBrace, CloseBrace, OpenParen, CloseParen}
use Rattle.hoa_tokens.specs.Scanning.{Lexeme, word, number, name, mark, end}
use Rattle.hoa_grammar.specs.Rows.{Row, none, more, size, some}
use Rattle.hoa_grammar.specs.Marking.{Limit, kept, Marked, marked, unlimited, breaks_if}
use Rattle.hoa_grammar.specs.Labels.{Label, spell_label, label_holds}

-- the letters of an edge: all of them, or those of a label
pub data Letters : Type 0 where
  every : Letters
  labelled : Label → Letters

pub record Edge : Type 0 where
  pub letters : Letters
  pub target : ℕ

-- the edges out of one state
pub record Block : Type 0 where
  pub state : ℕ
  pub good : Bool
  pub edges : Row Edge

pub record Header : Type 0 where
  pub states : ℕ
  pub starts : Row ℕ
  pub names : Row (List ℕ)
  -- whether `acc-name: Buchi` is there
  pub named : Bool

pub record Document : Type 0 where
  pub header : Header
  pub blocks : Row Block

-- the limits of a document
abbrev pub most_states : ℕ
most_states = 64

abbrev pub most_signals : ℕ
most_signals = 4

abbrev pub states_limit : ℕ → Limit
states_limit n = breaks_if (nat_lt most_states n) TooMany kept

abbrev pub signals_limit : ℕ → Limit
signals_limit p = breaks_if (nat_lt most_signals p) TooMany kept

-- a state of n
abbrev pub state_limit : ℕ → ℕ → Limit
state_limit n s = breaks_if (nat_le n s) OutOfRange kept

-- the same bytes
abbrev pub alike : List ℕ → List ℕ → Bool
alike [] [] = true
alike [] (y ∷ ys) = false
alike (x ∷ xs) [] = false
alike (x ∷ xs) (y ∷ ys) = x == y && alike xs ys

-- a name behind others
abbrev pub name_limit : Row (List ℕ) → List ℕ → Limit
name_limit before w = breaks_if (some (alike w) before) Repeated kept

-- the state of a block behind others
abbrev pub block_limit : ℕ → Row Block → ℕ → Limit
block_limit n before s = breaks_if (nat_le n s) OutOfRange (breaks_if (some (λ b. nat_eq s b.state) before) Repeated kept)

abbrev pub spell_starts : ℕ → Row ℕ → List Marked
spell_starts n none = []
spell_starts n (more ss s) = spell_starts n ss ++ marked (word (codes "Start:")) kept ∷ marked (number s) (state_limit n s) ∷ []

abbrev pub spell_names : Row (List ℕ) → List Marked
spell_names none = []
spell_names (more ws w) = spell_names ws ++ marked (name w) (name_limit ws w) ∷ []

-- 1 Inf(0) --BODY--
abbrev pub infinitely_often : List Lexeme
infinitely_often = number 1 ∷ word (codes "Inf") ∷ mark OpenParen ∷ number 0 ∷ mark CloseParen ∷ word (codes "--BODY--") ∷ []

abbrev pub spell_acceptance : Bool → List Lexeme
spell_acceptance true = word (codes "acc-name:") ∷ word (codes "Buchi") ∷ word (codes "Acceptance:") ∷ infinitely_often
spell_acceptance false = word (codes "Acceptance:") ∷ infinitely_often

-- the header up to its starts, and up to its names
abbrev pub spell_front : ℕ → Row ℕ → List Marked
spell_front n ss = (unlimited (word (codes "HOA:") ∷ word (codes "v1") ∷ word (codes "States:") ∷ []) ++ marked (number n) (states_limit n) ∷ []) ++ spell_starts n ss

abbrev pub spell_signals : ℕ → Row ℕ → ℕ → Row (List ℕ) → List Marked
spell_signals n ss p ws = (spell_front n ss ++ marked (word (codes "AP:")) kept ∷ marked (number p) (signals_limit p) ∷ []) ++ spell_names ws

-- as many names as signals
abbrev pub spell_header : Header → List Marked
spell_header h = spell_signals h.states h.starts (size h.names) h.names ++ unlimited (spell_acceptance h.named)

abbrev pub spell_letters : ℕ → Letters → List Marked
spell_letters p every = []
spell_letters p (labelled l) = marked (mark OpenBracket) kept ∷ (spell_label p 0 l ++ marked (mark CloseBracket) kept ∷ [])

abbrev pub spell_edges : ℕ → ℕ → Row Edge → List Marked
spell_edges n p none = []
spell_edges n p (more es e) = spell_edges n p es ++ (spell_letters p e.letters ++ marked (number e.target) (state_limit n e.target) ∷ [])

abbrev pub spell_good : Bool → List Lexeme
spell_good true = mark OpenBrace ∷ number 0 ∷ mark CloseBrace ∷ []
spell_good false = []

abbrev pub spell_block : Header → Row Block → Block → List Marked
spell_block h before b = (marked (word (codes "State:")) kept ∷ marked (number b.state) (block_limit h.states before b.state) ∷ unlimited (spell_good b.good)) ++ spell_edges h.states (size h.names) b.edges

abbrev pub spell_blocks : Header → Row Block → List Marked
spell_blocks h none = []
spell_blocks h (more bs b) = spell_blocks h bs ++ spell_block h bs b

-- the tokens that write a document, the text's end too
abbrev pub spell : Document → List Marked
spell d = (spell_header d.header ++ spell_blocks d.header d.blocks) ++ marked (word (codes "--END--")) kept ∷ marked end kept ∷ []

-- the automaton that a document means
abbrev pub is_start : Document → ℕ → Bool
is_start d s = some (nat_eq s) d.header.starts

abbrev pub is_good : Document → ℕ → Bool
is_good d s = some (λ b. (s == b.state) && b.good) d.blocks

-- an edge without a label stands for every letter
abbrev pub letters_hold : ℕ → Letters → ℕ → Bool
letters_hold p every a = nat_lt a (2 ^ p)
letters_hold p (labelled l) a = nat_lt a (2 ^ p) && label_holds l a

-- the steps of a block
abbrev pub block_steps : ℕ → Block → ℕ → ℕ → Bool
block_steps p b a t = some (λ e. letters_hold p e.letters a && t == e.target) b.edges

abbrev pub is_step : Document → ℕ → ℕ → ℕ → Bool
is_step d s a t = some (λ b. (s == b.state) && block_steps (size d.header.names) b a t) d.blocks
