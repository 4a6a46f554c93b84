-- Scaffolding, no promise: a machine that takes tokens one by one, with the part of a document that they have written so far.
use Rattle.std.specs.Prelude.{ℕ, zero, suc, ◌+◌, Bool, true, false, cond, List, [], ◌∷◌, codes, ◌==◌, nat_eq}
use Rattle.hoa_tokens.specs.declared.fault.Fault.{Fault}
use Rattle.hoa_tokens.specs.declared.fault.Refusal.TheVariants.{Unexpected}
use Rattle.hoa_tokens.specs.declared.token.Mark.{Mark}
use Rattle.hoa_tokens.specs.declared.token.Mark.TheVariants.{OpenBracket, CloseBracket, OpenBrace, CloseBrace, OpenParen, CloseParen, Not, And, Or}
use Rattle.hoa_tokens.specs.Bytes.{sign}
use Rattle.hoa_tokens.specs.Scanning.{Lexeme, word, number, name, mark, end, Found, token, fault}
use Rattle.hoa_grammar.specs.Rows.{Row, none, more, size}
use Rattle.hoa_grammar.specs.Marking.{Limit, kept, broken}
use Rattle.hoa_grammar.specs.Labels.{Factor, Term, Label, always, never, signal, negated, group, factor, and, term, or, signal_limit, depth_limit}
use Rattle.hoa_grammar.specs.Documents.{Letters, every, labelled, Block, Header, Document, states_limit, signals_limit, state_limit, name_limit, block_limit, alike, infinitely_often}
use Rattle.hoa_grammar.specs.Verdicts.{fault_at}

-- a result for each kind of token
abbrev pub by_kind : {A : Type 0} → (List ℕ → A) → (ℕ → A) → (List ℕ → A) → (Mark → A) → A → Lexeme → A
by_kind on_word on_number on_name on_mark at_end (word w) = on_word w
by_kind on_word on_number on_name on_mark at_end (number n) = on_number n
by_kind on_word on_number on_name on_mark at_end (name w) = on_name w
by_kind on_word on_number on_name on_mark at_end (mark m) = on_mark m
by_kind on_word on_number on_name on_mark at_end end = at_end

abbrev pub is_mark : Mark → Mark → Bool
is_mark m n = sign m == sign n

-- whether x is the word, the number or the mark that is due
abbrev pub is_token : Lexeme → Lexeme → Bool
is_token (word v) x = by_kind (λ w. alike w v) (λ n. false) (λ w. false) (λ m. false) false x
is_token (number k) x = by_kind (λ w. false) (λ n. nat_eq n k) (λ w. false) (λ m. false) false x
is_token (name v) x = false
is_token (mark k) x = by_kind (λ w. false) (λ n. false) (λ w. false) (λ m. is_mark m k) false x
is_token end x = false

-- where a part of a label stands: what is open around it, with what is written before it
mutual
  pub data FactorContext : Type 0 where
    first_factor : TermContext → FactorContext
    -- behind a term and `&`
    next_factor : TermContext → Term → FactorContext
    -- behind `!`
    negating : FactorContext → FactorContext

  pub data TermContext : Type 0 where
    first_term : LabelContext → TermContext
    -- behind a label and `|`
    next_term : LabelContext → Label → TermContext

  pub data LabelContext : Type 0 where
    bracketed : LabelContext
    grouping : FactorContext → LabelContext

-- how many `(` and `!` are open there
abbrev mutual
  pub factor_depth : FactorContext → ℕ
  factor_depth (first_factor c) = term_depth c
  factor_depth (next_factor c t) = term_depth c
  factor_depth (negating c) = factor_depth c + 1

  pub term_depth : TermContext → ℕ
  term_depth (first_term c) = label_depth c
  term_depth (next_term c l) = label_depth c

  pub label_depth : LabelContext → ℕ
  label_depth bracketed = 0
  label_depth (grouping c) = factor_depth c + 1

-- what may come next in a label
pub data LabelSlot : Type 0 where
  -- a factor is due
  factor_due : FactorContext → LabelSlot
  -- a term may end here or go on
  term_read : TermContext → Term → LabelSlot

-- where a factor leads
abbrev pub behind_factor : FactorContext → Factor → LabelSlot
behind_factor (first_factor c) f = term_read c (factor f)
behind_factor (next_factor c t) f = term_read c (and t f)
behind_factor (negating c) f = behind_factor c (negated f)

-- the label that a term ends, and where that stands
abbrev pub label_with : TermContext → Term → Label
label_with (first_term c) t = term t
label_with (next_term c l) t = or l t

abbrev pub around : TermContext → LabelContext
around (first_term c) = c
around (next_term c l) = c

-- a token in a label is not allowed, leads on, or ends the label
pub data LabelStep : Type 0 where
  stray : LabelStep
  onto : Limit → LabelSlot → LabelStep
  closes : Label → LabelStep

abbrev pub close_paren : LabelContext → Label → LabelStep
close_paren bracketed l = stray
close_paren (grouping c) l = onto kept (behind_factor c (group l))

abbrev pub close_bracket : LabelContext → Label → LabelStep
close_bracket bracketed l = closes l
close_bracket (grouping c) l = stray

abbrev pub factor_word : FactorContext → List ℕ → LabelStep
factor_word c w = cond (alike w (codes "t")) (onto kept (behind_factor c always)) (cond (alike w (codes "f")) (onto kept (behind_factor c never)) stray)

abbrev pub factor_mark : FactorContext → Mark → LabelStep
factor_mark c m = cond (is_mark m Not) (onto (depth_limit (factor_depth c)) (factor_due (negating c))) (cond (is_mark m OpenParen) (onto (depth_limit (factor_depth c)) (factor_due (first_factor (first_term (grouping c))))) stray)

abbrev pub term_mark : TermContext → Term → Mark → LabelStep
term_mark c t m = cond (is_mark m And) (onto kept (factor_due (next_factor c t))) (cond (is_mark m Or) (onto kept (factor_due (first_factor (next_term (around c) (label_with c t))))) (cond (is_mark m CloseParen) (close_paren (around c) (label_with c t)) (cond (is_mark m CloseBracket) (close_bracket (around c) (label_with c t)) stray)))

-- the step of a label with p signals
abbrev pub label_step : ℕ → LabelSlot → Lexeme → LabelStep
label_step p (factor_due c) x = by_kind (factor_word c) (λ i. onto (signal_limit p i) (behind_factor c (signal i))) (λ w. stray) (factor_mark c) stray x
label_step p (term_read c t) x = by_kind (λ w. stray) (λ n. stray) (λ w. stray) (term_mark c t) stray x

-- a block that is being read, behind others
pub record Current : Type 0 where
  pub header : Header
  pub before : Row Block
  pub block : Block

abbrev pub opened : Header → Row Block → ℕ → Bool → Current
opened h bs s g = record { header = h; before = bs; block = record { state = s; good = g; edges = none } }

abbrev pub with_edge : Current → Letters → ℕ → Current
with_edge c ls t = record { header = c.header; before = c.before; block = record { state = c.block.state; good = c.block.good; edges = more c.block.edges (record { letters = ls; target = t }) } }

abbrev pub blocks_with : Current → Row Block
blocks_with c = more c.before c.block

abbrev pub header_of : ℕ → Row ℕ → Row (List ℕ) → Bool → Header
header_of n ss ws b = record { states = n; starts = ss; names = ws; named = b }

-- what may come next
pub data Slot : Type 0 where
  -- the number of states
  states : Slot
  -- one more `Start:`, or `AP:`
  starts : ℕ → Row ℕ → Slot
  start : ℕ → Row ℕ → Slot
  -- the number of signals
  signals : ℕ → Row ℕ → Slot
  -- so many names, and then the acceptance
  names : ℕ → Row ℕ → Row (List ℕ) → ℕ → Slot
  -- one more block, or the end
  blocks : Header → Row Block → Slot
  state : Header → Row Block → Slot
  -- `{0}`, or what else may follow a block's state
  good : Header → Row Block → ℕ → Slot
  -- one more edge, or what may follow the block
  edges : Current → Slot
  within : Current → LabelSlot → Slot
  target : Current → Label → Slot
  -- the text's end
  ended : Document → Slot
  done : Document → Slot

-- fixed tokens that are due, and what may come behind them
pub data State : Type 0 where
  due : List Lexeme → Slot → State

abbrev pub at : Slot → State
at k = due [] k

-- a token is not allowed, or it leads on
pub data Step : Type 0 where
  stuck : Step
  goes : Limit → State → Step

abbrev pub word_only : (List ℕ → Step) → Lexeme → Step
word_only f x = by_kind f (λ n. stuck) (λ w. stuck) (λ m. stuck) stuck x

abbrev pub number_only : (ℕ → Step) → Lexeme → Step
number_only f x = by_kind (λ w. stuck) f (λ w. stuck) (λ m. stuck) stuck x

abbrev pub starts_word : ℕ → Row ℕ → List ℕ → Step
starts_word n ss w = cond (alike w (codes "Start:")) (goes kept (at (start n ss))) (cond (alike w (codes "AP:")) (goes kept (at (signals n ss))) stuck)

abbrev pub acceptance_word : ℕ → Row ℕ → Row (List ℕ) → List ℕ → Step
acceptance_word n ss ws w = cond (alike w (codes "acc-name:")) (goes kept (due (word (codes "Buchi") ∷ word (codes "Acceptance:") ∷ infinitely_often) (blocks (header_of n ss ws true) none))) (cond (alike w (codes "Acceptance:")) (goes kept (due infinitely_often (blocks (header_of n ss ws false) none))) stuck)

abbrev pub blocks_word : Header → Row Block → List ℕ → Step
blocks_word h bs w = cond (alike w (codes "State:")) (goes kept (at (state h bs))) (cond (alike w (codes "--END--")) (goes kept (at (ended (record { header = h; blocks = bs })))) stuck)

abbrev pub edge_to : Current → Letters → ℕ → Step
edge_to c ls t = goes (state_limit c.header.states t) (at (edges (with_edge c ls t)))

abbrev pub edges_mark : Current → Mark → Step
edges_mark c m = cond (is_mark m OpenBracket) (goes kept (at (within c (factor_due (first_factor (first_term bracketed)))))) stuck

abbrev pub good_mark : Header → Row Block → ℕ → Mark → Step
good_mark h bs s m = cond (is_mark m OpenBrace) (goes kept (due (number 0 ∷ mark CloseBrace ∷ []) (edges (opened h bs s true)))) (edges_mark (opened h bs s false) m)

abbrev pub in_block : Current → LabelStep → Step
in_block c stray = stuck
in_block c (onto l k) = goes l (at (within c k))
in_block c (closes l) = goes kept (at (target c l))

abbrev pub slot_step : Slot → Lexeme → Step
slot_step states x = number_only (λ n. goes (states_limit n) (at (starts n none))) x
slot_step (starts n ss) x = word_only (starts_word n ss) x
slot_step (start n ss) x = number_only (λ s. goes (state_limit n s) (at (starts n (more ss s)))) x
slot_step (signals n ss) x = number_only (λ p. goes (signals_limit p) (at (names n ss none p))) x
slot_step (names n ss ws zero) x = word_only (acceptance_word n ss ws) x
slot_step (names n ss ws (suc k)) x = by_kind (λ w. stuck) (λ i. stuck) (λ w. goes (name_limit ws w) (at (names n ss (more ws w) k))) (λ m. stuck) stuck x
slot_step (blocks h bs) x = word_only (blocks_word h bs) x
slot_step (state h bs) x = number_only (λ s. goes (block_limit h.states bs s) (at (good h bs s))) x
slot_step (good h bs s) x = by_kind (blocks_word h (blocks_with (opened h bs s false))) (edge_to (opened h bs s false) every) (λ w. stuck) (good_mark h bs s) stuck x
slot_step (edges c) x = by_kind (blocks_word c.header (blocks_with c)) (edge_to c every) (λ w. stuck) (edges_mark c) stuck x
slot_step (within c k) x = in_block c (label_step (size c.header.names) k x)
slot_step (target c l) x = number_only (edge_to c (labelled l)) x
slot_step (ended d) x = by_kind (λ w. stuck) (λ n. stuck) (λ w. stuck) (λ m. stuck) (goes kept (at (done d))) x
slot_step (done d) x = stuck

abbrev pub step : State → Lexeme → Step
step (due [] k) x = slot_step k x
step (due (w ∷ ws) k) x = cond (is_token w x) (goes kept (due ws k)) stuck

abbrev pub initial : State
initial = due (word (codes "HOA:") ∷ word (codes "v1") ∷ word (codes "States:") ∷ []) states

-- a text is being read, or has been refused
pub data Outcome : Type 0 where
  reading : State → Outcome
  refused : Fault → Outcome

abbrev pub verdict : Step → ℕ → Outcome
verdict stuck place = refused (fault_at Unexpected place)
verdict (goes kept s) place = reading s
verdict (goes (broken r) s) place = refused (fault_at r place)

abbrev pub next : Outcome → Found → Outcome
next (reading s) (token x place behind) = verdict (step s x) place
next (reading s) (fault f) = refused f
next (refused f) t = refused f

abbrev pub run : Outcome → List Found → Outcome
run o [] = o
run o (t ∷ ts) = run (next o t) ts
