-- What a document has written up to each slot of the machine.
use Rattle.std.proofs.Common.{ℕ, ◌+◌, false, List, [], ◌∷◌, ◌++◌, codes}
use Rattle.hoa_tokens.specs.declared.token.Mark.TheVariants.{OpenBracket, OpenParen, Not, And, Or}
use Rattle.hoa_tokens.specs.Scanning.{word, mark}
use Rattle.hoa_grammar.specs.Rows.{Row, size}
use Rattle.hoa_grammar.specs.Marking.{kept, Marked, marked, unlimited}
use Rattle.hoa_grammar.specs.Labels.{depth_limit, spell_term, spell_label}
use Rattle.hoa_grammar.specs.Documents.{labelled, Block, Header, spell_front, spell_signals, spell_header, spell_letters, spell_block, spell_blocks, spell}
use Rattle.hoa_grammar.specs.Machine.{FactorContext, first_factor, next_factor, negating, TermContext, first_term, next_term, LabelContext, bracketed, grouping, factor_depth, term_depth, label_depth, LabelSlot, factor_due, term_read, Current, opened, Slot, states, starts, start, signals, names, blocks, state, good, edges, within, target, ended, done}

-- the tokens of a label with p signals before a part that stands there
abbrev mutual
  pub before_factor : ℕ → FactorContext → List Marked
  before_factor p (first_factor c) = before_term p c
  before_factor p (next_factor c t) = before_term p c ++ (spell_term p (term_depth c) t ++ marked (mark And) kept ∷ [])
  before_factor p (negating c) = before_factor p c ++ marked (mark Not) (depth_limit (factor_depth c)) ∷ []

  pub before_term : ℕ → TermContext → List Marked
  before_term p (first_term c) = before_label p c
  before_term p (next_term c l) = before_label p c ++ (spell_label p (label_depth c) l ++ marked (mark Or) kept ∷ [])

  pub before_label : ℕ → LabelContext → List Marked
  before_label p bracketed = []
  before_label p (grouping c) = before_factor p c ++ marked (mark OpenParen) (depth_limit (factor_depth c)) ∷ []

abbrev pub label_up_to : ℕ → LabelSlot → List Marked
label_up_to p (factor_due c) = before_factor p c
label_up_to p (term_read c t) = before_term p c ++ spell_term p (term_depth c) t

abbrev pub blocks_up_to : Header → Row Block → List Marked
blocks_up_to h bs = spell_header h ++ spell_blocks h bs

abbrev pub current_up_to : Current → List Marked
current_up_to c = blocks_up_to c.header c.before ++ spell_block c.header c.before c.block

abbrev pub up_to : Slot → List Marked
up_to states = unlimited (word (codes "HOA:") ∷ word (codes "v1") ∷ word (codes "States:") ∷ [])
up_to (starts n ss) = spell_front n ss
up_to (start n ss) = spell_front n ss ++ marked (word (codes "Start:")) kept ∷ []
up_to (signals n ss) = spell_front n ss ++ marked (word (codes "AP:")) kept ∷ []
up_to (names n ss ws k) = spell_signals n ss (size ws + k) ws
up_to (blocks h bs) = blocks_up_to h bs
up_to (state h bs) = blocks_up_to h bs ++ marked (word (codes "State:")) kept ∷ []
up_to (good h bs s) = current_up_to (opened h bs s false)
up_to (edges c) = current_up_to c
up_to (within c k) = current_up_to c ++ marked (mark OpenBracket) kept ∷ label_up_to (size c.header.names) k
up_to (target c l) = current_up_to c ++ spell_letters (size c.header.names) (labelled l)
up_to (ended d) = blocks_up_to d.header d.blocks ++ marked (word (codes "--END--")) kept ∷ []
up_to (done d) = spell d
