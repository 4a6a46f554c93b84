-- From every slot of the machine some document goes on.
use Rattle.std.proofs.Common.{◌≡◌, ℕ, zero, suc, false, List, [], ◌∷◌, ◌++◌, codes, sym, refl, ap, ◌∙◌, subst, append_assoc, append-nil}
use Rattle.hoa_tokens.specs.declared.token.Mark.TheVariants.{CloseBracket, CloseParen}
use Rattle.hoa_tokens.specs.Scanning.{Lexeme, word, number, name, mark, end}
use Rattle.hoa_grammar.specs.Rows.{Row, none, more}
use Rattle.hoa_grammar.specs.Marking.{Limit, Marked, marked, unlimited}
use Rattle.hoa_grammar.specs.Labels.{Factor, Term, Label, always, negated, group, factor, and, term, or}
use Rattle.hoa_grammar.specs.Documents.{every, labelled, Block, Header, Document, spell}
use Rattle.hoa_grammar.specs.Machine.{FactorContext, first_factor, next_factor, negating, TermContext, first_term, next_term, LabelContext, bracketed, grouping, LabelSlot, factor_due, term_read, behind_factor, close_paren, close_bracket, Current, opened, with_edge, blocks_with, header_of, Slot, states, starts, start, signals, names, blocks, state, good, edges, within, target, ended, done, due, goes, in_block, slot_step}
use Rattle.hoa_grammar.proofs.Written.{up_to}
use Rattle.hoa_grammar.proofs.Sound.{Lawful, lawful}

-- some document begins with what is written up to the slot
pub record Live (k : Slot) : Type 0 where
  pub document : Document
  pub back : List Marked
  pub spelled : spell document ≡ up_to k ++ back

-- a token leads to a live slot
by_token : (k : Slot) (x : Lexeme) {l : Limit} {ws : List Lexeme} {k' : Slot} → slot_step k x ≡ goes l (due ws k') → Live k' → Live k
by_token k x {l = l} {ws = ws} {k' = k'} e h =
    let written : up_to k' ≡ up_to k ++ marked x l ∷ unlimited ws = subst (Lawful k x) e (lawful k x) in
    record { document = h.document; back = (marked x l ∷ unlimited ws) ++ h.back; spelled = h.spelled ∙ ap (λ zs. zs ++ h.back) written ∙ append_assoc (up_to k) (marked x l ∷ unlimited ws) h.back }

live_done : (d : Document) → Live (done d)
live_done d = record { document = d; back = []; spelled = sym (append-nil (spell d)) }

live_ended : (d : Document) → Live (ended d)
live_ended d = by_token (ended d) end refl (live_done d)

live_blocks : (h : Header) (bs : Row Block) → Live (blocks h bs)
live_blocks h bs = by_token (blocks h bs) (word (codes "--END--")) refl (live_ended (record { header = h; blocks = bs }))

live_edges : (c : Current) → Live (edges c)
live_edges c = by_token (edges c) (word (codes "--END--")) refl (live_ended (record { header = c.header; blocks = blocks_with c }))

live_good : (h : Header) (bs : Row Block) (s : ℕ) → Live (good h bs s)
live_good h bs s = by_token (good h bs s) (number 0) refl (live_edges (with_edge (opened h bs s false) every 0))

live_target : (c : Current) (l : Label) → Live (target c l)
live_target c l = by_token (target c l) (number 0) refl (live_edges (with_edge c (labelled l) 0))

-- a label may close what is open around it, from the inside out
module _ (b : Current) where
  mutual
    live_factor : (c : FactorContext) (f : Factor) → Live (within b (behind_factor c f))
    live_factor (first_factor c) f = live_term c (factor f)
    live_factor (next_factor c t) f = live_term c (and t f)
    live_factor (negating c) f = live_factor c (negated f)

    live_term : (c : TermContext) (t : Term) → Live (within b (term_read c t))
    live_term (first_term c) t = live_label c (term t) (term_read (first_term c) t) refl refl
    live_term (next_term c l) t = live_label c (or l t) (term_read (next_term c l) t) refl refl

    live_label : (c : LabelContext) (l : Label) (k : LabelSlot) → slot_step (within b k) (mark CloseBracket) ≡ in_block b (close_bracket c l) → slot_step (within b k) (mark CloseParen) ≡ in_block b (close_paren c l) → Live (within b k)
    live_label bracketed l k bracket paren = by_token (within b k) (mark CloseBracket) bracket (live_target b l)
    live_label (grouping c) l k bracket paren = by_token (within b k) (mark CloseParen) paren (live_factor c (group l))

live_within : (c : Current) (k : LabelSlot) → Live (within c k)
live_within c (factor_due f) = by_token (within c (factor_due f)) (word (codes "t")) refl (live_factor c f always)
live_within c (term_read i t) = live_term c i t

live_names : (k n : ℕ) (ss : Row ℕ) (ws : Row (List ℕ)) → Live (names n ss ws k)
live_names zero n ss ws = by_token (names n ss ws 0) (word (codes "Acceptance:")) refl (live_blocks (header_of n ss ws false) none)
live_names (suc k) n ss ws = by_token (names n ss ws (suc k)) (name []) refl (live_names k n ss (more ws []))

live_signals : (n : ℕ) (ss : Row ℕ) → Live (signals n ss)
live_signals n ss = by_token (signals n ss) (number 0) refl (live_names 0 n ss none)

live_starts : (n : ℕ) (ss : Row ℕ) → Live (starts n ss)
live_starts n ss = by_token (starts n ss) (word (codes "AP:")) refl (live_signals n ss)

pub live : (k : Slot) → Live k
live states = by_token states (number 0) refl (live_starts 0 none)
live (starts n ss) = live_starts n ss
live (start n ss) = by_token (start n ss) (number 0) refl (live_starts n (more ss 0))
live (signals n ss) = live_signals n ss
live (names n ss ws k) = live_names k n ss ws
live (blocks h bs) = live_blocks h bs
live (state h bs) = by_token (state h bs) (number 0) refl (live_good h bs 0)
live (good h bs s) = live_good h bs s
live (edges c) = live_edges c
live (within c k) = live_within c k
live (target c l) = live_target c l
live (ended d) = live_ended d
live (done d) = live_done d
