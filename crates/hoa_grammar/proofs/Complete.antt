-- What documents write, the machine takes, up to the slot that holds the document.
use Rattle.std.proofs.Common.{◌≡◌, ℕ, suc, ◌+◌, Bool, true, false, List, [], ◌∷◌, ◌++◌, codes, refl, subst, arith}
use Rattle.hoa_tokens.specs.declared.token.Mark.TheVariants.{OpenBracket, CloseBracket, CloseBrace, CloseParen, Or}
use Rattle.hoa_tokens.specs.Scanning.{word, number, mark}
use Rattle.hoa_grammar.specs.Rows.{Row, none, more, size}
use Rattle.hoa_grammar.specs.Marking.{kept, marked, unlimited}
use Rattle.hoa_grammar.specs.Labels.{Factor, Term, Label, always, never, signal, negated, group, factor, and, term, or, spell_factor, spell_term, spell_label}
use Rattle.hoa_grammar.specs.Documents.{Letters, every, labelled, Edge, Block, Header, Document, state_limit, infinitely_often, spell_starts, spell_names, spell_acceptance, spell_front, spell_signals, spell_header, spell_letters, spell_edges, spell_good, spell_block, spell_blocks, spell}
use Rattle.hoa_grammar.specs.Machine.{FactorContext, first_factor, next_factor, negating, TermContext, first_term, next_term, LabelContext, bracketed, grouping, factor_depth, term_depth, label_depth, factor_due, term_read, behind_factor, Current, opened, with_edge, blocks_with, header_of, Slot, states, starts, names, blocks, good, edges, within, target, done, at, goes, blocks_word, edge_to, slot_step, initial}
use Rattle.hoa_grammar.proofs.Runs.{Runs, stays, takes, onward, due_run}

-- labels, in a block that is being read
module _ (b : Current) where
  abbrev p : ℕ
  p = size b.header.names

  -- behind a label there, its last term may go on or end it
  abbrev behind_label : LabelContext → Label → Slot
  behind_label c (term t) = within b (term_read (first_term c) t)
  behind_label c (or l t) = within b (term_read (next_term c l) t)

  label_or : (l : Label) (c : LabelContext) → slot_step (behind_label c l) (mark Or) ≡ goes kept (at (within b (factor_due (first_factor (next_term c l)))))
  label_or (term t) c = refl
  label_or (or l t) c = refl

  label_group : (l : Label) (c : FactorContext) → slot_step (behind_label (grouping c) l) (mark CloseParen) ≡ goes kept (at (within b (behind_factor c (group l))))
  label_group (term t) c = refl
  label_group (or l t) c = refl

  label_end : (l : Label) → slot_step (behind_label bracketed l) (mark CloseBracket) ≡ goes kept (at (target b l))
  label_end (term t) = refl
  label_end (or l t) = refl

  mutual
    factor_run : (f : Factor) (c : FactorContext) → Runs (at (within b (factor_due c))) (spell_factor p (factor_depth c) f) (at (within b (behind_factor c f)))
    factor_run always c = takes refl stays
    factor_run never c = takes refl stays
    factor_run (signal i) c = takes refl stays
    factor_run (negated f) c = takes refl (factor_run f (negating c))
    factor_run (group l) c = takes refl (onward (label_run l (grouping c)) (takes (label_group l c) stays))

    term_run : (t : Term) (c : TermContext) → Runs (at (within b (factor_due (first_factor c)))) (spell_term p (term_depth c) t) (at (within b (term_read c t)))
    term_run (factor f) c = factor_run f (first_factor c)
    term_run (and t f) c = onward (term_run t c) (takes refl (factor_run f (next_factor c t)))

    label_run : (l : Label) (c : LabelContext) → Runs (at (within b (factor_due (first_factor (first_term c))))) (spell_label p (label_depth c) l) (at (behind_label c l))
    label_run (term t) c = term_run t (first_term c)
    label_run (or l t) c = onward (label_run l c) (takes (label_or l c) (term_run t (next_term c l)))

-- a block with these edges so far
abbrev part : Header → Row Block → ℕ → Bool → Row Edge → Current
part h bs s g es = record { header = h; before = bs; block = record { state = s; good = g; edges = es } }

-- the slot behind them
abbrev behind_edges : Header → Row Block → ℕ → Bool → Row Edge → Slot
behind_edges h bs s true none = edges (part h bs s true none)
behind_edges h bs s false none = good h bs s
behind_edges h bs s g (more es e) = edges (part h bs s g (more es e))

edges_word : (h : Header) (bs : Row Block) (s : ℕ) (g : Bool) (es : Row Edge) (w : List ℕ) → slot_step (behind_edges h bs s g es) (word w) ≡ blocks_word h (blocks_with (part h bs s g es)) w
edges_word h bs s true none w = refl
edges_word h bs s false none w = refl
edges_word h bs s g (more es e) w = refl

edges_number : (h : Header) (bs : Row Block) (s : ℕ) (g : Bool) (es : Row Edge) (t : ℕ) → slot_step (behind_edges h bs s g es) (number t) ≡ edge_to (part h bs s g es) every t
edges_number h bs s true none t = refl
edges_number h bs s false none t = refl
edges_number h bs s g (more es e) t = refl

edges_bracket : (h : Header) (bs : Row Block) (s : ℕ) (g : Bool) (es : Row Edge) → slot_step (behind_edges h bs s g es) (mark OpenBracket) ≡ goes kept (at (within (part h bs s g es) (factor_due (first_factor (first_term bracketed)))))
edges_bracket h bs s true none = refl
edges_bracket h bs s false none = refl
edges_bracket h bs s g (more es e) = refl

edge_run : (h : Header) (bs : Row Block) (s : ℕ) (g : Bool) (es : Row Edge) (ls : Letters) (t : ℕ) → Runs (at (behind_edges h bs s g es)) (spell_letters (size h.names) ls ++ marked (number t) (state_limit h.states t) ∷ []) (at (edges (with_edge (part h bs s g es) ls t)))
edge_run h bs s g es every t = takes (edges_number h bs s g es t) stays
edge_run h bs s g es (labelled l) t =
    let c : Current = part h bs s g es in
    takes (edges_bracket h bs s g es) (onward (onward (label_run c l bracketed) (takes (label_end c l) stays)) (takes refl stays))

edges_run : (h : Header) (bs : Row Block) (s : ℕ) (g : Bool) (es : Row Edge) → Runs (at (behind_edges h bs s g none)) (spell_edges h.states (size h.names) es) (at (behind_edges h bs s g es))
edges_run h bs s g none = stays
edges_run h bs s g (more es e) = onward (edges_run h bs s g es) (edge_run h bs s g es e.letters e.target)

good_run : (h : Header) (bs : Row Block) (s : ℕ) (g : Bool) → Runs (at (good h bs s)) (unlimited (spell_good g)) (at (behind_edges h bs s g none))
good_run h bs s true = takes refl (due_run (number 0 ∷ mark CloseBrace ∷ []) (edges (opened h bs s true)) (refl, (refl, tt)))
good_run h bs s false = stays

-- the slot behind some blocks
abbrev behind_blocks : Header → Row Block → Slot
behind_blocks h none = blocks h none
behind_blocks h (more bs b) = behind_edges h bs b.state b.good b.edges

blocks_word_lem : (h : Header) (bs : Row Block) (w : List ℕ) → slot_step (behind_blocks h bs) (word w) ≡ blocks_word h bs w
blocks_word_lem h none w = refl
blocks_word_lem h (more bs b) w = edges_word h bs b.state b.good b.edges w

block_run : (h : Header) (bs : Row Block) (b : Block) → Runs (at (behind_blocks h bs)) (spell_block h bs b) (at (behind_blocks h (more bs b)))
block_run h bs b = onward (takes (blocks_word_lem h bs (codes "State:")) (takes refl (good_run h bs b.state b.good))) (edges_run h bs b.state b.good b.edges)

blocks_run : (h : Header) (bs : Row Block) → Runs (at (blocks h none)) (spell_blocks h bs) (at (behind_blocks h bs))
blocks_run h none = stays
blocks_run h (more bs b) = onward (blocks_run h bs) (block_run h bs b)

starts_run : (n : ℕ) (ss : Row ℕ) → Runs (at (starts n none)) (spell_starts n ss) (at (starts n ss))
starts_run n none = stays
starts_run n (more ss s) = onward (starts_run n ss) (takes refl (takes refl stays))

-- k names are still due behind these
names_run : (n : ℕ) (ss : Row ℕ) (ws : Row (List ℕ)) (k : ℕ) → Runs (at (names n ss none (size ws + k))) (spell_names ws) (at (names n ss ws k))
names_run n ss none k = let e : k ≡ 0 + k = omega arith in subst (λ q. Runs (at (names n ss none q)) [] (at (names n ss none k))) e stays
names_run n ss (more ws w) k =
    let e : size ws + suc k ≡ (size ws + 1) + k = omega arith in
    onward (subst (λ q. Runs (at (names n ss none q)) (spell_names ws) (at (names n ss ws (suc k)))) e (names_run n ss ws (suc k))) (takes refl stays)

acceptance_run : (n : ℕ) (ss : Row ℕ) (ws : Row (List ℕ)) (b : Bool) → Runs (at (names n ss ws 0)) (unlimited (spell_acceptance b)) (at (blocks (header_of n ss ws b) none))
acceptance_run n ss ws true = takes refl (due_run (word (codes "Buchi") ∷ word (codes "Acceptance:") ∷ infinitely_often) (blocks (header_of n ss ws true) none) (refl, (refl, (refl, (refl, (refl, (refl, (refl, (refl, tt)))))))))
acceptance_run n ss ws false = takes refl (due_run infinitely_often (blocks (header_of n ss ws false) none) (refl, (refl, (refl, (refl, (refl, (refl, tt)))))))

front_run : (n : ℕ) (ss : Row ℕ) → Runs initial (spell_front n ss) (at (starts n ss))
front_run n ss = onward (onward (due_run (word (codes "HOA:") ∷ word (codes "v1") ∷ word (codes "States:") ∷ []) states (refl, (refl, (refl, tt)))) (takes refl stays)) (starts_run n ss)

signals_run : (n : ℕ) (ss : Row ℕ) (ws : Row (List ℕ)) → Runs initial (spell_signals n ss (size ws) ws) (at (names n ss ws 0))
signals_run n ss ws =
    let e : size ws + 0 ≡ size ws = omega arith in
    onward (onward (front_run n ss) (takes refl (takes refl stays))) (subst (λ q. Runs (at (names n ss none q)) (spell_names ws) (at (names n ss ws 0))) e (names_run n ss ws 0))

header_run : (h : Header) → Runs initial (spell_header h) (at (blocks h none))
header_run h = onward (signals_run h.states h.starts h.names) (acceptance_run h.states h.starts h.names h.named)

pub complete : (d : Document) → Runs initial (spell d) (at (done d))
complete d = onward (onward (header_run d.header) (blocks_run d.header d.blocks)) (takes (blocks_word_lem d.header d.blocks (codes "--END--")) (takes refl stays))
