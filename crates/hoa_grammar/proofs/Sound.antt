-- What the machine takes, documents write: each token that it takes is written behind those before it.
use Rattle.std.proofs.Common.{◌≡◌, ℕ, zero, suc, ◌+◌, Bool, true, false, List, [], ◌∷◌, ◌++◌, codes, sym, refl, ap, ◌∙◌, subst, append_assoc, append-nil, arith}
use Rattle.std.proofs.lemmas.Bool.{cond_both}
use Rattle.hoa_tokens.specs.declared.token.Mark.{Mark}
use Rattle.hoa_tokens.specs.declared.token.Mark.TheVariants.{OpenBracket, CloseBracket, OpenBrace, CloseBrace}
use Rattle.hoa_tokens.specs.Scanning.{Lexeme, word, number, name, mark, end}
use Rattle.hoa_grammar.specs.Rows.{Row, none, more, size}
use Rattle.hoa_grammar.specs.Marking.{kept, Marked, marked, unlimited}
use Rattle.hoa_grammar.specs.Documents.{Letters, every, labelled, Block, Header, states_limit, signals_limit, state_limit, name_limit, block_limit, infinitely_often, spell_starts, spell_names, spell_acceptance, spell_front, spell_signals, spell_header, spell_letters, spell_edges, spell_good, spell_block, spell_blocks}
use Rattle.hoa_grammar.specs.Machine.{is_token, bracketed, first_term, first_factor, factor_due, LabelSlot, LabelStep, stray, onto, closes, label_step, Current, opened, with_edge, blocks_with, header_of, Slot, states, starts, start, signals, names, blocks, state, good, edges, within, target, ended, done, State, due, at, Step, stuck, goes, word_only, number_only, starts_word, acceptance_word, blocks_word, edge_to, edges_mark, good_mark, in_block, slot_step, step}
use Rattle.hoa_grammar.proofs.Tests.{by_kind_lem, by_word, by_mark, is_token_true}
use Rattle.hoa_grammar.proofs.Written.{label_up_to, blocks_up_to, current_up_to, up_to}
use Rattle.hoa_grammar.proofs.LabelSteps.{LabelLawful, label_lawful}

-- where a token leads, what is written is what was, the token, and the fixed tokens that are then due
abbrev pub Lawful : Slot → Lexeme → Step → Type 0
Lawful k x stuck = Unit {0}
Lawful k x (goes l (due ws k')) = up_to k' ≡ up_to k ++ marked x l ∷ unlimited ws

only_word : (k : Slot) (f : List ℕ → Step) → ((w : List ℕ) → Lawful k (word w) (f w)) → (x : Lexeme) → Lawful k x (word_only f x)
only_word k f on_word x = by_kind_lem (Lawful k) f (λ n. stuck) (λ w. stuck) (λ m. stuck) stuck on_word (λ n. tt) (λ w. tt) (λ m. tt) tt x

only_number : (k : Slot) (f : ℕ → Step) → ((n : ℕ) → Lawful k (number n) (f n)) → (x : Lexeme) → Lawful k x (number_only f x)
only_number k f on_number x = by_kind_lem (Lawful k) (λ w. stuck) f (λ w. stuck) (λ m. stuck) stuck (λ w. tt) on_number (λ w. tt) (λ m. tt) tt x

-- appended parts, joined from the left
to_left : (xs ys zs : List Marked) → xs ++ (ys ++ zs) ≡ (xs ++ ys) ++ zs
to_left xs ys zs = sym (append_assoc xs ys zs)

start_written : (n : ℕ) (ss : Row ℕ) (s : ℕ) → up_to (starts n (more ss s)) ≡ up_to (start n ss) ++ marked (number s) (state_limit n s) ∷ []
start_written n ss s = rejoined (up_to states ++ marked (number n) (states_limit n) ∷ []) (spell_starts n ss) (marked (word (codes "Start:")) kept) (marked (number s) (state_limit n s))
  where
    rejoined : (xs ys : List Marked) (y z : Marked) → xs ++ (ys ++ y ∷ z ∷ []) ≡ ((xs ++ ys) ++ y ∷ []) ++ z ∷ []
    rejoined xs ys y z = simp append_assoc

signals_written : (n : ℕ) (ss : Row ℕ) (p : ℕ) → up_to (names n ss none p) ≡ up_to (signals n ss) ++ marked (number p) (signals_limit p) ∷ []
signals_written n ss p =
    let e : 0 + p ≡ p = omega arith in
    ap (λ q. spell_signals n ss q none) e
    ∙ rejoined (spell_front n ss) (marked (word (codes "AP:")) kept) (marked (number p) (signals_limit p))
  where
    rejoined : (xs : List Marked) (y z : Marked) → (xs ++ y ∷ z ∷ []) ++ [] ≡ (xs ++ y ∷ []) ++ z ∷ []
    rejoined xs y z = simp (append_assoc, append-nil)

name_written : (n : ℕ) (ss : Row ℕ) (ws : Row (List ℕ)) (k : ℕ) (w : List ℕ) → up_to (names n ss (more ws w) k) ≡ up_to (names n ss ws (suc k)) ++ marked (name w) (name_limit ws w) ∷ []
name_written n ss ws k w =
    let e : (size ws + 1) + k ≡ size ws + suc k = omega arith in
    ap (λ q. spell_signals n ss q (more ws w)) e
    ∙ to_left (spell_front n ss ++ marked (word (codes "AP:")) kept ∷ marked (number (size ws + suc k)) (signals_limit (size ws + suc k)) ∷ []) (spell_names ws) (marked (name w) (name_limit ws w) ∷ [])

header_written : (n : ℕ) (ss : Row ℕ) (ws : Row (List ℕ)) (b : Bool) → up_to (blocks (header_of n ss ws b) none) ≡ up_to (names n ss ws 0) ++ unlimited (spell_acceptance b)
header_written n ss ws b =
    let e : size ws ≡ size ws + 0 = omega arith in
    append-nil (spell_header (header_of n ss ws b))
    ∙ ap (λ q. spell_signals n ss q ws ++ unlimited (spell_acceptance b)) e

acceptance_lawful : (n : ℕ) (ss : Row ℕ) (ws : Row (List ℕ)) (w : List ℕ) → Lawful (names n ss ws 0) (word w) (acceptance_word n ss ws w)
acceptance_lawful n ss ws w =
    by_word (Lawful (names n ss ws 0)) w (codes "acc-name:") (goes kept (due (word (codes "Buchi") ∷ word (codes "Acceptance:") ∷ infinitely_often) (blocks (header_of n ss ws true) none))) _ (header_written n ss ws true)
    (by_word (Lawful (names n ss ws 0)) w (codes "Acceptance:") (goes kept (due infinitely_often (blocks (header_of n ss ws false) none))) stuck (header_written n ss ws false) tt)

blocks_lawful : (k : Slot) (h : Header) (bs : Row Block) → up_to k ≡ blocks_up_to h bs → (w : List ℕ) → Lawful k (word w) (blocks_word h bs w)
blocks_lawful k h bs e w =
    by_word (Lawful k) w (codes "State:") (goes kept (at (state h bs))) _ (ap (λ zs. zs ++ marked (word (codes "State:")) kept ∷ []) (sym e))
    (by_word (Lawful k) w (codes "--END--") (goes kept (at (ended (record { header = h; blocks = bs })))) stuck (ap (λ zs. zs ++ marked (word (codes "--END--")) kept ∷ []) (sym e)) tt)

-- the blocks with the one that is being read
current_written : (c : Current) → current_up_to c ≡ blocks_up_to c.header (blocks_with c)
current_written c = append_assoc (spell_header c.header) (spell_blocks c.header c.before) (spell_block c.header c.before c.block)

edge_written : (c : Current) (ls : Letters) (t : ℕ) → current_up_to (with_edge c ls t) ≡ (current_up_to c ++ spell_letters (size c.header.names) ls) ++ marked (number t) (state_limit c.header.states t) ∷ []
edge_written c ls t = rejoined (blocks_up_to c.header c.before) (marked (word (codes "State:")) kept ∷ marked (number c.block.state) (block_limit c.header.states c.before c.block.state) ∷ unlimited (spell_good c.block.good)) (spell_edges c.header.states (size c.header.names) c.block.edges) (spell_letters (size c.header.names) ls) (marked (number t) (state_limit c.header.states t) ∷ [])
  where
    rejoined : (us vs xs ys zs : List Marked) → us ++ (vs ++ (xs ++ (ys ++ zs))) ≡ ((us ++ (vs ++ xs)) ++ ys) ++ zs
    rejoined us vs xs ys zs = simp append_assoc

unlabelled_written : (c : Current) (t : ℕ) → Lawful (edges c) (number t) (edge_to c every t)
unlabelled_written c t = edge_written c every t ∙ ap (λ zs. zs ++ marked (number t) (state_limit c.header.states t) ∷ []) (append-nil (current_up_to c))

bracket_lawful : (k : Slot) (c : Current) → up_to k ≡ current_up_to c → (m : Mark) → Lawful k (mark m) (edges_mark c m)
bracket_lawful k c e m = by_mark (Lawful k) m OpenBracket (goes kept (at (within c (factor_due (first_factor (first_term bracketed)))))) stuck (ap (λ zs. zs ++ marked (mark OpenBracket) kept ∷ []) (sym e)) tt

good_lawful : (h : Header) (bs : Row Block) (s : ℕ) (m : Mark) → Lawful (good h bs s) (mark m) (good_mark h bs s m)
good_lawful h bs s m =
    by_mark (Lawful (good h bs s)) m OpenBrace (goes kept (due (number 0 ∷ mark CloseBrace ∷ []) (edges (opened h bs s true)))) _
    (to_left (blocks_up_to h bs) (marked (word (codes "State:")) kept ∷ marked (number s) (block_limit h.states bs s) ∷ []) (unlimited (spell_good true)))
    (bracket_lawful (good h bs s) (opened h bs s false) refl m)

in_block_lawful : (c : Current) (k : LabelSlot) (x : Lexeme) (y : LabelStep) → LabelLawful (size c.header.names) k x y → Lawful (within c k) x (in_block c y)
in_block_lawful c k x stray h = tt
in_block_lawful c k x (onto l k') h =
    ap (λ zs. current_up_to c ++ marked (mark OpenBracket) kept ∷ zs) h
    ∙ to_left (current_up_to c) (marked (mark OpenBracket) kept ∷ label_up_to (size c.header.names) k) (marked x l ∷ [])
in_block_lawful c k x (closes l) h =
    subst (λ y. up_to (target c l) ≡ up_to (within c k) ++ marked y kept ∷ []) (sym h.0)
    (ap (λ zs. current_up_to c ++ marked (mark OpenBracket) kept ∷ (zs ++ marked (mark CloseBracket) kept ∷ [])) h.1
    ∙ to_left (current_up_to c) (marked (mark OpenBracket) kept ∷ label_up_to (size c.header.names) k) (marked (mark CloseBracket) kept ∷ []))

pub lawful : (k : Slot) (x : Lexeme) → Lawful k x (slot_step k x)
lawful states x = only_number states (λ n. goes (states_limit n) (at (starts n none))) (λ n. refl) x
lawful (starts n ss) x =
    only_word (starts n ss) (starts_word n ss)
    (λ w. by_word (Lawful (starts n ss)) w (codes "Start:") (goes kept (at (start n ss))) _ refl (by_word (Lawful (starts n ss)) w (codes "AP:") (goes kept (at (signals n ss))) stuck refl tt)) x
lawful (start n ss) x = only_number (start n ss) (λ s. goes (state_limit n s) (at (starts n (more ss s)))) (start_written n ss) x
lawful (signals n ss) x = only_number (signals n ss) (λ p. goes (signals_limit p) (at (names n ss none p))) (signals_written n ss) x
lawful (names n ss ws zero) x = only_word (names n ss ws 0) (acceptance_word n ss ws) (acceptance_lawful n ss ws) x
lawful (names n ss ws (suc k)) x = by_kind_lem (Lawful (names n ss ws (suc k))) (λ w. stuck) (λ i. stuck) (λ w. goes (name_limit ws w) (at (names n ss (more ws w) k))) (λ m. stuck) stuck (λ w. tt) (λ i. tt) (name_written n ss ws k) (λ m. tt) tt x
lawful (blocks h bs) x = only_word (blocks h bs) (blocks_word h bs) (blocks_lawful (blocks h bs) h bs refl) x
lawful (state h bs) x = only_number (state h bs) (λ s. goes (block_limit h.states bs s) (at (good h bs s))) (λ s. to_left (blocks_up_to h bs) (marked (word (codes "State:")) kept ∷ []) (marked (number s) (block_limit h.states bs s) ∷ [])) x
lawful (good h bs s) x =
    let c : Current = opened h bs s false in
    by_kind_lem (Lawful (good h bs s)) (blocks_word h (blocks_with c)) (edge_to c every) (λ w. stuck) (good_mark h bs s) stuck (blocks_lawful (good h bs s) h (blocks_with c) (current_written c)) (unlabelled_written c) (λ w. tt) (good_lawful h bs s) tt x
lawful (edges c) x = by_kind_lem (Lawful (edges c)) (blocks_word c.header (blocks_with c)) (edge_to c every) (λ w. stuck) (edges_mark c) stuck (blocks_lawful (edges c) c.header (blocks_with c) (current_written c)) (unlabelled_written c) (λ w. tt) (bracket_lawful (edges c) c refl) tt x
lawful (within c k) x = in_block_lawful c k x (label_step (size c.header.names) k x) (label_lawful (size c.header.names) k x)
lawful (target c l) x = only_number (target c l) (edge_to c (labelled l)) (edge_written c (labelled l)) x
lawful (ended d) x =
    by_kind_lem (Lawful (ended d)) (λ w. stuck) (λ n. stuck) (λ w. stuck) (λ m. stuck) (goes kept (at (done d))) (λ w. tt) (λ n. tt) (λ w. tt) (λ m. tt)
    (to_left (blocks_up_to d.header d.blocks) (marked (word (codes "--END--")) kept ∷ []) (marked end kept ∷ [])) x
lawful (done d) x = tt

-- these tokens, with those that are due, write what stands before the slot
abbrev pub Holds : State → List Marked → Type 0
Holds (due ws k) zs = zs ++ unlimited ws ≡ up_to k

abbrev pub HoldsOn : Step → Lexeme → List Marked → Type 0
HoldsOn stuck x zs = Unit {0}
HoldsOn (goes l s) x zs = Holds s (zs ++ marked x l ∷ [])

slot_holds : (k : Slot) (x : Lexeme) (y : Step) (zs : List Marked) → zs ++ [] ≡ up_to k → Lawful k x y → HoldsOn y x zs
slot_holds k x stuck zs e h = tt
slot_holds k x (goes l (due ws k')) zs e h = append_assoc zs (marked x l ∷ []) (unlimited ws) ∙ ap (λ ys. ys ++ marked x l ∷ unlimited ws) (sym (append-nil zs) ∙ e) ∙ sym h

pub step_holds : (s : State) (x : Lexeme) (zs : List Marked) → Holds s zs → HoldsOn (step s x) x zs
step_holds (due [] k) x zs h = slot_holds k x (slot_step k x) zs h (lawful k x)
step_holds (due (w ∷ ws) k) x zs h =
    cond_both (is_token w x) (goes kept (due ws k)) stuck (λ y. HoldsOn y x zs)
    (λ e. append_assoc zs (marked x kept ∷ []) (unlimited ws) ∙ ap (λ y. zs ++ marked y kept ∷ unlimited ws) (is_token_true w x e) ∙ h) (λ e. tt)
