-- The draft keeps up with what is read: it is empty before the first block, and each block and each edge is added to it.
use Rattle.std.proofs.Common.{◌≡◌, ℕ, ◌+◌, ◌*◌, ◌/◌, ◌%◌, ◌^◌, ◌<◌, ◌≤◌, Bool, true, false, ◌&&◌, ◌||◌, eqb, ltb, List, get_or, replicate, sym, refl, ap, ◌∙◌, subst, ⊎_elim, arith}
use mathlib.Core.Bool.{and-true, and-false, and_assoc, or-true, or-false, or_comm, and-or_distrib_left}
use lib.Arith.{digits_div, digits_mod}
use lib.Bits.{bit_or, or_add_and, and_le_r}
use Rattle.std.proofs.lemmas.Nat.{one_shl, or_lt, mod_below, pow_pos}
use Rattle.std.proofs.lemmas.Bool.{true≢false, cases_lt, cases_eq, lt-ltb, le-ltb, eq-eqb, ne_eqb, and_left, and_right}
use Rattle.omega.specs.Signals.{bit}
use Rattle.tables.specs.declared.draft.Draft.{Draft}
use Rattle.tables.specs.declared.frame.Frame.{Frame}
use Rattle.tables.specs.Frames.{SameButStarts, SameButGoods}
use Rattle.tables.specs.Cells.{table_cells, StateAdded, StatesAdded, StepsAdded}
use Rattle.tables.proofs.Bits.{bit-or, bit_power, bit_past}
use Rattle.tables.proofs.Added.{zero_everywhere}
use Rattle.hoa_grammar.specs.Rows.{Row, none, more, size, some}
use Rattle.hoa_grammar.specs.Documents.{Header, Block, Letters, every, labelled, letters_hold, block_steps}
use Rattle.hoa_grammar.specs.Machine.{Current, opened, with_edge, blocks_with}
use Rattle.hoa_labels.specs.Letters.{Means}
use Rattle.hoa_document.specs.Drafting.{InRow, Drafted, Described}

-- 0 has no bits
no_bit : (k : ℕ) → bit k 0 ≡ false
no_bit k = bit_past k 0 0 (omega arith) (omega arith)

-- a set of states below n, of which no state from n on is left out
all_below : (n set k : ℕ) → set < 2 ^ n → (bit k set && ltb k n) ≡ bit k set
all_below n set k small =
    ⊎_elim
    (λ below. rw (lt-ltb k n below) (and-true (bit k set)))
    (λ past. rw (bit_past k n set small past))
    (cases_lt k n)

-- a new draft with the starts holds the header and no block
module _ (h : Header) (set : ℕ) (made draft : Draft) (n : made.frame.states ≡ h.states) (p : made.frame.signals ≡ size h.names) (unstarted : made.frame.starts ≡ 0) (ungood : made.frame.goods ≡ 0) (unmoved : made.cells ≡ replicate table_cells 0) (added : StatesAdded made.frame.states set made.frame.starts draft.frame.starts) (same : SameButStarts made.frame draft.frame) (cells : draft.cells ≡ made.cells) (in_row : InRow set h.starts) (small : set < 2 ^ h.states) where
  starts_drafted : (k : ℕ) → bit k draft.frame.starts ≡ some (eqb k) h.starts
  starts_drafted k =
      added k
      ∙ ap (λ (x : ℕ). bit k x || (bit k set && ltb k made.frame.states)) unstarted
      ∙ ap (λ (b : Bool). b || (bit k set && ltb k made.frame.states)) (no_bit k)
      ∙ ap (λ (x : ℕ). bit k set && ltb k x) n
      ∙ all_below h.states set k small
      ∙ in_row k

  no_steps : (k a : ℕ) → bit a (get_or draft.cells k 0) ≡ false
  no_steps k a = ap (λ (xs : List ℕ). bit a (get_or xs k 0)) (cells ∙ unmoved) ∙ ap (bit a) (zero_everywhere table_cells k) ∙ no_bit a

  pub drafted_empty : Drafted h none draft
  drafted_empty = record {
    states = same.states ∙ n;
    signals = same.signals ∙ p;
    starts = starts_drafted;
    goods = λ s. ap (bit s) (same.goods ∙ ungood) ∙ no_bit s;
    steps = λ s a t. and_right _ _ (no_steps (s * h.states + t) a);
  }

module _ (h : Header) (bs : Row Block) (from : ℕ) where
  -- a block that has no edges yet, of a state that is not good, adds nothing
  pub drafted_plain : (draft : Draft) → Drafted h bs draft → Drafted h (blocks_with (opened h bs from false)) draft
  drafted_plain draft d = record {
    states = d.states;
    signals = d.signals;
    starts = d.starts;
    goods = λ s. d.goods s ∙ ap (λ (b : Bool). b || some (λ b. eqb s b.state && b.good) bs) (sym (and-false (eqb s from)));
    steps = λ s a t. d.steps s a t ∙ ap (λ (b : Bool). b || some (λ b. eqb s b.state && block_steps (size h.names) b a t) bs) (sym (and-false (eqb s from)));
  }

  -- one of a good state adds that state
  pub drafted_good : (old draft : Draft) → from < h.states → Drafted h bs old → StateAdded old.frame.states from old.frame.goods draft.frame.goods → SameButGoods old.frame draft.frame → draft.cells ≡ old.cells → Drafted h (blocks_with (opened h bs from true)) draft
  drafted_good old draft inside d added same cells = record {
    states = same.states ∙ d.states;
    signals = same.signals ∙ d.signals;
    starts = λ s. ap (bit s) same.starts ∙ d.starts s;
    goods = λ s.
        added s
        ∙ ap (λ (b : Bool). bit s old.frame.goods || (eqb s from && b)) (lt-ltb from old.frame.states (omega (arith, d.states)))
        ∙ or_comm (bit s old.frame.goods) (eqb s from && true)
        ∙ ap (λ (b : Bool). (eqb s from && true) || b) (d.goods s);
    steps = λ s a t. ap (λ (xs : List ℕ). (ltb s h.states && ltb t h.states) && bit a (get_or xs (s * h.states + t) 0)) cells ∙ (drafted_plain old d).steps s a t;
  }

-- a label's letters, and no others, are added
letters_same : (p : ℕ) (ls : Letters) (letters a : ℕ) → Means p (letters_hold p ls) letters → (ltb a (2 ^ p) && bit a letters) ≡ letters_hold p ls a
letters_same p ls letters a m =
    ⊎_elim
    (λ below. rw (lt-ltb a (2 ^ p) below) (m.holds a below))
    (λ past. rw (le-ltb a (2 ^ p) past) (sym (none_past ls past)))
    (cases_lt a (2 ^ p))
  where
    none_past : (ls : Letters) → 2 ^ p ≤ a → letters_hold p ls a ≡ false
    none_past every past = le-ltb a (2 ^ p) past
    none_past (labelled l) past = and_left _ _ (le-ltb a (2 ^ p) past)

-- the steps from s to t have a cell of their own
same_cell : (n s t from to : ℕ) → from < n → to < n → ((ltb s n && ltb t n) && eqb (s * n + t) (from * n + to)) ≡ (eqb s from && eqb t to)
same_cell n s t from to from_in to_in =
    ⊎_elim
    (λ s-in. ⊎_elim (inside s-in) (λ t-out. rw (le-ltb t n t-out, and-false (ltb s n), ne_eqb t to (λ e. omega arith)) (sym (and-false (eqb s from)))) (cases_lt t n))
    (λ s-out. rw (le-ltb s n s-out, ne_eqb s from (λ e. omega arith)))
    (cases_lt s n)
  where
    inside : s < n → t < n → ((ltb s n && ltb t n) && eqb (s * n + t) (from * n + to)) ≡ (eqb s from && eqb t to)
    inside s-in t-in =
        rw (lt-ltb s n s-in, lt-ltb t n t-in)
        (⊎_elim
        (λ e.
        let row : s ≡ from = sym (digits_div s t-in) ∙ ap (λ (z : ℕ). z / n) e ∙ digits_div from to_in in
        let column : t ≡ to = sym (digits_mod s t-in) ∙ ap (λ (z : ℕ). z % n) e ∙ digits_mod from to_in in
        rw (eq-eqb (s * n + t) (from * n + to) e, eq-eqb s from row, eq-eqb t to column))
        (λ ne.
        rw (ne_eqb (s * n + t) (from * n + to) ne)
        (⊎_elim
        (λ row. rw (eq-eqb s from row, ne_eqb t to (λ column. ne (ap (λ (z : ℕ). z * n + t) row ∙ ap (λ (z : ℕ). from * n + z) column))))
        (λ other. rw (ne_eqb s from other))
        (cases_eq s from)))
        (cases_eq (s * n + t) (from * n + to)))

-- one more edge of the block in hand
one_edge_more : (f e l es bs : Bool) → (((f && es) || bs) || ((f && e) && l)) ≡ ((f && ((l && e) || es)) || bs)
one_edge_more false e l es bs = or-false bs
one_edge_more true true true es bs = or-true (es || bs)
one_edge_more true true false es bs = or-false (es || bs)
one_edge_more true false true es bs = or-false (es || bs)
one_edge_more true false false es bs = or-false (es || bs)

edge_joins : (x o k l f e es bs : Bool) → (x && o) ≡ ((f && es) || bs) → (x && k) ≡ (f && e) → (x && (o || (k && l))) ≡ ((f && ((l && e) || es)) || bs)
edge_joins x o k l f e es bs old new =
    and-or_distrib_left x o (k && l)
    ∙ ap (λ (b : Bool). b || (x && (k && l))) old
    ∙ ap (λ (b : Bool). ((f && es) || bs) || b) (sym (and_assoc x k l) ∙ ap (λ (b : Bool). b && l) new)
    ∙ one_edge_more f e l es bs

module _ (cur : Current) (ls : Letters) (letters to : ℕ) (old draft : Draft) (from_in : cur.block.state < cur.header.states) (to_in : to < cur.header.states) (means : Means (size cur.header.names) (letters_hold (size cur.header.names) ls) letters) (d : Drafted cur.header (blocks_with cur) old) (added : StepsAdded old.frame.states old.frame.signals cur.block.state letters to old.cells draft.cells) where
  abbrev n : ℕ
  n = cur.header.states

  abbrev p : ℕ
  p = size cur.header.names

  abbrev from : ℕ
  from = cur.block.state

  added_there : StepsAdded n p from letters to old.cells draft.cells
  added_there = subst (λ (m : ℕ). StepsAdded m p from letters to old.cells draft.cells) d.states (subst (λ (q : ℕ). StepsAdded old.frame.states q from letters to old.cells draft.cells) d.signals added)

  added_here : (k a : ℕ) → bit a (get_or draft.cells k 0) ≡ (bit a (get_or old.cells k 0) || (eqb k (from * n + to) && letters_hold p ls a))
  added_here k a =
      added_there.1 k a
      ∙ ap (λ (b : Bool). bit a (get_or old.cells k 0) || ((b && ltb to n && eqb k (from * n + to)) && (ltb a (2 ^ p) && bit a letters))) (lt-ltb from n from_in)
      ∙ ap (λ (b : Bool). bit a (get_or old.cells k 0) || ((b && eqb k (from * n + to)) && (ltb a (2 ^ p) && bit a letters))) (lt-ltb to n to_in)
      ∙ ap (λ (b : Bool). bit a (get_or old.cells k 0) || (eqb k (from * n + to) && b)) (letters_same p ls letters a means)

  -- an edge adds its steps
  pub drafted_edge : draft.frame ≡ old.frame → Drafted cur.header (blocks_with (with_edge cur ls to)) draft
  drafted_edge same = record {
    states = ap (λ (f : Frame). f.states) same ∙ d.states;
    signals = ap (λ (f : Frame). f.signals) same ∙ d.signals;
    starts = λ s. ap (λ (f : Frame). bit s f.starts) same ∙ d.starts s;
    goods = λ s. ap (λ (f : Frame). bit s f.goods) same ∙ d.goods s;
    steps = λ s a t.
        ap (λ (b : Bool). (ltb s n && ltb t n) && b) (added_here (s * n + t) a)
        ∙ edge_joins (ltb s n && ltb t n) (bit a (get_or old.cells (s * n + t) 0)) (eqb (s * n + t) (from * n + to)) (letters_hold p ls a) (eqb s from) (eqb t to) (block_steps p cur.block a t) _ (d.steps s a t) (same_cell n s t from to from_in to_in);
  }

-- no block describes no state
pub described_none : Described none 0
described_none s = no_bit s

-- the set of the states that are described, with the next one
module _ (set v : ℕ) (few : v < 64) where
  -- one more block describes one more state
  pub described_more : (bs : Row Block) (b : Block) → b.state ≡ v → Described bs set → Described (more bs b) (bit_or set ((1 * 2 ^ v) % 2 ^ 64))
  described_more bs b is described k =
      ap (λ (x : ℕ). bit k (bit_or set x)) (one_shl v 64 few)
      ∙ bit-or k set (2 ^ v)
      ∙ ap (λ (b : Bool). bit k set || b) (bit_power k v)
      ∙ or_comm (bit k set) (eqb k v)
      ∙ ap (λ (x : ℕ). eqb k x || bit k set) (sym is)
      ∙ ap (λ (x : Bool). eqb k b.state || x) (described k)

  pub described_in : set < 2 ^ 64 → bit_or set ((1 * 2 ^ v) % 2 ^ 64) < 2 ^ 64
  described_in small = or_lt 64 set ((1 * 2 ^ v) % 2 ^ 64) small (mod_below (1 * 2 ^ v) (2 ^ 64) (pow_pos 64))

  -- the set grows, as a number too
  pub described_rises : bit v set ≡ false → set < bit_or set ((1 * 2 ^ v) % 2 ^ 64)
  described_rises fresh =
      let single = one_shl v 64 few in
      ⊎_elim
      (λ same. absurd (true≢false (sym (ap (λ (b : Bool). bit v set || b) (bit_power v v ∙ eq-eqb v v refl) ∙ or-true (bit v set)) ∙ sym (bit-or v set (2 ^ v)) ∙ ap (bit v) (sym same) ∙ fresh)))
      (λ (other : set ≡ bit_or set (2 ^ v) → ⊥). rw single (omega (arith, or_add_and set (2 ^ v), and_le_r set (2 ^ v))))
      (cases_eq set (bit_or set (2 ^ v)))
