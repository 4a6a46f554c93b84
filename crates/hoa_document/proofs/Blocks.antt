-- How blocks are read: the state that a block describes, whether it is good, one block behind the other, and the text's end.
use Rattle.std.proofs.Common.{◌≡◌, ℕ, ◌*◌, ◌/◌, ◌%◌, ◌^◌, ◌<◌, ◌≤◌, Bool, true, false, cond, eqb, ◌⊎◌, ◌≢◌, List, [], ◌∷◌, ◌++◌, Ok, Err, codes, Result, sym, refl, ap, ◌∙◌, inl, inr, arith, MatchResult}
use lib.Bits.{bit_or}
use Rattle.std.proofs.lemmas.Bool.{le-leb, lt-leb, eq-eqb, ne_eqb}
use Rattle.omega.specs.Signals.{bit}
use Rattle.tables.specs.declared.draft.Draft.{Draft}
use Rattle.tables.specs.Frames.{SameButGoods}
use Rattle.tables.specs.Cells.{StateAdded}
use Rattle.hoa_tokens.specs.declared.fault.Fault.{Fault}
use Rattle.hoa_tokens.specs.declared.fault.Refusal.{Refusal}
use Rattle.hoa_tokens.specs.declared.fault.Refusal.TheVariants.{Unexpected, OutOfRange, Repeated}
use Rattle.hoa_tokens.specs.declared.token.Mark.TheVariants.{OpenBrace, CloseBrace}
use Rattle.hoa_tokens.specs.declared.token.Placed.{Placed}
use Rattle.hoa_tokens.specs.declared.token.Token.{Token}
use Rattle.hoa_tokens.specs.declared.token.Token.TheVariants as case
use Rattle.hoa_tokens.specs.Scanning.{Lexeme, word, number, name, mark, end, lexeme, found, Scanned, clipped}
use Rattle.hoa_tokens.proofs.Cutting.{grown_end}
use Rattle.hoa_grammar.specs.Rows.{Row, more, some}
use Rattle.hoa_grammar.specs.Marking.{kept, broken, breaks_if}
use Rattle.hoa_grammar.specs.Documents.{Header, Block, Document, block_limit}
use Rattle.hoa_grammar.specs.Verdicts.{fault_at}
use Rattle.hoa_grammar.specs.Machine.{state, good, edges, blocks, ended, opened, due, at, stuck, goes, edges_mark, number_only, slot_step, step, initial, reading, next, verdict}
use Rattle.hoa_grammar.specs.Reading.{Reached, Refused}
use Rattle.hoa_grammar.proofs.Stepping.{run_last, reached_stuck}
use Rattle.hoa_tokens.specs.declared.token.Read.{Read}
use Rattle.hoa_document.specs.Standing.{Stands, limit_of, NumberRead}
use Rattle.hoa_document.specs.Drafting.{Drafted, Described, Sized, InBlock, BlockRead, BlocksRead, DocumentRead}
use Rattle.hoa_document.proofs.Leading.{stands_there, stands_on, word_not_end, number_not_end, mark_not_end}
use Rattle.hoa_document.proofs.Drafts.{drafted_plain, drafted_good, described_more}
use Rattle.hoa_document.proofs.Slots.{second_word}
use Rattle.hoa_document.proofs.Edges.{other_token, number_leads}

-- the state of a block: what it may break, and where it leads
module _ (n : ℕ) (bs : Row Block) (set s : ℕ) (described : Described bs set) where
  pub out_of_range : n ≤ s → block_limit n bs s ≡ broken OutOfRange
  out_of_range past = ap (λ b. breaks_if b OutOfRange (breaks_if (some (λ b. eqb s b.state) bs) Repeated kept)) (le-leb n s past)

  within_range : s < n → (test : Bool) → bit s set ≡ test → block_limit n bs s ≡ breaks_if test Repeated kept
  within_range inside test is =
      ap (λ b. breaks_if b OutOfRange (breaks_if (some (λ b. eqb s b.state) bs) Repeated kept)) (lt-leb n s inside)
      ∙ ap (λ b. breaks_if b Repeated kept) (sym (described s) ∙ is)

  pub repeated : s < n → bit s set ≡ true → block_limit n bs s ≡ broken Repeated
  repeated inside = within_range inside true

  pub fresh : s < n → bit s set ≡ false → block_limit n bs s ≡ kept
  fresh inside = within_range inside false

  -- its limit is what its test says
  pub described_limit : (r : Result (Unit {0}) Refusal) → MatchResult r (λ _. (s < n) × (set / 2 ^ s % 2 ≢ 1)) (λ e. ((n ≤ s) × (e ≡ OutOfRange)) ⊎ ((s < n) × (set / 2 ^ s % 2 ≡ 1) × (e ≡ Repeated))) → block_limit n bs s ≡ limit_of r
  described_limit (Ok x) (inside, new) = fresh inside (ne_eqb _ 1 new)
  described_limit (Err e) (inl (past, is)) = out_of_range past ∙ ap broken (sym is)
  described_limit (Err e) (inr (inside, again, is)) = repeated inside (eq-eqb _ 1 again) ∙ ap broken (sym is)

pub state_read : {text : List ℕ} (h : Header) (bs : Row Block) (n : ℕ) (head : Placed) → h.states ≡ n → Reached text (at (state h bs)) head → (q : Result (Read ℕ) Fault) → NumberRead text head (block_limit n bs) q → MatchResult q (λ x. Reached text (at (good h bs x.value)) x.head) (Refused text)
state_read {text = text} h bs n head states r q read =
    let y : Lexeme = lexeme head.token in
    number_leads text (block_limit n bs) (λ s. at (good h bs s)) q
    (read (at (state h bs)) (λ s. at (good h bs s)) (ap (λ (m : ℕ). number_only (λ s. goes (block_limit m bs s) (at (good h bs s))) y) states) (stands_there r))

-- without an opening brace the edges come at once
no_brace : (h : Header) (bs : Row Block) (s : ℕ) (x : Lexeme) → (x ≡ mark OpenBrace → ⊥) → slot_step (good h bs s) x ≡ slot_step (edges (opened h bs s false)) x
no_brace h bs s (word w) m = refl
no_brace h bs s (number n) m = refl
no_brace h bs s (name w) m = refl
no_brace h bs s (mark k) m = ap (λ b. cond b (goes kept (due (number 0 ∷ mark CloseBrace ∷ []) (edges (opened h bs s true)))) (edges_mark (opened h bs s false) k)) (other_token (mark OpenBrace) (mark k) m)
no_brace h bs s end m = refl

module _ {text : List ℕ} (h : Header) (bs : Row Block) (from : ℕ) {head : Placed} (r : Reached text (at (good h bs from)) head) where
  pub block_plain : (draft : Draft) → Drafted h bs draft → (lexeme head.token ≡ mark OpenBrace → ⊥) → (b : Block) × InBlock text h bs b from draft head
  block_plain draft d other = (
    (opened h bs from false).block,
    record { state = refl; drafted = drafted_plain h bs from draft d; stands = record { state = at (good h bs from); reached = r; alike = no_brace h bs from (lexeme head.token) other } },
  )

  pub brace_opens : lexeme head.token ≡ mark OpenBrace → (q : Result Placed Fault) → Scanned text (clipped text head.next) (found q) → MatchResult q (Reached text (due (number 0 ∷ mark CloseBrace ∷ []) (edges (opened h bs from true)))) (Refused text)
  brace_opens is = stands_on (stands_there r) (λ e. mark_not_end OpenBrace (sym is ∙ e)) _ (ap (step (at (good h bs from))) is)

pub block_good : {text : List ℕ} (h : Header) (bs : Row Block) (from : ℕ) {head : Placed} → Reached text (at (edges (opened h bs from true))) head → (old draft : Draft) → from < h.states → Drafted h bs old → StateAdded old.frame.states from old.frame.goods draft.frame.goods → SameButGoods old.frame draft.frame → draft.cells ≡ old.cells → (b : Block) × InBlock text h bs b from draft head
block_good h bs from r old draft inside d added same cells =
    ((opened h bs from true).block, record { state = refl; drafted = drafted_good h bs from old draft inside d added same cells; stands = stands_there r })

-- one more block begins
pub block_begins : {text : List ℕ} (h : Header) (bs : Row Block) {head : Placed} → Stands text (at (blocks h bs)) head → lexeme head.token ≡ word (codes "State:") → (q : Result Placed Fault) → Scanned text (clipped text head.next) (found q) → MatchResult q (Reached text (at (state h bs))) (Refused text)
block_begins h bs st is = stands_on st (λ e. word_not_end (codes "State:") (sym is ∙ e)) _ (ap (step (at (blocks h bs))) is)

-- and is one of those that are read
pub blocks_more : {text : List ℕ} (n p set v : ℕ) (h : Header) (bs : Row Block) (draft : Draft) (head : Placed) → v < 64 → Sized h n p → {names : Row (List ℕ)} → h.names ≡ names → Described bs set → BlockRead text h bs v draft head → BlocksRead text n p names (bit_or set ((1 * 2 ^ v) % 2 ^ 64)) draft head
blocks_more n p set v h bs draft head few sized named described b = record {
  header = h;
  rows = more bs b.block;
  sized = sized;
  named = named;
  drafted = b.drafted;
  described = described_more set v few bs b.block b.state described;
  stands = b.stands;
}

-- behind the blocks `--END--` is due
pub blocks_over : {text : List ℕ} (h : Header) (bs : Row Block) {head : Placed} → (lexeme head.token ≡ word (codes "State:") → ⊥) → Stands text (at (blocks h bs)) head → Stands text (due (word (codes "--END--") ∷ []) (ended (record { header = h; blocks = bs }))) head
blocks_over h bs {head = head} other st = record { state = st.state; reached = st.reached; alike = st.alike ∙ second_word (codes "State:") (codes "--END--") _ _ (lexeme head.token) other }

-- only the text's end is that
is_end : (t : Token) → lexeme t ≡ end → t ≡ case.End
is_end (case.Word w) e = absurd (word_not_end w.now e)
is_end (case.Number n) e = absurd (number_not_end n e)
is_end (case.Name w) e = absurd (let z : ◌≡◌ {A = ℕ} 0 1 = cc in omega arith)
is_end (case.Mark m) e = absurd (mark_not_end m e)
is_end case.End e = refl

-- the text ends, or is refused
module _ {text : List ℕ} (d : Document) {head : Placed} (r : Reached text (at (ended d)) head) where
  pub text_ends : lexeme head.token ≡ end → DocumentRead text d
  text_ends is = record {
    finds = r.before ++ found (Ok head) ∷ [];
    cut = grown_end head.token text 0 r.from head.place head.next r.before r.grown (is_end head.token is) r.scanned;
    runs = run_last r.before (reading initial) (found (Ok head)) ∙ ap (λ o. next o (found (Ok head))) r.runs ∙ ap (λ x. verdict (step (at (ended d)) x) head.place) is;
  }

  pub text_goes_on : (lexeme head.token ≡ end → ⊥) → Refused text (fault_at Unexpected head.place)
  text_goes_on on = reached_stuck r (not_taken head.token on)
    where
      not_taken : (t : Token) → (lexeme t ≡ end → ⊥) → slot_step (ended d) (lexeme t) ≡ stuck
      not_taken (case.Word w) on = refl
      not_taken (case.Number n) on = refl
      not_taken (case.Name w) on = refl
      not_taken (case.Mark m) on = refl
      not_taken case.End on = absurd (on refl)
