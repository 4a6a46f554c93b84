-- How the edges of a block are read: the letters of an edge, its target, and what follows the last one.
use Rattle.std.proofs.Common.{◌≡◌, ℕ, ◌^◌, ◌<◌, true, false, cond, List, Ok, Err, Result, sym, refl, ap, ◌∙◌, subst, inl, inr, ⊎_elim, MatchResult}
use Rattle.std.proofs.lemmas.Bool.{cases_Bool, lt-ltb}
use Rattle.tables.specs.declared.draft.Draft.{Draft}
use Rattle.tables.specs.Cells.{StepsAdded}
use Rattle.hoa_tokens.specs.declared.fault.Fault.{Fault}
use Rattle.hoa_tokens.specs.declared.token.Mark.TheVariants.{OpenBracket}
use Rattle.hoa_tokens.specs.declared.token.Placed.{Placed}
use Rattle.hoa_tokens.specs.Scanning.{Lexeme, word, number, name, mark, end, lexeme, found, Scanned, clipped}
use Rattle.hoa_grammar.specs.Rows.{Row, size}
use Rattle.hoa_grammar.specs.Marking.{Limit, kept}
use Rattle.hoa_grammar.specs.Labels.{Label, label_holds}
use Rattle.hoa_grammar.specs.Documents.{Header, Block, every, labelled, letters_hold, state_limit}
use Rattle.hoa_grammar.specs.Machine.{is_token, bracketed, first_term, first_factor, factor_due, Current, with_edge, blocks_with, blocks, edges, within, State, at, stuck, goes, slot_step, step, number_only}
use Rattle.hoa_grammar.specs.Reading.{Reached, Refused}
use Rattle.hoa_grammar.proofs.Tests.{is_token_true}
use Rattle.hoa_tokens.specs.declared.token.Read.{Read}
use Rattle.hoa_labels.specs.Letters.{Means}
use Rattle.hoa_labels.specs.Parts.{BracketedRead}
use Rattle.hoa_document.specs.Standing.{Stands, NumberRead}
use Rattle.hoa_document.specs.Drafting.{BeginsEdge, Sized, LettersRead, current, InBlock, BlockRead}
use Rattle.hoa_document.proofs.Leading.{stands_there, stands_on, mark_not_end}
use Rattle.hoa_document.proofs.Drafts.{drafted_edge}

-- a token that is not the one that is due fails its test
pub other_token : (w x : Lexeme) → (x ≡ w → ⊥) → is_token w x ≡ false
other_token w x ne = ⊎_elim (λ e. absurd (ne (is_token_true w x e))) (λ e. e) (cases_Bool (is_token w x))

-- all letters are those of an edge without a label
every_letter : (p letters : ℕ) → Means p (λ a. true) letters → Means p (letters_hold p every) letters
every_letter p letters m = record { small = m.small; holds = λ a below. m.holds a below ∙ sym (lt-ltb a (2 ^ p) below) }

label_letter : (p letters : ℕ) (l : Label) → Means p (label_holds l) letters → Means p (letters_hold p (labelled l)) letters
label_letter p letters l m = record { small = m.small; holds = λ a below. rw (lt-ltb a (2 ^ p) below) (m.holds a below) }

module _ {text : List ℕ} (cur : Current) (p : ℕ) {head : Placed} (st : Stands text (at (edges cur)) head) where
  -- the target of an edge without a label is in hand
  pub unlabelled_read : BeginsEdge head → (lexeme head.token ≡ mark OpenBracket → ⊥) → (letters : ℕ) → Means p (λ a. true) letters → LettersRead text cur p (record { value = letters; head = head })
  unlabelled_read (inl (t, is)) other letters m = record { letters = every; means = every_letter p letters m; state = at (edges cur); stands = st; target = ap (step (at (edges cur))) is ∙ sym (ap (number_only _) is) }
  unlabelled_read (inr is) other letters m = absurd (other is)

  -- a label begins behind its bracket
  pub label_begins : lexeme head.token ≡ mark OpenBracket → (q : Result Placed Fault) → Scanned text (clipped text head.next) (found q) → MatchResult q (Reached text (at (within cur (factor_due (first_factor (first_term bracketed)))))) (Refused text)
  label_begins is = stands_on st (λ e. mark_not_end OpenBracket (sym is ∙ e)) _ (ap (step (at (edges cur))) is)

-- the label is read
pub labelled_read : {text : List ℕ} (cur : Current) (p : ℕ) {head : Placed} → size cur.header.names ≡ p → Reached text (at (within cur (factor_due (first_factor (first_term bracketed))))) head → (q : Result (Read ℕ) Fault) → BracketedRead text head p q → MatchResult q (LettersRead text cur p) (Refused text)
labelled_read cur p names r (Ok x) (l, means, on) = record { letters = labelled l; means = label_letter p x.value l means; state = _; stands = stands_there (on cur names r); target = refl }
labelled_read cur p names r (Err f) on = on cur names r

-- a number that is read keeps its limit, and leads on
pub number_leads : (text : List ℕ) (limit : ℕ → Limit) (go : ℕ → State) (q : Result (Read ℕ) Fault) → MatchResult q (λ t. (limit t.value ≡ kept) × Reached text (go t.value) t.head) (Refused text) → MatchResult q (λ t. Reached text (go t.value) t.head) (Refused text)
number_leads text limit go (Ok t) h = h.1
number_leads text limit go (Err f) h = h

-- the target is read
pub target_read : {text : List ℕ} (cur : Current) (n p : ℕ) (x : Read ℕ) → cur.header.states ≡ n → (l : LettersRead text cur p x) → (q : Result (Read ℕ) Fault) → NumberRead text x.head (state_limit n) q → MatchResult q (λ t. Reached text (at (edges (with_edge cur l.letters t.value))) t.head) (Refused text)
target_read {text = text} cur n p x states l q read =
    let go : ℕ → State = λ t. at (edges (with_edge cur l.letters t)) in
    let y : Lexeme = lexeme x.head.token in
    number_leads text (state_limit n) go q
    (read l.state go (subst (λ (m : ℕ). step l.state y ≡ number_only (λ t. goes (state_limit m t) (go t)) y) states l.target) l.stands)

-- the edge is added to the block in hand
pub edge_read : {text : List ℕ} (h : Header) (bs : Row Block) (b : Block) (n p from : ℕ) (old draft : Draft) (head : Placed) (x : Read ℕ) (to : ℕ) (behind : Placed) → Sized h n p → from < n → to < n → InBlock text h bs b from old head → (l : LettersRead text (current h bs b) p x) → Reached text (at (edges (with_edge (current h bs b) l.letters to))) behind → StepsAdded old.frame.states old.frame.signals from x.value to old.cells draft.cells → draft.frame ≡ old.frame → (b' : Block) × InBlock text h bs b' from draft behind
edge_read h bs b n p from old draft head x to behind sized from_in to_in i l r added same =
    let cur : Current = current h bs b in (
      (with_edge cur l.letters to).block,
      record {
        state = i.state;
        drafted = drafted_edge cur l.letters x.value to old draft
            (subst (λ (m : ℕ). b.state < m) (sym sized.0) (subst (λ (s : ℕ). s < n) (sym i.state) from_in))
            (subst (λ (m : ℕ). to < m) (sym sized.0) to_in)
            (subst (λ (q : ℕ). Means q (letters_hold q l.letters) x.value) (sym sized.1) l.means)
            i.drafted
            (subst (λ (s : ℕ). StepsAdded old.frame.states old.frame.signals s x.value to old.cells draft.cells) (sym i.state) added)
            same;
        stands = stands_there r;
      },
    )

-- behind the last edge comes what may follow the block
no_edge : (cur : Current) (x : Lexeme) → ((t : ℕ) → x ≡ number t → ⊥) → (x ≡ mark OpenBracket → ⊥) → slot_step (edges cur) x ≡ slot_step (blocks cur.header (blocks_with cur)) x
no_edge cur (word w) n m = refl
no_edge cur (number t) n m = absurd (n t refl)
no_edge cur (name w) n m = refl
no_edge cur (mark k) n m = ap (λ b. cond b (goes kept (at (within cur (factor_due (first_factor (first_term bracketed)))))) stuck) (other_token (mark OpenBracket) (mark k) m)
no_edge cur end n m = refl

pub block_ends : {text : List ℕ} (h : Header) (bs : Row Block) (b : Block) (from : ℕ) (draft : Draft) (head : Placed) → (BeginsEdge head → ⊥) → InBlock text h bs b from draft head → BlockRead text h bs from draft head
block_ends h bs b from draft head none i = record {
  block = b;
  state = i.state;
  drafted = i.drafted;
  stands = record { state = i.stands.state; reached = i.stands.reached; alike = i.stands.alike ∙ no_edge (current h bs b) (lexeme head.token) (λ t is. none (inl (t, is))) (λ is. none (inr is)) };
}
