-- Scaffolding, no promise: what the parts of a reader have read, and what the draft then holds.
use Rattle.std.specs.Prelude.{◌≡◌, ℕ, ◌+◌, ◌*◌, ◌^◌, ◌<◌, ◌≤◌, Bool, ◌&&◌, ◌⊎◌, List, ◌==◌, nat_eq, nat_lt, slice_index}
use Rattle.omega.specs.Signals.{bit}
use Rattle.tables.specs.declared.draft.Draft.{Draft}
use Rattle.hoa_tokens.specs.declared.token.Placed.{Placed}
use Rattle.hoa_tokens.specs.declared.token.Read.{Read}
use Rattle.hoa_tokens.specs.declared.token.Mark.TheVariants.{OpenBracket}
use Rattle.hoa_tokens.specs.Scanning.{number, mark, lexeme, Found}
use Rattle.hoa_tokens.specs.Cuts.{Cut}
use Rattle.hoa_grammar.specs.Rows.{Row, none, more, some, size}
use Rattle.hoa_grammar.specs.Documents.{Header, Block, Letters, Document, most_states, most_signals, letters_hold, block_steps}
use Rattle.hoa_grammar.specs.Machine.{Current, blocks, edges, done, State, at, step, number_only, edge_to, header_of, initial, reading, run}
use Rattle.hoa_grammar.specs.Reading.{Reached}
use Rattle.hoa_labels.specs.Letters.{Means}
use Rattle.hoa_document.specs.declared.header.Heading.{Heading}
use Rattle.hoa_document.specs.Naming.{row_of}
use Rattle.hoa_document.specs.Standing.{Stands}

-- bit s of a set says whether s is in the row
abbrev pub InRow : ℕ → Row ℕ → Type 0
InRow set row = (s : ℕ) → bit s set ≡ some (nat_eq s) row

-- the draft holds what the header and these blocks say
pub record Drafted (h : Header) (bs : Row Block) (draft : Draft) : Type 0 where
  pub states : draft.frame.states ≡ h.states
  pub signals : draft.frame.signals ≡ size h.names
  pub starts : (s : ℕ) → bit s draft.frame.starts ≡ some (nat_eq s) h.starts
  pub goods : (s : ℕ) → bit s draft.frame.goods ≡ some (λ b. (s == b.state) && b.good) bs
  pub steps : (s a t : ℕ) → ((nat_lt s h.states && nat_lt t h.states) && bit a (slice_index draft.cells (s * h.states + t))) ≡ some (λ b. (s == b.state) && block_steps (size h.names) b a t) bs

-- the blocks describe just the states of the set
abbrev pub Described : Row Block → ℕ → Type 0
Described bs set = (s : ℕ) → bit s set ≡ some (λ b. nat_eq s b.state) bs

-- an edge begins with the token in hand: a number or an opening bracket
abbrev pub BeginsEdge : Placed → Type 0
BeginsEdge head = ((t : ℕ) × (lexeme head.token ≡ number t)) ⊎ (lexeme head.token ≡ mark OpenBracket)

-- so many states and signals
abbrev pub Sized : Header → ℕ → ℕ → Type 0
Sized h n p = (h.states ≡ n) × (size h.names ≡ p)

-- the letters of an edge are read, and its target is due
pub record LettersRead (text : List ℕ) (cur : Current) (p : ℕ) (x : Read ℕ) : Type 0 where
  pub letters : Letters
  pub means : Means p (letters_hold p letters) x.value
  pub state : State
  pub stands : Stands text state x.head
  pub target : step state (lexeme x.head.token) ≡ number_only (edge_to cur letters) (lexeme x.head.token)

abbrev pub current : Header → Row Block → Block → Current
current h bs b = record { header = h; before = bs; block = b }

-- a block of the state `from` is being read, behind others, and the draft holds what they and it say so far
pub record InBlock (text : List ℕ) (h : Header) (bs : Row Block) (b : Block) (from : ℕ) (draft : Draft) (head : Placed) : Type 0 where
  pub state : b.state ≡ from
  pub drafted : Drafted h (more bs b) draft
  pub stands : Stands text (at (edges (current h bs b))) head

pub record SomeBlock (text : List ℕ) (n p from : ℕ) (draft : Draft) (head : Placed) : Type 0 where
  pub header : Header
  pub before : Row Block
  pub block : Block
  pub sized : Sized header n p
  pub within : InBlock text header before block from draft head

-- the block is read to its end
pub record BlockRead (text : List ℕ) (h : Header) (bs : Row Block) (from : ℕ) (draft : Draft) (head : Placed) : Type 0 where
  pub block : Block
  pub state : block.state ≡ from
  pub drafted : Drafted h (more bs block) draft
  pub stands : Stands text (at (blocks h (more bs block))) head

-- blocks are read behind a header with these names, of the states of a set, and the draft holds what they say
pub record BlocksRead (text : List ℕ) (n p : ℕ) (names : Row (List ℕ)) (set : ℕ) (draft : Draft) (head : Placed) : Type 0 where
  pub header : Header
  pub rows : Row Block
  pub sized : Sized header n p
  pub named : header.names ≡ names
  pub drafted : Drafted header rows draft
  pub described : Described rows set
  pub stands : Stands text (at (blocks header rows)) head

-- the header is read: it is the one of these states, starts and names, and the first block is due
pub record HeaderRead (text : List ℕ) (x : Read Heading) : Type 0 where
  pub few : x.value.states ≤ most_states
  pub narrow : x.value.names.count ≤ most_signals
  pub row : Row ℕ
  pub started : InRow x.value.starts row
  pub within : x.value.starts < 2 ^ x.value.states
  pub told : Bool
  pub reached : Reached text (at (blocks (header_of x.value.states row (row_of x.value.names) told) none)) x.head

-- the whole text is read, and this is the document that it writes
pub record DocumentRead (text : List ℕ) (d : Document) : Type 0 where
  pub finds : List Found
  pub cut : Cut text 0 finds
  pub runs : run (reading initial) finds ≡ reading (at (done d))
