-- Promise. What a text says: the document that it writes, the automaton and the names that this document denotes, or why it is refused.
use Rattle.std.specs.Prelude.{◌≡◌, ℕ, ◌<◌, ◌≤◌, List, length}
use Rattle.omega.specs.Automata.{Meaning}
use Rattle.hoa_tokens.specs.declared.fault.Fault.{Fault}
use Rattle.hoa_tokens.specs.declared.fault.Refusal.TheVariants.{TooLong}
use Rattle.hoa_tokens.specs.Numbers.{longest_text}
use Rattle.hoa_tokens.specs.Scanning.{Found, bytes_fault}
use Rattle.hoa_tokens.specs.Cuts.{Cut}
use Rattle.hoa_grammar.specs.Rows.{size}
use Rattle.hoa_grammar.specs.Documents.{Document, is_start, is_good, is_step}
use Rattle.hoa_grammar.specs.Verdicts.{Writes, FirstFault}
use Rattle.hoa_document.specs.declared.names.Names.{Names}
use Rattle.hoa_document.specs.Naming.{row_of}

-- the automaton is the one that the document means
pub record Denotes (d : Document) (A : Meaning) : Type 0 where
  pub states : A.states ≡ d.header.states
  pub signals : A.signals ≡ size d.header.names
  pub start : (s : ℕ) → A.start s ≡ is_start d s
  pub good : (s : ℕ) → A.good s ≡ is_good d s
  pub step : (s a t : ℕ) → A.step s a t ≡ is_step d s a t

-- the text is not too long, and writes this document, which keeps every limit
pub record TextWrites (text : List ℕ) (d : Document) : Type 0 where
  pub short : length text ≤ longest_text
  pub finds : List Found
  pub cut : Cut text 0 finds
  pub writes : Writes finds d

-- the text writes a document, and the automaton is the one that it denotes
abbrev pub TextDenotes : List ℕ → Meaning → Type 0
TextDenotes text A = (d : Document) × TextWrites text d × Denotes d A

-- the text writes a document, and these are its names
abbrev pub TextNames : List ℕ → Names → Type 0
TextNames text x = (d : Document) × TextWrites text d × (d.header.names ≡ row_of x)

-- the text is refused: it is too long, or else this is its first fault
pub data TextRefused (text : List ℕ) : Fault → Type 0 where
  too_long : longest_text < length text → TextRefused text (bytes_fault TooLong longest_text)
  faulty : {f : Fault} → length text ≤ longest_text → (finds : List Found) → Cut text 0 finds → FirstFault finds f → TextRefused text f

-- a text says one thing only: it writes one document, or is refused for one fault, and never both
pub record SaysOne (text : List ℕ) : Type 0 where
  pub documents : (d e : Document) → TextWrites text d → TextWrites text e → d ≡ e
  pub faults : (f g : Fault) → TextRefused text f → TextRefused text g → f ≡ g
  pub either : (d : Document) (f : Fault) → TextWrites text d → TextRefused text f → ⊥
