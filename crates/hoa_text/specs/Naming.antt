-- Promise. The names of a text's signals, and when two texts name theirs alike.
use Rattle.std.specs.Prelude.{◌≡◌, ℕ, ◌≤◌, Bool, ◌⊎◌, List, ◌≢◌}
use Rattle.std.specs.Borrow.{Bor}
use Rattle.std.specs.Cmp.Lexicographic.{pointwise}
use Rattle.std.specs.Str.{bytes_eq}
use Rattle.automaton.specs.declared.refusal.PartsRefusal.{PartsRefusal}
use Rattle.automaton.specs.declared.refusal.PartsRefusal.TheVariants.{SignalsDiffer, NamesDiffer, NoSuchSignal}
use Rattle.hoa_tokens.specs.Items.{span}
use Rattle.hoa_grammar.specs.Rows.{Row, none, more, size}
use Rattle.hoa_grammar.specs.Documents.{Document}
use Rattle.hoa_document.specs.Denoting.{TextWrites, TextRefused}
use Rattle.hoa_text.specs.declared.refusal.NameRefusal.{NameRefusal}
use Rattle.hoa_text.specs.declared.refusal.NameRefusal.TheVariants as named
use Rattle.hoa_text.specs.declared.refusal.MatchRefusal.{MatchRefusal}
use Rattle.hoa_text.specs.declared.refusal.MatchRefusal.TheVariants as matched

-- w is the name of signal i in a row of names
abbrev pub IsName : ℕ → List ℕ → Row (List ℕ) → Type 0
IsName i w none = ⊥
IsName i w (more ws v) = ((size ws ≡ i) × (w ≡ v)) ⊎ IsName i w ws

-- the text's document names signal i so, and the name is a part of the text
pub record NameGiven (text : List ℕ) (i : ℕ) (w : List ℕ) : Type 0 where
  pub document : Document
  pub writes : TextWrites text document
  pub name : IsName i w document.header.names
  pub from : ℕ
  pub to : ℕ
  pub part : w ≡ span text from to

-- the text's document has no signal i
abbrev pub LacksSignal : List ℕ → ℕ → Type 0
LacksSignal text i = (d : Document) × TextWrites text d × (size d.header.names ≤ i)

-- why a name is not handed out: the text is refused, or else there is no such signal
abbrev pub NoName : List ℕ → ℕ → NameRefusal → Type 0
NoName text i (named.Text f) = TextRefused text f
NoName text i (named.Parts e) = (e ≡ NoSuchSignal) × LacksSignal text i

-- the text writes a document that keeps every limit
abbrev pub Readable : List ℕ → Type 0
Readable text = (d : Document) × TextWrites text d

-- two lists hold the same names
abbrev pub same_names : List (Bor (List ℕ)) → List (Bor (List ℕ)) → Bool
same_names = pointwise (λ v w. bytes_eq v.now w.now)

-- two texts name their signals alike, byte for byte and in order
abbrev pub NamesAlike : List ℕ → List ℕ → Type 0
NamesAlike first second = (d e : Document) × TextWrites first d × TextWrites second e × (d.header.names ≡ e.header.names)

-- two texts have different numbers of signals
abbrev pub OtherSignals : List ℕ → List ℕ → Type 0
OtherSignals first second = (d e : Document) × TextWrites first d × TextWrites second e × (size d.header.names ≢ size e.header.names)

-- two texts have as many signals, and name them differently
abbrev pub OtherNames : List ℕ → List ℕ → Type 0
OtherNames first second = (d e : Document) × TextWrites first d × TextWrites second e × (size d.header.names ≡ size e.header.names) × (d.header.names ≢ e.header.names)

-- two readable texts do not match: their numbers of signals differ, or else their names
abbrev pub Mismatched : List ℕ → List ℕ → PartsRefusal → Type 0
Mismatched first second e = ((e ≡ SignalsDiffer) × OtherSignals first second) ⊎ ((e ≡ NamesDiffer) × OtherNames first second)

-- why two texts do not match: the first is refused, else the second, else the two differ
abbrev pub Unmatched : List ℕ → List ℕ → MatchRefusal → Type 0
Unmatched first second (matched.First f) = TextRefused first f
Unmatched first second (matched.Second f) = Readable first × TextRefused second f
Unmatched first second (matched.Parts e) = Mismatched first second e
