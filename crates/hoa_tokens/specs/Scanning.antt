-- What scanning from a position finds: the token behind the blanks there, or the fault of its bytes.
use Rattle.std.specs.Prelude.{◌≡◌, ℕ, ◌+◌, ◌-◌, ◌<◌, ◌≤◌, min, cond, List, length, Ok, Err, Result}
use Rattle.hoa_tokens.specs.declared.fault.Fault.{Fault}
use Rattle.hoa_tokens.specs.declared.fault.Refusal.{Refusal}
use Rattle.hoa_tokens.specs.declared.fault.Refusal.TheVariants.{BadByte, BadNumber, TooLong}
use Rattle.hoa_tokens.specs.declared.fault.Layer.TheVariants.{Bytes}
use Rattle.hoa_tokens.specs.declared.token.Mark.{Mark}
use Rattle.hoa_tokens.specs.declared.token.Token.{Token}
use Rattle.hoa_tokens.specs.declared.token.Token.TheVariants as case
use Rattle.hoa_tokens.specs.declared.token.Placed.{Placed}
use Rattle.hoa_tokens.specs.Bytes.{blank, value, plain}
use Rattle.hoa_tokens.specs.Numbers.{longest_text}
use Rattle.hoa_tokens.specs.Items.{Kind, span, Run, Item, Longest}

-- a token as a reader sees it: by its bytes and not by where they lie in memory
pub data Lexeme : Type 0 where
  word : List ℕ → Lexeme
  number : ℕ → Lexeme
  name : List ℕ → Lexeme
  mark : Mark → Lexeme
  end : Lexeme

-- a token with its place and the place behind it, or a fault
pub data Found : Type 0 where
  token : Lexeme → ℕ → ℕ → Found
  fault : Fault → Found

abbrev pub lexeme : Token → Lexeme
lexeme (case.Word w) = word w.now
lexeme (case.Number n) = number n
lexeme (case.Name w) = name w.now
lexeme (case.Mark m) = mark m
lexeme case.End = end

abbrev pub found : Result Placed Fault → Found
found (Ok t) = token (lexeme t.token) t.place t.next
found (Err f) = fault f

-- a fault of the bytes at a place
abbrev pub bytes_fault : Refusal → ℕ → Fault
bytes_fault refusal place = record { refusal = refusal; place = place; layer = Bytes }

-- a text is taken as it is, if it is not too long
abbrev pub TextTaken : List ℕ → List ℕ → Type 0
TextTaken bytes text = (text ≡ bytes) × (length bytes ≤ longest_text)

abbrev pub TextTooLong : List ℕ → Fault → Type 0
TextTooLong bytes f = (f ≡ bytes_fault TooLong longest_text) × (longest_text < length bytes)

-- what an item is found to be: a word with its colon, a number unless its digits are refused, a name without its quotes, a mark
abbrev pub item_found : Kind → List ℕ → ℕ → ℕ → Found
item_found Kind.word text from to = token (word (span text from to)) from to
item_found Kind.digits text from to = cond (plain (span text from to)) (token (number (value (span text from to))) from to) (fault (bytes_fault BadNumber from))
item_found Kind.name text from to = token (name (span text (from + 1) (to - 1))) from to
item_found (Kind.mark m) text from to = token (mark m) from to

-- what stands at a place: the text's end, the longest item there, or a byte that begins none
pub data Stands (text : List ℕ) (place : ℕ) : Found → Type 0 where
  ended : place ≡ length text → Stands text place (token end place place)
  item : (kind : Kind) (to : ℕ) → Longest kind text place to → Stands text place (item_found kind text place to)
  nothing : place < length text → ((kind : Kind) (to : ℕ) → Item kind text place to → ⊥) → Stands text place (fault (bytes_fault BadByte place))

-- from the position on come blanks, as many as there are, and then what is found
pub record Scanned (text : List ℕ) (from : ℕ) (x : Found) : Type 0 where
  pub place : ℕ
  pub blanks : Run blank text from place
  pub stands : Stands text place x

-- the next position is greater unless the text has ended; it is never past the end
abbrev pub Ahead : List ℕ → ℕ → Found → Type 0
Ahead text from (token (word w) place next) = (from < next) × (next ≤ length text)
Ahead text from (token (number n) place next) = (from < next) × (next ≤ length text)
Ahead text from (token (name w) place next) = (from < next) × (next ≤ length text)
Ahead text from (token (mark m) place next) = (from < next) × (next ≤ length text)
Ahead text from (token end place next) = (place ≡ length text) × (next ≡ length text)
Ahead text from (fault f) = (from ≤ f.place) × (f.place < length text)

-- a position past the end counts as the end
abbrev pub clipped : List ℕ → ℕ → ℕ
clipped text from = min from (length text)
