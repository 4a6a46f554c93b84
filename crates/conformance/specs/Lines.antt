-- Promise. What a line of the table means, and which line answers it.
use Rattle.std.specs.Prelude.{ℕ, zero, suc, ◌+◌, ◌-◌, ◌/◌, ◌%◌, ◌^◌, min, Bool, cond, List, [], ◌∷◌, ◌++◌, length, replicate, codes, decimal, fold, ◌==◌, nat_lt}
use Rattle.omega.specs.Automata.{Meaning}
use Rattle.tables.specs.Refusals.{lender_number}
use Rattle.hoa_tokens.specs.Numbers.{refusal_number, layer_number}
use Rattle.hoa_text.specs.declared.refusal.ReadRefusal.{ReadRefusal}
use Rattle.hoa_text.specs.declared.refusal.ReadRefusal.TheVariants.{Lender, Text}
use Rattle.hoa_document.specs.Denoting.{TextDenotes}
use Rattle.hoa_text.specs.Reading.{Unread}
use Rattle.conformance.specs.declared.automata.Mark.{Mark}
use Rattle.conformance.specs.declared.automata.Mark.TheVariants.{Start, Good}
use Rattle.conformance.specs.declared.escape.Escape.TheVariants.{Plain}
use Rattle.conformance.specs.Escapes.{unescaped}
use Rattle.conformance.specs.Fields.{front_of, behind_of, grown_by_digit}

-- a line is a name, a number of cells, a size and a text with escapes, with a space between two of them
abbrev pub name_of : List ℕ → List ℕ
name_of line = front_of 32 line

abbrev pub cells_of : List ℕ → ℕ
cells_of line = fold grown_by_digit 0 (front_of 32 (behind_of 32 line))

abbrev pub size_of : List ℕ → ℕ
size_of line = fold grown_by_digit 0 (front_of 32 (behind_of 32 (behind_of 32 line)))

-- with spaces at the end, as many as are missing
abbrev pub padded_to : ℕ → List ℕ → List ℕ
padded_to size bytes = bytes ++ replicate (size - length bytes) 32

abbrev pub text_of : List ℕ → List ℕ
text_of line = padded_to (size_of line) (unescaped Plain (behind_of 32 (behind_of 32 (behind_of 32 line))))

-- what is written of each number below n, one behind the other
abbrev pub each : (ℕ → List ℕ) → ℕ → List ℕ
each write zero = []
each write (suc n) = each write n ++ write n

-- a number, if it is to be listed
abbrev pub listed_where : Bool → ℕ → List ℕ
listed_where whether s = cond whether (codes " " ++ decimal s) []

-- the states that have a mark
abbrev pub is_marked_at : Meaning → Mark → ℕ → Bool
is_marked_at A Start s = A.start s
is_marked_at A Good s = A.good s

abbrev pub marked_text : Meaning → Mark → List ℕ
marked_text A mark = each (λ s. listed_where (is_marked_at A mark s) s) A.states

-- the letters below n that pass a test, as a set: bit a is letter a
abbrev pub letter_set : (ℕ → Bool) → ℕ → ℕ
letter_set test zero = 0
letter_set test (suc a) = letter_set test a + cond (test a) (2 ^ a) 0

abbrev pub letters_of_step : Meaning → ℕ → ℕ → ℕ
letters_of_step A s t = letter_set (λ a. A.step s a t) (2 ^ A.signals)

-- a hexadecimal digit, and four of them
abbrev pub digit_in_hex : ℕ → ℕ
digit_in_hex d = cond (nat_lt d 10) (48 + d) (87 + d)

abbrev pub hex_text : ℕ → List ℕ
hex_text n = digit_in_hex (n / 4096 % 16) ∷ digit_in_hex (n / 256 % 16) ∷ digit_in_hex (n / 16 % 16) ∷ digit_in_hex (n % 16) ∷ []

-- the steps between two states, if there are any: s>t:letters
abbrev pub text_of_step : ℕ → ℕ → ℕ → List ℕ
text_of_step s t letters = cond (letters == 0) [] ((codes " " ++ (decimal s ++ (codes ">" ++ (decimal t ++ codes ":")))) ++ hex_text letters)

abbrev pub row_text : Meaning → ℕ → List ℕ
row_text A s = each (λ t. text_of_step s t (letters_of_step A s t)) A.states

abbrev pub steps_text : Meaning → List ℕ
steps_text A = each (row_text A) A.states

-- a whole automaton: how many states and signals, the starts, the good states, the steps
abbrev pub head_text : ℕ → ℕ → List ℕ
head_text n p = codes "read " ++ (decimal n ++ (codes " " ++ (decimal p ++ codes " starts")))

abbrev pub text_of_automaton : Meaning → List ℕ
text_of_automaton A = head_text A.states A.signals ++ (marked_text A Start ++ (codes " good" ++ (marked_text A Good ++ (codes " steps" ++ steps_text A))))

-- number, place and layer of a fault; a lender is refused by a number alone
abbrev pub text_of_refusal : ReadRefusal → List ℕ
text_of_refusal (Lender e) = codes "refused " ++ decimal (lender_number e)
text_of_refusal (Text f) = codes "refused " ++ (decimal (refusal_number f.refusal) ++ (codes " " ++ (decimal f.place ++ (codes " " ++ decimal (layer_number f.layer)))))

-- the most cells that are lent
abbrev pub most_cells : ℕ
most_cells = 4097

abbrev pub lent_cells : List ℕ → ℕ
lent_cells line = min (cells_of line) most_cells

abbrev pub answer_line : List ℕ → List ℕ → List ℕ
answer_line line answer = name_of line ++ (codes " " ++ (answer ++ codes "\n"))

-- the answer to a line: the automaton that its text denotes, or why the text is not read
pub data Answered (line : List ℕ) : List ℕ → Type 0 where
  read : (A : Meaning) → TextDenotes (text_of line) A → Answered line (answer_line line (text_of_automaton A))
  refused : (e : ReadRefusal) → Unread (text_of line) (lent_cells line) e → Answered line (answer_line line (text_of_refusal e))
