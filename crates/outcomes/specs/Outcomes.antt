-- Promise. Which outcome two files have.
use Rattle.std.specs.Prelude.{◌≡◌, ℕ, List, Some, None, Ok, Err, Option, Result}
use Rattle.omega.specs.Automata.{Meaning}
use Rattle.census.specs.declared.census.Census.{Census}
use Rattle.census.specs.Counts.{Counted}
use Rattle.hoa_tokens.specs.declared.fault.Fault.{Fault}
use Rattle.hoa_tokens.specs.declared.fault.Refusal.TheVariants.{Unreadable}
use Rattle.hoa_tokens.specs.Scanning.{bytes_fault}
use Rattle.hoa_document.specs.Denoting.{TextDenotes, TextRefused}
use Rattle.hoa_text.specs.Naming.{Readable, NamesAlike, Mismatched}
use Rattle.hoa_text.specs.declared.refusal.MatchRefusal.{MatchRefusal}
use Rattle.hoa_text.specs.declared.refusal.MatchRefusal.TheVariants.{First, Second, Parts}

-- the file could be read, and its text is such
abbrev pub Given : (List ℕ → Type 0) → Option (List ℕ) → Type 0
Given P None = ⊥
Given P (Some text) = P text

-- the file could not be read, or else its text is refused
abbrev pub FileRefused : Option (List ℕ) → Fault → Type 0
FileRefused None f = f ≡ bytes_fault Unreadable 0
FileRefused (Some text) f = TextRefused text f

-- the text denotes an automaton, and these are its counts
abbrev pub TextCounted : List ℕ → Census → Type 0
TextCounted text x = (A : Meaning) × TextDenotes text A × Counted A x

-- what two files come to: the sheet is refused, else the rule, else their names do not match; else both are counted
abbrev pub Decided : Option (List ℕ) → Option (List ℕ) → Result (Census × Census) MatchRefusal → Type 0
Decided sheet rule (Err (First f)) = FileRefused sheet f
Decided sheet rule (Err (Second f)) = Given Readable sheet × FileRefused rule f
Decided sheet rule (Err (Parts e)) = Given (λ a. Given (λ b. Mismatched a b e) rule) sheet
Decided sheet rule (Ok (x, y)) = Given (λ a. TextCounted a x) sheet × Given (λ b. TextCounted b y) rule × Given (λ a. Given (NamesAlike a) rule) sheet
