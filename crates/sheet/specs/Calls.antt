-- Promise. Lists of calls on a sheet: what each makes of the sheet, and that every answer in the list is the right one.
use Rattle.std.specs.Prelude.{◌≡◌, ℕ, Bool, List, [], ◌∷◌, Result}
use Rattle.omega.specs.Automata.{Meaning}
use Rattle.automaton.specs.declared.refusal.PartsRefusal.{PartsRefusal}
use Rattle.hoa_document.specs.Denoting.{TextDenotes}
use Rattle.sheet.specs.Rechecks.{RightRecheck}

-- a call of a sheet: the meaning of its rule, the words that were lent to it, before and after, and its answer
pub data Event : Type 0 where
  rechecked : (rule : Meaning) (before after : List ℕ) → Result Bool PartsRefusal → Event

-- what a call makes of the automaton of the sheet: a recheck leaves it
abbrev pub edited : Event → Meaning → Meaning
edited (rechecked rule before after answer) S = S

-- what a call makes of the count of accepted edits since the last accepted judge: a recheck leaves it
abbrev pub counted : Event → ℕ → ℕ
counted (rechecked rule before after answer) count = count

-- the call's answer, and the words that it left, are right for a sheet of this automaton
abbrev pub Right : Meaning → Event → Type 0
Right S (rechecked rule before after answer) = (after ≡ before) × RightRecheck S rule before answer

-- the automaton and the count behind a list of calls, of which the last one stands first
abbrev pub sheet_after : Meaning → List Event → Meaning
sheet_after S [] = S
sheet_after S (e ∷ es) = edited e (sheet_after S es)

abbrev pub count_after : List Event → ℕ
count_after [] = 0
count_after (e ∷ es) = counted e (count_after es)

-- every call in the list is answered right for the sheet as it was then
abbrev pub AllRight : Meaning → List Event → Type 0
AllRight S [] = Unit {0}
AllRight S (e ∷ es) = Right (sheet_after S es) e × AllRight S es

-- a sheet with this automaton and count is what the calls made of the sheet that was read from the text, and all were answered right
pub record Reached (text : List ℕ) (es : List Event) (S : Meaning) (count : ℕ) : Type 0 where
  pub origin : Meaning
  pub denoted : TextDenotes text origin
  pub means : S ≡ sheet_after origin es
  pub counts : count ≡ count_after es
  pub right : AllRight origin es
