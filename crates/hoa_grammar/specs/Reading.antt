-- Scaffolding, no promise: how far the code has read a text, as a state of the machine before the token in hand.
use Rattle.std.specs.Prelude.{◌≡◌, ℕ, ◌≤◌, List, [], ◌∷◌, ◌++◌, length, Ok}
use Rattle.hoa_tokens.specs.declared.fault.Fault.{Fault}
use Rattle.hoa_tokens.specs.declared.token.Placed.{Placed}
use Rattle.hoa_tokens.specs.Scanning.{Found, found, Scanned}
use Rattle.hoa_tokens.specs.Cuts.{Cut}
use Rattle.hoa_grammar.specs.Machine.{State, initial, reading, refused, run}

-- the tokens before the one in hand lead the machine to the state
pub record Reached (text : List ℕ) (s : State) (head : Placed) : Type 0 where
  pub from : ℕ
  pub within : from ≤ length text
  pub before : List Found
  pub grown : (rest : List Found) → Cut text from rest → Cut text 0 (before ++ rest)
  pub scanned : Scanned text from (found (Ok head))
  pub runs : run (reading initial) before ≡ reading s

-- the text is refused with this fault: the machine refuses what is found in it
pub record Refused (text : List ℕ) (f : Fault) : Type 0 where
  pub from : ℕ
  pub within : from ≤ length text
  pub before : List Found
  pub at : Found
  pub grown : (rest : List Found) → Cut text from rest → Cut text 0 (before ++ rest)
  pub scanned : Scanned text from at
  pub runs : run (reading initial) (before ++ at ∷ []) ≡ refused f
