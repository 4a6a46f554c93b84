-- Promise. Tokens as a document writes them, each marked with the limit that it breaks there, if any.
use Rattle.std.specs.Prelude.{◌≡◌, Bool, cond, List, [], ◌∷◌}
use Rattle.hoa_tokens.specs.declared.fault.Refusal.{Refusal}
use Rattle.hoa_tokens.specs.Scanning.{Lexeme}

-- a token keeps every limit, or breaks this one
pub data Limit : Type 0 where
  kept : Limit
  broken : Refusal → Limit

pub record Marked : Type 0 where
  pub token : Lexeme
  pub limit : Limit

abbrev pub marked : Lexeme → Limit → Marked
marked x l = record { token = x; limit = l }

-- the tokens without their marks
abbrev pub tokens_of : List Marked → List Lexeme
tokens_of [] = []
tokens_of (z ∷ zs) = z.token ∷ tokens_of zs

-- none of them breaks a limit
abbrev pub AllKept : List Marked → Type 0
AllKept [] = Unit {0}
AllKept (z ∷ zs) = (z.limit ≡ kept) × AllKept zs

-- tokens that no limit concerns
abbrev pub unlimited : List Lexeme → List Marked
unlimited [] = []
unlimited (x ∷ xs) = marked x kept ∷ unlimited xs

-- the limit is broken where the test is true; else another one may be
abbrev pub breaks_if : Bool → Refusal → Limit → Limit
breaks_if test r else = cond test (broken r) else
