-- The law over a whole text: it is cut in one way into blanks and tokens, up to its end or its first fault of this layer.
use Rattle.std.specs.Prelude.{◌≡◌, ℕ, List, [], ◌∷◌, ◌++◌, length, Ok, Err, Result}
use Rattle.hoa_tokens.specs.declared.fault.Fault.{Fault}
use Rattle.hoa_tokens.specs.Scanning.{word, number, name, mark, end, Found, token, fault, Scanned}

-- the rest of a cut behind one find: more of it behind a token, nothing behind the end or a fault
abbrev pub Behind : (ℕ → Type 0) → Type 0 → Found → Type 0
Behind more none (token (word w) place next) = more next
Behind more none (token (number n) place next) = more next
Behind more none (token (name w) place next) = more next
Behind more none (token (mark m) place next) = more next
Behind more none (token end place next) = none
Behind more none (fault f) = none

-- what scanning from the position on finds, one find behind the other
abbrev pub Cut : List ℕ → ℕ → List Found → Type 0
Cut text from [] = ⊥
Cut text from (x ∷ xs) = Scanned text from x × Behind (λ next. Cut text next xs) (xs ≡ []) x

-- how a cut ends: behind so many tokens in the text's end, or in a fault
abbrev pub Ends : List ℕ → List Found → Result ℕ Fault → Type 0
Ends text xs (Ok n) = (tokens : List Found) × (xs ≡ tokens ++ token end (length text) (length text) ∷ []) × (length tokens ≡ n)
Ends text xs (Err f) = (tokens : List Found) × (xs ≡ tokens ++ fault f ∷ [])

-- the text has just one cut from the position on, and it ends so
pub record Counted (text : List ℕ) (from : ℕ) (r : Result ℕ Fault) : Type 0 where
  pub finds : List Found
  pub cut : Cut text from finds
  pub one : (others : List Found) → Cut text from others → others ≡ finds
  pub ends : Ends text finds r
