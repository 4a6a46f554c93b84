-- Scaffolding, no promise: what reading one token comes to.
use Rattle.std.specs.Prelude.{◌≡◌, ℕ, Bool, true, false, List, Ok, Err, Result, MatchResult}
use Rattle.hoa_tokens.specs.declared.fault.Fault.{Fault}
use Rattle.hoa_tokens.specs.declared.fault.Refusal.{Refusal}
use Rattle.hoa_tokens.specs.declared.token.Placed.{Placed}
use Rattle.hoa_tokens.specs.declared.token.Read.{Read}
use Rattle.hoa_tokens.specs.Scanning.{Lexeme, word, number, name, mark, end, lexeme}
use Rattle.hoa_grammar.specs.Marking.{Limit, kept, broken}
use Rattle.hoa_grammar.specs.Machine.{State, goes, step, number_only}
use Rattle.hoa_grammar.specs.Reading.{Reached, Refused}

-- the machine stands before the token in hand as in the state s: it takes that token as s does
pub record Stands (text : List ℕ) (s : State) (head : Placed) : Type 0 where
  pub state : State
  pub reached : Reached text state head
  pub alike : step state (lexeme head.token) ≡ step s (lexeme head.token)

-- a token that may be due: no name, and not the text's end
abbrev pub is_fixed : Lexeme → Bool
is_fixed (word w) = true
is_fixed (number n) = true
is_fixed (name w) = false
is_fixed (mark m) = true
is_fixed end = false

-- the limit that a test of a number keeps or breaks
abbrev pub limit_of : Result (Unit {0}) Refusal → Limit
limit_of (Ok x) = kept
limit_of (Err r) = broken r

-- what a test says of a number is its limit
abbrev pub Tests : (ℕ → Result (Unit {0}) Refusal → Type 0) → (ℕ → Limit) → Type 0
Tests says limit = (n : ℕ) (r : Result (Unit {0}) Refusal) → says n r → limit n ≡ limit_of r

-- a number is read wherever one is due that keeps this limit and leads on by `go`
abbrev pub NumberRead : List ℕ → Placed → (ℕ → Limit) → Result (Read ℕ) Fault → Type 0
NumberRead text head limit r = (s : State) (go : ℕ → State) → step s (lexeme head.token) ≡ number_only (λ n. goes (limit n) (go n)) (lexeme head.token) → Stands text s head → MatchResult r (λ x. (limit x.value ≡ kept) × Reached text (go x.value) x.head) (Refused text)
