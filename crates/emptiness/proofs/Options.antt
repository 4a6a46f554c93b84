-- Numbers and letters that may be missing.
use Rattle.std.proofs.Common.{◌≡◌, ℕ, ◌<◌, ◌≤◌, T, Option, None, Some, MatchOption, is_some, false, arith}
use Rattle.omega.specs.Automata.{Meaning}
use Rattle.emptiness.specs.Parts.{AtMost, Joining}

pub at_most-more : {m n : ℕ} (number : Option ℕ) → m ≤ n → AtMost number m → AtMost number n
at_most-more None up none = none
at_most-more (Some k) up low = omega arith

-- the first number below n that is a letter from s to t, where all letters are below n
pub first_joining :
    (A : Meaning) (s t n : ℕ) (letter : Option ℕ) (Before : ℕ → Type 0) → ((a : ℕ) → T (A.step s a t) → a < n) →
    MatchOption letter ((a : ℕ) → 0 ≤ a → a < n → T (A.step s a t) → ⊥) (λ a. (0 ≤ a) × (a < n) × T (A.step s a t) × Before a) → Joining A s t letter
first_joining A s t n None Before known none = λ a step. none a (omega arith) (known a step) step
first_joining A s t n (Some a) Before known (_, _, step, _) = step

pub no_joining : (A : Meaning) (s t : ℕ) (letter : Option ℕ) → is_some letter ≡ false → Joining A s t letter → (a : ℕ) → T (A.step s a t) → ⊥
no_joining A s t None missing none = none
no_joining A s t (Some a) missing step = cc
