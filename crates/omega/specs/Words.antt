-- Promise. Endless words, runs on them, and when a word is accepted.
use Rattle.std.specs.Prelude.{ℕ, ◌+◌, ◌^◌, ◌<◌, ◌≤◌, Bool, T, ◌↔◌}
use Rattle.omega.specs.Automata.{Meaning}

-- an endless word has a letter for each moment 0, 1, 2 and so on
abbrev pub Word : Type 0
Word = ℕ → ℕ

-- all letters of the word are below 2 ^ p
abbrev pub Over : ℕ → Word → Type 0
Over p w = (i : ℕ) → w i < 2 ^ p

-- a run on the word has a state for each moment: the first is a start, and a step by the moment's letter leads to the next
pub record Run (A : Meaning) (w : Word) (r : ℕ → ℕ) : Type 0 where
  pub begins : T (A.start (r 0))
  pub goes : (i : ℕ) → T (A.step (r i) (w i) (r (i + 1)))

-- the test passes at infinitely many moments
abbrev pub Often : (ℕ → Bool) → Type 0
Often test = (m : ℕ) → (k : ℕ) × (m ≤ k) × T (test k)

-- the test passes at finitely many moments only
abbrev pub Seldom : (ℕ → Bool) → Type 0
Seldom test = (m : ℕ) × ((k : ℕ) → m ≤ k → T (test k) → ⊥)

-- the word is accepted: some run on it is in good states at infinitely many moments
pub record Accepted (A : Meaning) (w : Word) : Type 0 where
  pub path : ℕ → ℕ
  pub run : Run A w path
  pub often : Often (λ i. A.good (path i))

abbrev pub SomeWord : Meaning → Type 0
SomeWord A = (w : Word) × Accepted A w

-- some endless word is accepted by both
abbrev pub SharedWord : Meaning → Meaning → Type 0
SharedWord A B = (w : Word) × Accepted A w × Accepted B w

-- M accepts a word exactly when A and B both do
abbrev pub AcceptsBoth : Meaning → Meaning → Meaning → Type 0
AcceptsBoth M A B = (w : Word) → Accepted M w ↔ (Accepted A w × Accepted B w)
