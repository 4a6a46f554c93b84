-- Promise. When parts are put together and when they cannot be, and the number of each refusal.
use Rattle.std.specs.Prelude.{◌≡◌, ℕ, ◌*◌, ◌<◌, ◌≤◌, ◌⊎◌, ◌≢◌}
use Rattle.omega.specs.Automata.{Meaning, most_states, most_signals}
use Rattle.omega.specs.Words.{AcceptsBoth}
use Rattle.omega.specs.Pairs.{pair}
use Rattle.automaton.specs.declared.refusal.PartsRefusal.{PartsRefusal}
use Rattle.automaton.specs.declared.refusal.PartsRefusal.TheVariants.{SignalsDiffer, TooManyStates, NamesDiffer, NoSuchSignal}

-- the number that is printed for a refusal
abbrev pub parts_number : PartsRefusal → ℕ
parts_number SignalsDiffer = 31
parts_number TooManyStates = 32
parts_number NamesDiffer = 33
parts_number NoSuchSignal = 34

-- two parts make a pair
pub record Fit (A B : Meaning) : Type 0 where
  pub signals : A.signals ≡ B.signals
  pub states : A.states * B.states * 2 ≤ most_states

-- M is the pair of two parts that fit
pub record Paired (A B M : Meaning) : Type 0 where
  pub fit : Fit A B
  pub means : M ≡ pair A B
  pub accepts : AcceptsBoth M A B

-- two parts make no pair: their signals differ, or else the pair would have too many states
abbrev pub Unfit : Meaning → Meaning → PartsRefusal → Type 0
Unfit A B e = ((e ≡ SignalsDiffer) × (A.signals ≢ B.signals)) ⊎ ((e ≡ TooManyStates) × (A.signals ≡ B.signals) × (most_states < A.states * B.states * 2))

-- signal i is one of p, and p is not too many
abbrev pub Watchable : ℕ → ℕ → Type 0
Watchable i p = (i < p) × (p ≤ most_signals)

-- an automaton watches signal i of p, as it was asked to
abbrev pub Watches : ℕ → ℕ → ℕ → ℕ → Type 0
Watches i p index count = (index ≡ i) × (count ≡ p) × Watchable i p

-- there is no such signal to watch
abbrev pub Unwatchable : ℕ → ℕ → PartsRefusal → Type 0
Unwatchable i p e = (e ≡ NoSuchSignal) × (Watchable i p → ⊥)
