-- Promise. The laws between words, lassos, rankings and pairs.
use Rattle.std.specs.Prelude.{ℕ, Bool, ◌⊎◌, ◌↔◌}
use Rattle.omega.specs.Automata.{Meaning, Sound}
use Rattle.omega.specs.Words.{Word, Over, Often, Seldom, Accepted, AcceptsBoth, SomeWord}
use Rattle.omega.specs.Lassos.{SomeLasso}
use Rattle.omega.specs.Rankings.{Ranking, SomeLeast}
use Rattle.omega.specs.Pairs.{pair}
use Rattle.omega.specs.Signals.{bit, watching, again_leads, settles_leads}

-- a ranking rules out every accepted word
abbrev pub RankingRefutes : Type 0
RankingRefutes = (A : Meaning) (inside : ℕ → Bool) (rank : ℕ → ℕ) → Ranking A inside rank → SomeWord A → ⊥

-- a lasso gives an accepted word
abbrev pub LassoShowsWord : Type 0
LassoShowsWord = (A : Meaning) → SomeLasso A → SomeWord A

-- an accepted word gives a lasso
abbrev pub WordGivesLasso : Type 0
WordGivesLasso = (A : Meaning) → Sound A → SomeWord A → SomeLasso A

-- without a lasso there is a least ranking
abbrev pub LassoOrLeast : Type 0
LassoOrLeast = (A : Meaning) → Sound A → SomeLasso A ⊎ SomeLeast A

-- a word is accepted by a pair exactly when both parts accept it
abbrev pub PairAcceptsBoth : Type 0
PairAcceptsBoth = (A B : Meaning) → Sound A → Sound B → AcceptsBoth (pair A B) A B

-- of the automaton that watches signal i of p: it accepts the words in which the moments at which i is on are as `holds` says
abbrev pub WatchingAccepts : (Bool → ℕ → ℕ → Bool) → ((ℕ → Bool) → Type 0) → ℕ → ℕ → Type 0
WatchingAccepts leads holds i p = (w : Word) → Over p w → Accepted (watching leads i p) w ↔ holds (λ k. bit i (w k))

-- again i accepts the words in which i is on infinitely often
abbrev pub AgainAccepts : ℕ → ℕ → Type 0
AgainAccepts = WatchingAccepts again_leads Often

-- settles i accepts the words in which i is on only finitely often
abbrev pub SettlesAccepts : ℕ → ℕ → Type 0
SettlesAccepts = WatchingAccepts settles_leads Seldom
