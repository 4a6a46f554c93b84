-- Promise. The words that a search is lent at least, and when it is lent too few.
use Rattle.std.specs.Prelude.{◌≡◌, ℕ, ◌+◌, ◌*◌, ◌<◌, ◌≤◌, ◌⊎◌}
use Rattle.tables.specs.declared.refusal.LenderRefusal.{LenderRefusal}
use Rattle.tables.specs.declared.refusal.LenderRefusal.TheVariants.{ShortStrip, ShortWork}

-- for n states
abbrev pub strip_words : ℕ → ℕ
strip_words n = 4 * n + 4

abbrev pub work_words : ℕ → ℕ
work_words n = 8 * n

-- what is lent is too short for n states: the strip, or else the work list
abbrev pub TooShort : ℕ → ℕ → ℕ → LenderRefusal → Type 0
TooShort n strip work e = ((e ≡ ShortStrip) × (strip < strip_words n)) ⊎ ((e ≡ ShortWork) × (strip_words n ≤ strip) × (work < work_words n))

-- what is lent is enough for n states
abbrev pub Enough : ℕ → ℕ → ℕ → Type 0
Enough n strip work = (strip_words n ≤ strip) × (work_words n ≤ work)
