-- Promise. What a table keeps, and what each addition to a draft changes.
use Rattle.std.specs.Prelude.{◌≡◌, ℕ, ◌+◌, ◌*◌, ◌^◌, ◌&&◌, ◌||◌, List, length, ◌==◌, nat_lt, slice_index}
use Rattle.omega.specs.Signals.{bit}

-- the most states of a table
abbrev pub most_table_states : ℕ
most_table_states = 64

-- the cells that reading sets
abbrev pub table_cells : ℕ
table_cells = 4096

-- s is added to a set of states below n
abbrev pub StateAdded : ℕ → ℕ → ℕ → ℕ → Type 0
StateAdded n s old new = (k : ℕ) → bit k new ≡ (bit k old || (k == s && nat_lt s n))

-- the states below n of a set are added to another
abbrev pub StatesAdded : ℕ → ℕ → ℕ → ℕ → Type 0
StatesAdded n set old new = (k : ℕ) → bit k new ≡ (bit k old || (bit k set && nat_lt k n))

-- steps from s to t are added by the letters that are bits of a set, below 2 ^ p; every other cell stays
abbrev pub StepsAdded : ℕ → ℕ → ℕ → ℕ → ℕ → List ℕ → List ℕ → Type 0
StepsAdded n p s letters t old new = (length new ≡ length old) × ((k a : ℕ) → bit a (slice_index new k) ≡ (bit a (slice_index old k) || ((nat_lt s n && nat_lt t n && k == s * n + t) && (nat_lt a (2 ^ p) && bit a letters))))
