-- Promise. Where two strings of bytes differ first.
use Rattle.std.specs.Prelude.{◌≡◌, ℕ, ◌<◌, ◌⊎◌, List, length, Some, None, Option, ◌≢◌, slice_index}

-- both strings have this byte at place k
abbrev pub Share : List ℕ → List ℕ → ℕ → Type 0
Share a b k = (k < length a) × (k < length b) × (slice_index a k ≡ slice_index b k)

-- they differ at place k: their bytes do, or just one of them ends there
abbrev pub DifferAt : List ℕ → List ℕ → ℕ → Type 0
DifferAt a b k = ((k < length a) × (k < length b) × (slice_index a k ≢ slice_index b k)) ⊎ (((k ≡ length a) × (k < length b)) ⊎ ((k ≡ length b) × (k < length a)))

-- the least place where they differ, or none exactly where they are alike
abbrev pub FirstDifference : List ℕ → List ℕ → Option ℕ → Type 0
FirstDifference a b (Some k) = ((i : ℕ) → i < k → Share a b i) × DifferAt a b k
FirstDifference a b None = a ≡ b
