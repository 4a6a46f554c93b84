-- What the scanner's small steps answer. Machinery: no promise rests on these words.
use Rattle.std.specs.Prelude.{◌≡◌, ℕ, ◌+◌, ◌-◌, ◌<◌, Bool, true, ◌&&◌, ◌⊎◌, List, length, ◌==◌, ◌≢◌, nat_le, nat_lt, slice_index}
use Rattle.hoa_tokens.specs.Bytes.{digit, colon, quote}

-- every byte is a digit
abbrev pub AllDigits : List ℕ → Type 0
AllDigits ds = (i : ℕ) → i < length ds → digit (slice_index ds i) ≡ true

-- the place behind a colon, if one stands there
abbrev pub WithColon : List ℕ → ℕ → ℕ → Type 0
WithColon text at next = ((next ≡ at + 1) × (at < length text) × (slice_index text at ≡ colon)) ⊎ ((next ≡ at) × (slice_index text at ≢ colon))

-- a name's bytes are 1 to 32 and end in a quote
abbrev pub closes : List ℕ → ℕ → ℕ → Bool
closes text from end = nat_lt from end && nat_le (end - from) 32 && nat_lt end (length text) && slice_index text end == quote
