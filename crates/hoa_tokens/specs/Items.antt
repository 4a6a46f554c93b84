-- Which bytes of a text make an item, and which item is the longest.
-- A span of a text goes from the place of its first byte up to the place behind its last.
-- Past the text's end `slice_index` gives 0, a byte of no class: so no item reaches past it.
use Rattle.std.specs.Prelude.{◌≡◌, ℕ, ◌+◌, ◌-◌, ◌<◌, ◌≤◌, Bool, true, false, ◌⊎◌, List, length, slice_index, slice_range}
use Rattle.hoa_tokens.specs.declared.class.Class.TheVariants as class
use Rattle.hoa_tokens.specs.declared.token.Mark.{Mark}
use Rattle.hoa_tokens.specs.Bytes.{letter, digit, nameable, quote, colon, member, sign}

-- the bytes of a span
abbrev pub span : List ℕ → ℕ → ℕ → List ℕ
span text from to = slice_range text from to

-- every byte of the span passes the test
abbrev pub Each : (ℕ → Bool) → List ℕ → ℕ → ℕ → Type 0
Each test text from to = (i : ℕ) → from ≤ i → i < to → test (slice_index text i) ≡ true

-- a span of bytes that pass, as long as it can be
pub record Run (test : ℕ → Bool) (text : List ℕ) (from to : ℕ) : Type 0 where
  pub forward : from ≤ to
  pub within : to ≤ length text
  pub each : Each test text from to
  pub stops : test (slice_index text to) ≡ false

-- letters, digits and hyphens, the first no digit
abbrev pub Stem : List ℕ → ℕ → ℕ → Type 0
Stem text from to = (from < to) × (letter (slice_index text from) ≡ true) × Each (member class.Word) text from to

-- the kinds of items
pub data Kind : Type 0 where
  word : Kind
  digits : Kind
  name : Kind
  mark : Mark → Kind

-- the span is an item of the kind: a stem with perhaps one colon behind it, digits, 1 to 32 bytes between quotes, or a mark
abbrev pub Item : Kind → List ℕ → ℕ → ℕ → Type 0
Item word text from to = Stem text from to ⊎ (Stem text from (to - 1) × (slice_index text (to - 1) ≡ colon))
Item digits text from to = (from < to) × Each digit text from to
Item name text from to = (slice_index text from ≡ quote) × (slice_index text (to - 1) ≡ quote) × Each nameable text (from + 1) (to - 1) × (from + 3 ≤ to) × (to ≤ from + 34)
Item (mark m) text from to = (to ≡ from + 1) × (slice_index text from ≡ sign m)

-- the span is an item of the kind, and no longer item begins there
pub record Longest (kind : Kind) (text : List ℕ) (from to : ℕ) : Type 0 where
  pub item : Item kind text from to
  pub longest : (other : Kind) (end : ℕ) → Item other text from end → end ≤ to
