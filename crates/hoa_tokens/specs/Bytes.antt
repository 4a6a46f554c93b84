-- Which bytes the format knows, and what digits write.
use Rattle.std.specs.Prelude.{ℕ, ◌+◌, ◌-◌, ◌*◌, Bool, not, ◌&&◌, ◌||◌, List, length, fold, ◌==◌, ◌≡◌, ◌≢◌, nat_le, nat_lt, slice_index, Result, Ok, Err}
use Rattle.hoa_tokens.specs.declared.fault.Refusal.{Refusal}
use Rattle.hoa_tokens.specs.declared.fault.Refusal.TheVariants.{BadByte}
use Rattle.hoa_tokens.specs.declared.class.Class.{Class}
use Rattle.hoa_tokens.specs.declared.class.Class.TheVariants.{Blank, Word, Digit, Name}
use Rattle.hoa_tokens.specs.declared.token.Mark.{Mark}
use Rattle.hoa_tokens.specs.declared.token.Mark.TheVariants.{OpenBracket, CloseBracket, OpenBrace, CloseBrace, OpenParen, CloseParen, Not, And, Or}

-- space, tab, line feed, carriage return
abbrev pub blank : ℕ → Bool
blank b = b == 32 || b == 9 || b == 10 || b == 13

-- what begins a word: a letter of the Latin alphabet or a hyphen
abbrev pub letter : ℕ → Bool
letter b = (nat_le 97 b && nat_le b 122) || (nat_le 65 b && nat_le b 90) || b == 45

-- 0 to 9
abbrev pub digit : ℕ → Bool
digit b = nat_le 48 b && nat_le b 57

-- the quote that opens and closes a name
abbrev pub quote : ℕ
quote = 34

-- the colon that may end a word
abbrev pub colon : ℕ
colon = 58

-- what may stand in a name: 32 to 126, but no quote and no backslash
abbrev pub nameable : ℕ → Bool
nameable b = nat_le 32 b && nat_le b 126 && not (b == quote) && not (b == 92)

-- the bytes of a class, of which a run is taken
abbrev pub member : Class → ℕ → Bool
member Blank b = blank b
member Word b = letter b || digit b
member Digit b = digit b
member Name b = nameable b

-- the byte of a mark
abbrev pub sign : Mark → ℕ
sign OpenBracket = 91
sign CloseBracket = 93
sign OpenBrace = 123
sign CloseBrace = 125
sign OpenParen = 40
sign CloseParen = 41
sign Not = 33
sign And = 38
sign Or = 124

-- the number that digits write after those that write n
abbrev pub value_after : ℕ → List ℕ → ℕ
value_after n ds = fold (λ m d. m * 10 + (d - 48)) n ds

-- the number that digits write, the most significant first
abbrev pub value : List ℕ → ℕ
value ds = value_after 0 ds

-- digits that write a number of at most 9,999 with no needless leading 0
abbrev pub plain : List ℕ → Bool
plain ds = nat_le (value ds) 9999 && not (nat_lt 1 (length ds) && slice_index ds 0 == 48)

-- the byte is no mark
abbrev pub NoMark : ℕ → Type 0
NoMark b = (m : Mark) → b ≢ sign m

-- the byte is read as its mark, or refused
abbrev pub MarkRead : ℕ → Result Mark Refusal → Type 0
MarkRead b (Ok m) = b ≡ sign m
MarkRead b (Err r) = (r ≡ BadByte) × NoMark b
