-- Promise. Which bytes are written with escapes.
use Rattle.std.specs.Prelude.{ℕ, ◌+◌, ◌-◌, ◌*◌, ◌%◌, cond, List, [], ◌∷◌, ◌++◌, ◌==◌, nat_lt}
use Rattle.conformance.specs.declared.escape.Escape.{Escape}
use Rattle.conformance.specs.declared.escape.Escape.TheVariants.{Plain, Begun, First, Second}

-- the value of 0 to 9 and a to f, else 0
abbrev pub value_of_hex : ℕ → ℕ
value_of_hex b = cond (nat_lt b 48) 0 (cond (nat_lt b 58) (b - 48) (cond (nat_lt b 97) 0 (cond (nat_lt b 103) (b - 87) 0)))

-- n is line feed, t tab and r carriage return; any other byte is itself, as the backslash
abbrev pub value_of_escape : ℕ → ℕ
value_of_escape b = cond (b == 110) 10 (cond (b == 116) 9 (cond (b == 114) 13 b))

-- how much of an escape was read behind one more byte
abbrev pub escape_after : Escape → ℕ → Escape
escape_after Plain b = cond (b == 92) Begun Plain
escape_after Begun b = cond (b == 120) First Plain
escape_after First b = Second (value_of_hex b)
escape_after (Second first) b = Plain

-- the byte that one more byte completes, if any
abbrev pub escape_gives : Escape → ℕ → List ℕ
escape_gives Plain b = cond (b == 92) [] (b ∷ [])
escape_gives Begun b = cond (b == 120) [] (value_of_escape b ∷ [])
escape_gives First b = []
escape_gives (Second first) b = (16 * (first % 16) + value_of_hex b) ∷ []

-- the bytes that are written, once so much of an escape was read; an escape that does not end gives nothing
abbrev pub unescaped : Escape → List ℕ → List ℕ
unescaped escape [] = []
unescaped escape (b ∷ bs) = escape_gives escape b ++ unescaped (escape_after escape b) bs
