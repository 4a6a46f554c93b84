-- What a report says, and whether the program goes on behind it.
use Rattle.std.specs.Prelude.{ℕ, Bool, true, false, List, vec_items, string_bytes}
use Rattle.report.specs.declared.report.Report.{Report}
use Rattle.report.specs.declared.report.Report.TheVariants.{Listed, Refused}

-- the bytes that are printed
abbrev pub lines_of : Report → List ℕ
lines_of (Listed lines) = vec_items lines
lines_of (Refused line) = string_bytes line

-- the program goes on behind a text that is all tokens
abbrev pub is_sound : Report → Bool
is_sound (Listed lines) = true
is_sound (Refused line) = false
