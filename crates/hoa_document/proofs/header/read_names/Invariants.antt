-- What the loop over the names keeps.
use Rattle.std.proofs.Common.{◌≡◌, ℕ, ◌-◌}
use Rattle.hoa_grammar.specs.Rows.{Row, none}
use Rattle.hoa_grammar.specs.Machine.{at, names}
use Rattle.hoa_grammar.specs.Reading.{Reached}
use Rattle.hoa_document.specs.Naming.{row_of}
use Rattle.hoa_document.proofs.header.read_names.Given as goal

-- so many names are read, and held
abbrev pub invariant-loop : goal.invariant-loop
invariant-loop l = (l.names.count ≡ l.counter) × ((n : ℕ) (row : Row ℕ) → Reached l.text.bytes.now (at (names n row none l.signals)) l.initial.head → Reached l.text.bytes.now (at (names n row (row_of l.names) (l.signals - l.counter))) l.head)
