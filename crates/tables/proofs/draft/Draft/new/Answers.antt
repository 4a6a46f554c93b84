-- A draft of empty cells keeps the limits.
use Rattle.std.proofs.Common.{◌^◌}
use Rattle.std.proofs.lemmas.Nat.{pow_pos}
use Rattle.tables.specs.Cells.{table_cells}
use Rattle.tables.proofs.Added.{zero_everywhere}
use Rattle.tables.proofs.draft.Draft.new.Goals as goal

pub invariant_of-result-clause-letters : goal.invariant_of-result-clause-letters
invariant_of-result-clause-letters c = λ k. rw (zero_everywhere table_cells k) (pow_pos (2 ^ c.in_ok-frame.frame.signals))

pub invariant_of-result-clause-rest : goal.invariant_of-result-clause-rest
invariant_of-result-clause-rest c = λ k past. zero_everywhere table_cells k
