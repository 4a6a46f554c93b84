use Rattle.std.proofs.Common.{◌≡◌, ◌-◌, ◌≤◌, List, length}
use Rattle.hoa_tokens.specs.Scanning.{Found}
use Rattle.hoa_tokens.proofs.Cutting.{Grown}
use Rattle.hoa_tokens.proofs.text.Text.count_from.Given as goal

abbrev pub invariant-loop-found : goal.invariant-loop-found
invariant-loop-found l = (l.tokens ≤ l.from) × (l.from ≤ length l.self.bytes.now) × ((tokens : List Found) × (length tokens ≡ l.tokens) × Grown l.self.bytes.now l.start l.from tokens)

abbrev pub decreases-loop-found : goal.decreases-loop-found
decreases-loop-found l = length l.self.bytes.now - l.from
