-- Why the calls and the loops end, and what the loops keep: a term or a label so far, up to the token in hand.
use Rattle.std.proofs.Common.{◌+◌, ◌-◌, ◌*◌, length}
use Rattle.hoa_labels.specs.Parts.{TermBegun, LabelBegun}
use Rattle.hoa_labels.proofs.label.Reader.+factor_label_term.Given as goal

-- inside a `(` or `!` there is less room, and elsewhere a label calls terms, and a term factors
abbrev pub decreases-factor : goal.decreases-factor
decreases-factor l = 3 * l.room

abbrev pub decreases-term : goal.decreases-term
decreases-term l = 3 * l.room + 1

abbrev pub decreases-label : goal.decreases-label
decreases-label l = 3 * l.room + 2

-- each turn reads on
abbrev pub invariant-label-loop-head : goal.invariant-label-loop-head
invariant-label-loop-head l = LabelBegun l.self.text.bytes.now l.head-2 l.self.signals.count l.room (record { value = l.letters; head = l.head })

abbrev pub decreases-label-loop-head : goal.decreases-label-loop-head
decreases-label-loop-head l = length l.self.text.bytes.now - l.head.next

abbrev pub invariant-term-loop-head : goal.invariant-term-loop-head
invariant-term-loop-head l = TermBegun l.self.text.bytes.now l.head-2 l.self.signals.count l.room (record { value = l.letters; head = l.head })

abbrev pub decreases-term-loop-head : goal.decreases-term-loop-head
decreases-term-loop-head l = length l.self.text.bytes.now - l.head.next
