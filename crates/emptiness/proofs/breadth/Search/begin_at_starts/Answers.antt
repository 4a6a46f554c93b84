use Rattle.std.proofs.Common.{T, sym, subst, arith}
use Rattle.emptiness.proofs.Starting.{start_more, start_skip}
use Rattle.emptiness.proofs.breadth.Search.begin_at_starts.Goals.{then-is_start, else-is_start}
use Rattle.emptiness.proofs.breadth.Search.begin_at_starts.Goals as goal

pub loop-s-preserved : goal.loop-s-preserved
loop-s-preserved g c =
    let is = c.states-s-end.ensures.is in
    let kept = c.loop-s.invariant in
    elim c.if-is_start.branch [
      | then-is_start w ↦
          rw (w.self-is, w.add_source.ensures)
          (record { starts = start_more kept.starts (omega arith) (subst T w.if-is_start.ensures.is tt); head = kept.head; parents = kept.parents })
      | else-is_start w ↦
          rw w.self-is (record { starts = start_skip kept.starts (omega arith) (λ start. subst T (sym w.if-is_start.ensures.is) start); head = kept.head; parents = kept.parents })
    ]
