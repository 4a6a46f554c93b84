use Rattle.relaxing.specs.Rounds.{MetFrom}
use Rattle.relaxing.proofs.Sweeping.{swept_next}
use Rattle.rankings.proofs.raising.relax_all.Goals as goal

pub loop-s-preserved : goal.loop-s-preserved
loop-s-preserved g c =
    let A = g.A.Automaton.meaning c.args.automaton.now in
    swept_next A (MetFrom A) c.args.ranks.now c.loop-s.ranks c.relax_from-changed.new.ranks c.loop-s.changed c.loop-s.s c.relax_from-changed.result
    c.loop-s.invariant c.relax_from-changed.ensures.risen c.relax_from-changed.ensures.met
