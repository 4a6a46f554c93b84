use Rattle.relaxing.specs.Rounds.{MetBy}
use Rattle.relaxing.proofs.Sweeping.{swept_next}
use Rattle.rankings.proofs.raising.relax_letters.Goals as goal

pub loop-letter-preserved : goal.loop-letter-preserved
loop-letter-preserved g c =
    let A = g.A.Automaton.meaning c.args.automaton.now in
    swept_next A (λ ranks. MetBy A ranks c.args.s) c.args.ranks.now c.loop-letter.ranks c.relax_by-changed.new.ranks c.loop-letter.changed c.loop-letter.letter c.relax_by-changed.result
    c.loop-letter.invariant c.relax_by-changed.ensures.risen c.relax_by-changed.ensures.met
