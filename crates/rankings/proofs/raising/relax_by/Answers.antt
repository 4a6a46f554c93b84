use Rattle.automaton.proofs.Walks.{over_lowest, over_above, over_more, over_all_seen}
use Rattle.relaxing.specs.Rounds.{StepMet}
use Rattle.relaxing.proofs.Visiting.{visited}
use Rattle.rankings.proofs.raising.relax_by.Goals as goal

pub loop-t-preserved : goal.loop-t-preserved
loop-t-preserved g c =
    let A = g.A.Automaton.meaning c.args.automaton.now in
    let sound = g.A.Automaton.sound c.args.automaton.now in
    let (over, swept) = c.loop-t.invariant in
    let gives = c.in-Some.ensures.steps in (
      over_more over gives,
      rw (over_above over gives) (visited A sound c.args.ranks.now c.loop-t.ranks c.relax_step-changed.new.ranks c.loop-t.changed c.args.s c.args.letter c.loop-t.t-iterator.from c.in-Some.t c.is_good-good.result c.is_good-good.ensures.is c.requires.inside (over_lowest over gives) swept c.relax_step-changed.result c.relax_step-changed.ensures),
    )

pub returns-clause-met : goal.returns-clause-met
returns-clause-met g c = λ kept.
    let A = g.A.Automaton.meaning c.args.automaton.now in
    let (over, swept) = c.loop-t.invariant in
    over_all_seen (StepMet A c.loop-t.ranks c.args.s) over (swept.1 kept) c.in-None.ensures.steps
