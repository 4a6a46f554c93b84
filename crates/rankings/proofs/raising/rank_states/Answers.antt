use Rattle.std.proofs.Common.{subst}
use Rattle.relaxing.specs.Rounds.{AllLow, TooHigh}
use Rattle.relaxing.proofs.Settled.{too_high_lasso}
use Rattle.rankings.proofs.raising.rank_states.Goals as goal

pub returns : goal.returns
returns g c =
    let A = g.A.Automaton.meaning c.args.automaton.now in
    let ranks = c.settle.new.ranks in
    let forced = c.settle.ensures.forced in
    record {
      settled = λ yes.
          record { forced = forced; low = subst (λ n. AllLow n ranks) forced.long (c.are_low.ensures.low yes); met = c.settle.ensures.met };
      lasso = λ no.
          too_high_lasso A (g.A.Automaton.sound c.args.automaton.now) ranks forced
          (subst (λ n. TooHigh n ranks) forced.long (c.are_low.ensures.high no));
    }
