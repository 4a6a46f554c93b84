use Rattle.std.proofs.Common.{arith}
use Rattle.rankings.proofs.Telling.{written_tells}
use Rattle.rankings.proofs.deciding.decide.Goals as goal

pub returns-then-rank_states : goal.returns-then-rank_states
returns-then-rank_states g c =
    written_tells (g.A.Automaton.meaning c.args.automaton.now) (g.A.Automaton.sound c.args.automaton.now) c.args.strip.now
    c.rank_states.new.ranks c.args.n _ c.into.result (c.if-rank_states.ensures.settled tt) (omega arith) c.requires.states c.into.ensures (omega arith) c.requires.clear
