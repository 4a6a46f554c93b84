use Rattle.std.proofs.Common.{arith}
use Rattle.omega.proofs.Caching.{cached_pair, cached_accepts}
use Rattle.automaton.proofs.pair.Pair.of.Goals as goal

pub returns : goal.returns
returns g c =
    let A = g.A.Automaton.meaning c.args.first.now in
    let B = g.B.Automaton.meaning c.args.second.now in
    record {
      fit = record { signals = c.requires.signals; states = omega arith };
      means = cached_pair A B _ _ c.requires.states c.requires.columns (omega arith);
      accepts = cached_accepts A B _ _ c.requires.states c.requires.columns (omega arith) (g.A.Automaton.sound c.args.first.now) (g.B.Automaton.sound c.args.second.now);
    }
