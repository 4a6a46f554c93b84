use Rattle.std.proofs.Common.{rules}
use Rattle.omega.proofs.Places.{place_in_row}
use Rattle.automaton.proofs.pair.Pair.next_in_row.Goals as goal

pub returns-then-q-self : goal.returns-then-q-self
returns-then-q-self g c =
    (c.if-q-self.true, place_in_row ((g.A.Automaton.meaning c.args.self.now.first.now).step c.args.u c.args.a) _ c.args.self.now.columns c.requires c.args.g c.in_ok-q.q (search rules) c.in_ok-q.ensures.is c.if-q-self.true)
