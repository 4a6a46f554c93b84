use Rattle.omega.proofs.Places.{place_in_later_row, no_later_row}
use Rattle.automaton.proofs.pair.Pair.next_place.Goals as goal

pub returns-in_err-p-clause-is : goal.returns-in_err-p-clause-is
returns-in_err-p-clause-is g c =
    rw c.from_residual.ensures (no_later_row _ _ c.args.self.now.columns c.requires.wide c.args.g c.in_default.ensures c.in_err-p.ensures.is)

pub returns-then-q-w-clause-is : goal.returns-then-q-w-clause-is
returns-then-q-w-clause-is g c =
    rw (c.from-then-q-w.ensures, c.from-then-q-w-2.ensures, c.from-then-q-w-3.ensures)
    (place_in_later_row _ _ c.args.self.now.columns c.requires.wide c.args.g c.in_ok-p.p c.in_ok-q.q c.in_default.ensures c.in_ok-p.ensures.is c.in_ok-q.ensures.is c.if-q-w.true)
