-- Outside of the states and the letters there is no step.
use Rattle.std.proofs.Common.{inl, inr, arith}
use Rattle.omega.proofs.Soundness.{table_sound}
use Rattle.tables.specs.Meanings.{table_meaning}
use Rattle.tables.proofs.Bits.{letter_count}
use Rattle.tables.proofs.Steps.{no_step_outside}
use Rattle.tables.proofs.questions.TableAutomaton.next.Goals as goal
use Rattle.tables.proofs.questions.TableAutomaton.next.Goals.{then-s-self-via-then-s-self, then-s-self-via-else-s-self+then-a-self}

pub returns-then-s-self-clause-is : goal.returns-then-s-self-clause-is
returns-then-s-self-clause-is c =
    let x = c.args.self.now in
    let f = x.frame in
    no_step_outside (table_meaning x) (table_sound f.states f.signals f.starts f.goods x.cells.now x.within.few x.within.narrow x.within.starts_in x.within.goods_in x.letters) c.args.s c.args.a c.args.f
    (elim c.then-s-self.branch [
      | then-s-self-via-then-s-self w ↦ inl w.if-s-self.true
      | then-s-self-via-else-s-self+then-a-self w ↦ inr (omega (arith, w.if-a-self.true, letter_count f.signals x.within.narrow))
    ])
