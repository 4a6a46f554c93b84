-- The shift gives the set of `s` alone.
use Rattle.tables.proofs.Added.{state_added, state_added_in}
use Rattle.tables.proofs.frame.with_state.Goals as goal

pub returns : goal.returns
returns c = record {
  added = state_added c.args.states c.args.s c.args.set c.requires.few c.if-s-states.false;
  within = state_added_in c.args.states c.args.s c.args.set c.requires.few c.if-s-states.false c.requires.within;
}
