-- A mask leaves the states of the set that are below the bound.
use Rattle.tables.proofs.Added.{states_added, states_added_in}
use Rattle.tables.proofs.frame.with_states.Goals as goal

pub returns : goal.returns
returns c = record {
  added = states_added c.args.states c.args.more c.args.set c.requires.few;
  within = states_added_in c.args.states c.args.more c.args.set c.requires.few c.requires.within;
}
