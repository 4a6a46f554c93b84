-- One cell is united with a set of letters, and the limits stay kept.
use Rattle.std.proofs.Common.{arith}
use Rattle.tables.proofs.Added.{steps_added, steps_added_in, steps_added_rest}
use Rattle.tables.proofs.draft.Draft.add_steps.Goals as goal

pub invariant_of-self : goal.invariant_of-self
invariant_of-self c =
    let x = c.args.self.now in
    let f = x.frame in
    record {
      within = x.within;
      letters = steps_added_in f.states f.signals c.args.s c.args.letters c.args.t _ x.cells (omega arith) x.within.few (omega arith) (omega arith) c.all_letters.ensures x.letters;
      rest = steps_added_rest f.states f.signals c.args.s c.args.letters c.args.t _ x.cells (omega arith) x.within.few (omega arith) (omega arith) c.all_letters.ensures x.rest;
    }

pub returns-clause-steps : goal.returns-clause-steps
returns-clause-steps c =
    let x = c.args.self.now in
    let f = x.frame in
    steps_added f.states f.signals c.args.s c.args.letters c.args.t _ x.cells (omega arith) x.within.few (omega arith) (omega arith) c.all_letters.ensures
