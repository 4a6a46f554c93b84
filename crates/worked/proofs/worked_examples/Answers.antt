use Rattle.worked.proofs.worked_examples.Goals as goal
use Rattle.worked.proofs.Passing.{all_hold}

pub returns : goal.returns
returns c = all_hold
