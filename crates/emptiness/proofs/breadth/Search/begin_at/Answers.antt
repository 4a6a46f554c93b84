use Rattle.emptiness.proofs.Starting.{begun_at}
use Rattle.emptiness.proofs.breadth.Search.begin_at.Goals as goal

pub returns-clause-searching : goal.returns-clause-searching
returns-clause-searching g c = rw (c.add_source.ensures, c.clear.ensures) (begun_at c.args.self.now c.requires.wide c.args.g c.requires.state)
