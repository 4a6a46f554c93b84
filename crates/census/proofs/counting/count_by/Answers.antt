use Rattle.std.proofs.Common.{◌∙◌}
use Rattle.std.proofs.lemmas.Iterator.Consumers.{count_from_yields_List}
use Rattle.std.proofs.lemmas.List.Sums.{length-filter}
use Rattle.automaton.proofs.Chains.{successors_yield}
use Rattle.census.proofs.counting.count_by.Goals as goal

pub returns-clause-is : goal.returns-clause-is
returns-clause-is g c =
    let A = g.A.Automaton.meaning c.args.automaton.now in
    count_from_yields_List c.successors.result _ c.count.ensures.ran (successors_yield g.A.Automaton.meaning A c.args.s c.args.letter c.successors.result c.successors.ensures)
    ∙ length-filter (A.step c.args.s c.args.letter) _
