use Rattle.std.proofs.Common.{◌≡◌, ◌∙◌, subst, arith, rules}
use borrow.Author.Tests.{tests}
use Rattle.std.proofs.lemmas.Iterator.{YieldsList-from_range}
use Rattle.std.proofs.lemmas.Iterator.Consumers.{count_from_yields_List, YieldsList-from_filter, YieldsList-at}
use Rattle.std.proofs.lemmas.List.Sums.{length-filter}
use Rattle.census.specs.Counts.{tally}
use Rattle.census.proofs.counting.count_states.Goals as goal

pub returns-clause-starts : goal.returns-clause-starts
returns-clause-starts g c =
    let A = g.A.Automaton.meaning c.args.automaton.now in
    let n = c.states-states.result in
    subst (λ m. c.count-starts.result ≡ tally A.start m) c.states-states.ensures.is
    (count_from_yields_List c.filter.result _ c.count-starts.ensures.ran (YieldsList-from_filter _ A.start (YieldsList-at c.filter.ensures.source (YieldsList-from_range 0 n n (cc) (omega arith))) c.filter.ensures.closure (λ x b q k. search (rules, tests))) ∙ length-filter A.start _)
