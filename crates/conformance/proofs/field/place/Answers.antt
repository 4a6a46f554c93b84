use Rattle.std.proofs.Common.{◌==◌, length, rules, tests, ◌∙◌}
use Rattle.std.proofs.lemmas.Iterator.{YieldsList-from_slice}
use Rattle.std.proofs.lemmas.Iterator.Search.{position_from_yields_List}
use Rattle.std.proofs.lemmas.List.Sums.{prefix_len-le-length}
use Rattle.conformance.proofs.Placing.{place_or_end}
use Rattle.conformance.proofs.field.place.Goals as goal

pub returns-clause-is : goal.returns-clause-is
returns-clause-is c =
    c.unwrap_or.ensures ∙ place_or_end c.position.result _ (length c.args.bytes.now) (prefix_len-le-length _ c.args.bytes.now)
    (position_from_yields_List (λ x. x == c.args.b) _ _ _ c.position.ensures.ran (YieldsList-from_slice c.args.bytes.now cc) (λ x b q k. search (rules, tests)))
