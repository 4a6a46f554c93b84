-- The pair is that of the two.
use Rattle.sheet.proofs.Shared.{answers_right, shared_worth}
use Rattle.sheet.proofs.rechecking.recheck_pair.Goals as goal

pub returns : goal.returns
returns g c =
    let paired = c.in_ok-pair.ensures in
    record {
      right = answers_right paired c.args.strip.now c.recheck.result c.recheck.ensures.evidence;
      worth = λ told. shared_worth paired c.args.strip.now (c.recheck.ensures.worth told);
    }
