-- What the body says is what the text says.
use Rattle.std.proofs.lemmas.Result.{MatchResult-weaker}
use Rattle.hoa_tokens.proofs.Returning.{passes_error}
use Rattle.hoa_document.proofs.Meant.{refused_here, writes_here, draft_denotes}
use Rattle.hoa_document.proofs.OneReading.{says_one}
use Rattle.hoa_document.proofs.document.read_draft.Goals as goal

pub returns-in_err-begun : goal.returns-in_err-begun
returns-in_err-begun c =
    record { draft = rw (passes_error _ c.from_residual.ensures.1) c.in_err-begun.ensures; one = says_one c.args.bytes.now }

pub returns : goal.returns
returns c =
    let begun = c.in_ok-begun.ensures in
    record {
      draft = MatchResult-weaker c.read_body.result c.read_body.ensures (λ x p. (p.0, writes_here begun.0 begun.1 p.0 p.1, draft_denotes x p.0 p.2)) (refused_here begun.0 begun.1);
      one = says_one c.args.bytes.now;
    }
