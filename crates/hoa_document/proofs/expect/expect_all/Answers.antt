-- The tokens that are due come one by one.
use Rattle.std.proofs.Common.{◌+◌, map, drop}
use Rattle.hoa_tokens.proofs.Returning.{passes_error}
use Rattle.hoa_tokens.specs.declared.token.Token.TheVariants.{End}
use Rattle.hoa_tokens.specs.Scanning.{lexeme}
use Rattle.hoa_document.proofs.Leading.{stands_there}
use Rattle.hoa_document.proofs.Dues.{due_at, others_fixed}
use Rattle.hoa_document.proofs.expect.expect_all.Goals as goal

pub returns-in_err-head : goal.returns-in_err-head
returns-in_err-head c k r =
    rw (passes_error _ c.from_residual.ensures.1) (c.in_err-head.ensures _ k (stands_there (due_at c.args.tokens.now c.loop-token.token-index (c.loop-token.invariant.1 k r) _ c.loop-token-test.true)))

pub loop-token-preserved : goal.loop-token-preserved
loop-token-preserved c = (
  others_fixed c.args.tokens.now c.loop-token.token-index c.loop-token.invariant.0 End c.loop-token-test.true,
  λ k r.
      c.in_ok-head.ensures (map lexeme (drop (c.loop-token.token-index + 1) c.args.tokens.now)) k (stands_there (due_at c.args.tokens.now c.loop-token.token-index (c.loop-token.invariant.1 k r) _ c.loop-token-test.true)),
)
