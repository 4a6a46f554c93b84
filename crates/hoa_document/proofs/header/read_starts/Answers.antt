-- Each `Start:` adds a state to the set, and the token behind it is further ahead.
use Rattle.std.proofs.Common.{Ok, Err}
use Rattle.hoa_tokens.proofs.Returning.{passes_error}
use Rattle.hoa_document.proofs.Starts.{start_due, start_read, one_start_more}
use Rattle.hoa_document.proofs.header.read_starts.Goals as goal

pub returns-in_err-behind : goal.returns-in_err-behind
returns-in_err-behind c =
    let is = c.is_token.ensures.0 c.loop-text-test.true in
    rw (passes_error _ c.from_residual.ensures.1) (start_due c.loop-text.invariant is (Err _) c.in_err-behind.ensures.scanned)

pub returns-in_err-start : goal.returns-in_err-start
returns-in_err-start c =
    let is = c.is_token.ensures.0 c.loop-text-test.true in
    rw (passes_error _ c.from_residual-in_err-start.ensures.1) (start_read c.loop-text.invariant is c.in_ok-behind.behind c.in_ok-behind.ensures.scanned (Err _) c.in_err-start.ensures.read)

pub loop-text-preserved : goal.loop-text-preserved
loop-text-preserved c =
    let is = c.is_token.ensures.0 c.loop-text-test.true in
    one_start_more c.loop-text.invariant c.in_ok-start.start c.requires.few c.in_ok-start.ensures.below (start_read c.loop-text.invariant is c.in_ok-behind.behind c.in_ok-behind.ensures.scanned (Ok c.in_ok-start.start) c.in_ok-start.ensures.read)
