-- Each turn reads one block more, of a state that is new, or refuses the text.
use Rattle.std.proofs.Common.{Ok, Err, arith}
use Rattle.hoa_tokens.proofs.Returning.{passes_error}
use Rattle.hoa_document.proofs.Drafts.{described_in, described_rises}
use Rattle.hoa_document.proofs.Blocks.{block_begins, blocks_more}
use Rattle.hoa_document.proofs.body.read_blocks.Goals as goal

pub returns-in_err-behind : goal.returns-in_err-behind
returns-in_err-behind c =
    let i = c.loop-signals.invariant.1 in
    let is = c.is_token.ensures.0 c.loop-signals-test.true in
    rw (passes_error _ c.from_residual.ensures.1) (block_begins i.header i.rows i.stands is (Err _) c.in_err-behind.ensures.scanned)

pub returns-in_err-from : goal.returns-in_err-from
returns-in_err-from c =
    let i = c.loop-signals.invariant.1 in
    let is = c.is_token.ensures.0 c.loop-signals-test.true in
    let state = block_begins i.header i.rows i.stands is (Ok c.in_ok-behind.behind) c.in_ok-behind.ensures.scanned in
    rw (passes_error _ c.from_residual-in_err-from.ensures.1) (c.in_err-from.ensures.read i.header i.rows i.sized.0 i.described state)

pub returns-in_err-edges : goal.returns-in_err-edges
returns-in_err-edges c =
    let i = c.loop-signals.invariant.1 in
    let is = c.is_token.ensures.0 c.loop-signals-test.true in
    let state = block_begins i.header i.rows i.stands is (Ok c.in_ok-behind.behind) c.in_ok-behind.ensures.scanned in
    let good = c.in_ok-from.ensures.read i.header i.rows i.sized.0 i.described state in
    rw (passes_error _ c.from_residual-in_err-edges.ensures.1) (c.in_err-edges.ensures i.header i.rows i.drafted (omega (arith, i.sized, c.in_ok-from.ensures.fresh)) good)

pub read_edges-requires : goal.read_edges-requires
read_edges-requires c =
    let i = c.loop-signals.invariant.1 in
    let is = c.is_token.ensures.0 c.loop-signals-test.true in
    let state = block_begins i.header i.rows i.stands is (Ok c.in_ok-behind.behind) c.in_ok-behind.ensures.scanned in
    let good = c.in_ok-from.ensures.read i.header i.rows i.sized.0 i.described state in
    let b = c.in_ok-edges.ensures i.header i.rows i.drafted (omega (arith, i.sized, c.in_ok-from.ensures.fresh)) good in
    record { below = c.in_ok-from.ensures.fresh.0; block = record { header = i.header; before = i.rows; block = b.0; sized = i.sized; within = b.1 } }

pub returns-in_err-head : goal.returns-in_err-head
returns-in_err-head c =
    let i = c.loop-signals.invariant.1 in
    let is = c.is_token.ensures.0 c.loop-signals-test.true in
    let state = block_begins i.header i.rows i.stands is (Ok c.in_ok-behind.behind) c.in_ok-behind.ensures.scanned in
    let good = c.in_ok-from.ensures.read i.header i.rows i.sized.0 i.described state in
    let b = c.in_ok-edges.ensures i.header i.rows i.drafted (omega (arith, i.sized, c.in_ok-from.ensures.fresh)) good in
    rw (passes_error _ c.from_residual-in_err-head.ensures.1) (c.in_err-head.ensures i.header i.rows b.0 i.sized b.1)

pub loop-signals-smaller : goal.loop-signals-smaller
loop-signals-smaller c =
    omega (arith, c.with_described-described.ensures, c.loop-signals.invariant.0, described_rises c.loop-signals.described c.in_ok-from.from.value (omega (arith, c.requires.few, c.in_ok-from.ensures.fresh)) c.in_ok-from.ensures.fresh.1)

pub loop-signals-preserved : goal.loop-signals-preserved
loop-signals-preserved c =
    let i = c.loop-signals.invariant.1 in
    let is = c.is_token.ensures.0 c.loop-signals-test.true in
    let state = block_begins i.header i.rows i.stands is (Ok c.in_ok-behind.behind) c.in_ok-behind.ensures.scanned in
    let good = c.in_ok-from.ensures.read i.header i.rows i.sized.0 i.described state in
    let b = c.in_ok-edges.ensures i.header i.rows i.drafted (omega (arith, i.sized, c.in_ok-from.ensures.fresh)) good in
    rw c.with_described-described.ensures (
      described_in c.loop-signals.described c.in_ok-from.from.value (omega (arith, c.requires.few, c.in_ok-from.ensures.fresh)) c.loop-signals.invariant.0,
      blocks_more c.args.header.now.value.states c.args.signals.count c.loop-signals.described c.in_ok-from.from.value i.header i.rows _ c.in_ok-head.head (omega (arith, c.requires.few, c.in_ok-from.ensures.fresh)) i.sized i.named i.described (c.in_ok-head.ensures i.header i.rows b.0 i.sized b.1),
    )
