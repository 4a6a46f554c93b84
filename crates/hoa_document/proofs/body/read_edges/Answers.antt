-- Each turn reads one edge more of the block in hand, or refuses the text; no edge begins where the loop ends.
use Rattle.std.proofs.Common.{Ok, Err}
use Rattle.hoa_tokens.proofs.Returning.{passes_error}
use Rattle.hoa_document.specs.Drafting.{current}
use Rattle.hoa_document.proofs.Advance.{edge_advances}
use Rattle.hoa_document.proofs.Edges.{target_read, edge_read, block_ends}
use Rattle.hoa_document.proofs.body.read_edges.Goals as goal

pub returns-in_err-letters : goal.returns-in_err-letters
returns-in_err-letters c =
    rw (passes_error _ c.from_residual.ensures.1)
    (λ h bs b sized i.
    let w = c.loop-signals.invariant h bs b sized i in
    c.in_err-letters.ensures (current h bs w.0) sized.1 w.1.stands)

pub returns-in_err-to : goal.returns-in_err-to
returns-in_err-to c =
    rw (passes_error _ c.from_residual-in_err-to.ensures.1)
    (λ h bs b sized i.
    let w = c.loop-signals.invariant h bs b sized i in
    let l = c.in_ok-letters.ensures (current h bs w.0) sized.1 w.1.stands in
    target_read (current h bs w.0) c.args.states c.args.signals.count _ sized.0 l (Err _) c.in_err-to.ensures.read)

pub loop-signals-smaller : goal.loop-signals-smaller
loop-signals-smaller c =
    let k = c.requires.block in
    let w = c.loop-signals.invariant k.header k.before k.block k.sized k.within in
    let l = c.in_ok-letters.ensures (current k.header k.before w.0) k.sized.1 w.1.stands in
    let r = target_read (current k.header k.before w.0) c.args.states c.args.signals.count _ k.sized.0 l (Ok c.in_ok-to.to) c.in_ok-to.ensures.read in
    edge_advances (current k.header k.before w.0) l.letters c.in_ok-to.to.value (c.begins_edge.ensures.is c.loop-signals-test.true) w.1.stands r

pub loop-signals-preserved : goal.loop-signals-preserved
loop-signals-preserved c h bs b sized i =
    let w = c.loop-signals.invariant h bs b sized i in
    let l = c.in_ok-letters.ensures (current h bs w.0) sized.1 w.1.stands in
    let r = target_read (current h bs w.0) c.args.states c.args.signals.count _ sized.0 l (Ok c.in_ok-to.to) c.in_ok-to.ensures.read in
    edge_read h bs w.0 c.args.states c.args.signals.count c.args.from c.loop-signals.draft c.add_steps.new.self c.loop-signals.head _ c.in_ok-to.to.value c.in_ok-to.to.head sized c.requires.below c.in_ok-to.ensures.below w.1 l r c.add_steps.ensures.steps c.add_steps.ensures.frame

pub returns : goal.returns
returns c h bs b sized i =
    let w = c.loop-signals.invariant h bs b sized i in
    block_ends h bs w.0 c.args.from c.loop-signals.draft c.loop-signals.head (c.begins_edge.ensures.other c.loop-signals-test.false) w.1
