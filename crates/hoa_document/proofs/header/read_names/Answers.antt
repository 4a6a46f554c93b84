-- Each name that is read is held behind the others, and the next one is compared with them.
use Rattle.std.proofs.Common.{◌≡◌, ◌-◌, Ok, Err, sym, ◌∙◌, arith}
use Rattle.hoa_tokens.proofs.Returning.{passes_error}
use Rattle.hoa_document.proofs.HeldNames.{no_name, name_repeated, name_read}
use Rattle.hoa_document.proofs.header.read_names.Goals as goal

pub loop-init : goal.loop-init
loop-init c =
    let all : c.args.signals - 0 ≡ c.args.signals = omega arith in
    (c.new-names.ensures.count, λ n row r. rw (c.new-names.ensures.names, all) r)

pub returns-in_default : goal.returns-in_default
returns-in_default c n row r =
    rw c.at.ensures (no_name c.loop.counter c.args.signals c.loop-test.true (c.loop.invariant.1 n row r) c.in_default.not-Name)

pub returns-then-contains : goal.returns-then-contains
returns-then-contains c n row r =
    rw c.at-then-contains.ensures (name_repeated c.loop.counter c.args.signals c.loop-test.true (c.loop.invariant.1 n row r) c.in-Name.name c.in-Name.is (sym c.contains.ensures ∙ c.if-contains.true))

pub returns-in_err-head : goal.returns-in_err-head
returns-in_err-head c n row r =
    rw (passes_error _ c.from_residual.ensures.1) (name_read c.loop.counter c.args.signals c.loop-test.true (c.loop.invariant.1 n row r) c.in-Name.name c.in-Name.is (sym c.contains.ensures ∙ c.if-contains.false) (Err _) c.in_err-head.ensures.scanned)

pub loop-preserved : goal.loop-preserved
loop-preserved c = (
  omega (arith, c.push.ensures.count, c.loop.invariant.0),
  λ n row r.
      rw c.push.ensures.names (name_read c.loop.counter c.args.signals c.loop-test.true (c.loop.invariant.1 n row r) c.in-Name.name c.in-Name.is (sym c.contains.ensures ∙ c.if-contains.false) (Ok c.in_ok-head.head) c.in_ok-head.ensures.scanned),
)

pub returns : goal.returns
returns c n row r =
    let left : c.args.signals - c.loop.counter ≡ 0 = omega arith in
    (omega (arith, c.loop.invariant.0), rw left at (c.loop.invariant.1 n row r))
