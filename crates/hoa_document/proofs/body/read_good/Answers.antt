-- What follows the brace of `{0}` is read or the text is refused; behind it the state is good.
use Rattle.std.proofs.Common.{true, Ok, Err}
use Rattle.std.proofs.lemmas.Bool.Decides.{not_from_Decides}
use Rattle.hoa_tokens.proofs.Returning.{passes_error}
use Rattle.hoa_grammar.specs.Machine.{edges, opened}
use Rattle.hoa_document.proofs.Blocks.{block_plain, brace_opens, block_good}
use Rattle.hoa_document.proofs.body.read_good.Goals as goal

pub returns-then-not-is_token : goal.returns-then-not-is_token
returns-then-not-is_token c h bs drafted inside r =
    let other = not_from_Decides _ c.is_token.ensures c.if-not-is_token.true in
    block_plain h bs c.args.from r c.args.draft.now drafted other

pub returns-in_err-zero : goal.returns-in_err-zero
returns-in_err-zero c =
    let is = c.is_token.ensures.0 c.if-not-is_token.false in
    rw (passes_error _ c.from_residual.ensures.1) (λ h bs drafted inside r. brace_opens h bs c.args.from r is (Err _) c.in_err-zero.ensures.scanned)

pub returns-in_err-behind : goal.returns-in_err-behind
returns-in_err-behind c =
    let is = c.is_token.ensures.0 c.if-not-is_token.false in
    rw (passes_error _ c.from_residual-in_err-behind.ensures.1)
    (λ h bs drafted inside r.
    let zero = brace_opens h bs c.args.from r is (Ok c.in_ok-zero.zero) c.in_ok-zero.ensures.scanned in
    c.in_err-behind.ensures (edges (opened h bs c.args.from true)) zero)

pub returns : goal.returns
returns c h bs drafted inside r =
    let is = c.is_token.ensures.0 c.if-not-is_token.false in
    let zero = brace_opens h bs c.args.from r is (Ok c.in_ok-zero.zero) c.in_ok-zero.ensures.scanned in
    block_good h bs c.args.from (c.in_ok-behind.ensures (edges (opened h bs c.args.from true)) zero) c.args.draft.now c.add_good.new.self inside drafted c.add_good.ensures.good c.add_good.ensures.same c.add_good.ensures.cells
