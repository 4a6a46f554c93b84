-- The acceptance is named and then due, or due at once.
use Rattle.std.proofs.Common.{true, false, Ok, Err}
use Rattle.std.proofs.lemmas.Result.{MatchResult-weaker}
use Rattle.std.proofs.lemmas.Bool.Decides.{not_from_Decides}
use Rattle.hoa_tokens.proofs.Returning.{passes_error}
use Rattle.hoa_grammar.specs.Rows.{none}
use Rattle.hoa_grammar.specs.Machine.{blocks, header_of}
use Rattle.hoa_document.proofs.Leading.{stands_there}
use Rattle.hoa_document.proofs.Slots.{names_over, acceptance_named}
use Rattle.hoa_document.proofs.header.read_acceptance.Goals as goal

pub returns-in_err-head : goal.returns-in_err-head
returns-in_err-head c n row ws r =
    let is = c.is_token.ensures.0 c.if-is_token.true in
    rw (passes_error _ c.from_residual.ensures.1) (acceptance_named is r (Err _) c.in_err-head.ensures.scanned)

pub returns-in_err-head-2 : goal.returns-in_err-head-2
returns-in_err-head-2 c n row ws r =
    let is = c.is_token.ensures.0 c.if-is_token.true in
    let named = acceptance_named is r (Ok c.in_ok-head.head) c.in_ok-head.ensures.scanned in
    rw (passes_error _ c.from_residual-in_err-head-2.ensures.1) (c.in_err-head-2.ensures _ _ (stands_there named))

pub returns-then-is_token : goal.returns-then-is_token
returns-then-is_token c n row ws r =
    let is = c.is_token.ensures.0 c.if-is_token.true in
    let named = acceptance_named is r (Ok c.in_ok-head.head) c.in_ok-head.ensures.scanned in
    let told = c.in_ok-head-2.ensures _ _ (stands_there named) in
    MatchResult-weaker c.read_condition.result (c.read_condition.ensures (blocks (header_of n row ws true) none) (stands_there told)) (λ h p. (true, p)) (λ f p. p)

pub returns : goal.returns
returns c n row ws r =
    let other = not_from_Decides _ c.is_token.ensures c.if-is_token.false in
    MatchResult-weaker c.read_condition-2.result (c.read_condition-2.ensures (blocks (header_of n row ws false) none) (names_over other r)) (λ h p. (false, p)) (λ f p. p)
