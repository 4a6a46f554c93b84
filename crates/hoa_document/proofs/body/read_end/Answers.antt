-- `--END--` and then the text's end are read, or the text is refused.
use Rattle.std.proofs.lemmas.Bool.Decides.{not_from_Decides}
use Rattle.hoa_tokens.proofs.Returning.{passes_error}
use Rattle.hoa_document.proofs.Blocks.{blocks_over, text_ends, text_goes_on}
use Rattle.hoa_document.proofs.body.read_end.Goals as goal

pub returns-in_err-last : goal.returns-in_err-last
returns-in_err-last c =
    rw (passes_error _ c.from_residual.ensures.1) (λ h rows st. c.in_err-last.ensures _ _ (blocks_over h rows c.requires st))

pub returns-then-not-is_token : goal.returns-then-not-is_token
returns-then-not-is_token c h rows st =
    let other = not_from_Decides _ c.is_token.ensures c.if-not-is_token.true in
    rw c.at.ensures (text_goes_on (record { header = h; blocks = rows }) (c.in_ok-last.ensures _ _ (blocks_over h rows c.requires st)) other)

pub returns : goal.returns
returns c h rows st =
    text_ends (record { header = h; blocks = rows }) (c.in_ok-last.ensures _ _ (blocks_over h rows c.requires st)) (c.is_token.ensures.0 c.if-not-is_token.false)
