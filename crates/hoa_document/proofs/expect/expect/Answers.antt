-- The token that is due is in hand, or the text is refused.
use Rattle.std.proofs.lemmas.Bool.Decides.{not_from_Decides}
use Rattle.hoa_document.proofs.Dues.{due_here, due_missing}
use Rattle.hoa_document.proofs.expect.expect.Goals as goal

pub returns-then-not-is_token : goal.returns-then-not-is_token
returns-then-not-is_token c ws k st =
    rw c.at.ensures (due_missing st (not_from_Decides _ c.is_token.ensures c.if-not-is_token.true))

pub returns : goal.returns
returns c ws k st =
    due_here st c.requires (c.is_token.ensures.0 c.if-not-is_token.false) c.scan.result c.scan.ensures.scanned
