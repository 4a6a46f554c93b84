use Rattle.hoa_tokens.specs.Scanning.{found, Scanned}
use Rattle.hoa_tokens.proofs.Once.{scanned_ahead}
use Rattle.hoa_tokens.proofs.scan.scan_from.Goals as goal

pub returns : goal.returns
returns c =
    let text = c.args.text.now in
    let x = found c.token_at.result in
    let s : Scanned text c.args.from x = record { place = c.run_end-place.result; blanks = c.run_end-place.ensures; stands = c.token_at.ensures } in
    record { scanned = s; ahead = scanned_ahead text c.args.from x s }
