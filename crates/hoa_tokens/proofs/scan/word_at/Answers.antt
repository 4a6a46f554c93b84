use Rattle.hoa_tokens.specs.Items.{word}
use Rattle.hoa_tokens.specs.Scanning.{Stands}
use Rattle.hoa_tokens.proofs.Longest.{word_longest}
use Rattle.hoa_tokens.proofs.scan.word_at.Goals as goal

pub returns : goal.returns
returns c =
    Stands.item word c.past_colon-next.result
    (word_longest c.args.text.now c.args.place c.run_end.result c.past_colon-next.result c.requires.begins c.run_end.ensures c.past_colon-next.ensures)
