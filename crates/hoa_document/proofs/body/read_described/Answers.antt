-- The number in hand is a state that no block describes yet, or the text is refused.
use Rattle.std.proofs.Common.{rules}
use Rattle.hoa_grammar.specs.Documents.{block_limit}
use Rattle.hoa_document.proofs.Blocks.{described_limit, state_read}
use Rattle.hoa_document.proofs.body.read_described.Goals as goal

pub returns-clause-read : goal.returns-clause-read
returns-clause-read c h bs states described r =
    state_read h bs c.args.states c.args.head states r c.read_number.result
    (c.read_number.ensures.read (block_limit c.args.states bs) (λ n q p. described_limit c.args.states bs c.args.described n described q (search rules)))
