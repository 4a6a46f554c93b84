-- The blocks are read into a draft that holds the header, and the text ends behind them.
use Rattle.std.proofs.Common.{sym, refl, ◌∙◌}
use Rattle.std.proofs.lemmas.Option.{MatchOption-at_some}
use Rattle.hoa_tokens.proofs.Returning.{passes_error}
use Rattle.hoa_grammar.specs.Rows.{none}
use Rattle.hoa_grammar.specs.Machine.{header_of}
use Rattle.hoa_document.specs.Naming.{row_of}
use Rattle.hoa_document.proofs.Leading.{stands_there}
use Rattle.hoa_document.proofs.HeldNames.{size_first}
use Rattle.hoa_document.proofs.Drafts.{drafted_empty, described_none}
use Rattle.hoa_document.proofs.body.read_body.Goals as goal

pub read_blocks-requires : goal.read_blocks-requires
read_blocks-requires c =
    let x = c.args.header.now.value in
    let header = header_of x.states c.requires.row (row_of x.names) c.requires.told in
    let size = size_first x.names.list x.names.count in
    let counted = MatchOption-at_some _ _ c.unwrap-signals.result c.unwrap-signals.ensures c.new.ensures in
    let made = MatchOption-at_some _ _ c.unwrap-draft.result c.unwrap-draft.ensures c.new-2.ensures in
    record {
      few = c.requires.few;
      none = record {
        header = header;
        rows = none;
        sized = (refl, size ∙ sym counted);
        named = refl;
        drafted = drafted_empty header x.starts c.unwrap-draft.result c.add_starts.new.self made.0 (made.1 ∙ sym size) made.2 made.3 made.4 c.add_starts.ensures.starts c.add_starts.ensures.same c.add_starts.ensures.cells c.requires.started c.requires.within;
        described = described_none;
        stands = stands_there c.requires.reached;
      };
    }

pub returns-in_err-read_end : goal.returns-in_err-read_end
returns-in_err-read_end c =
    let b = c.in_ok-head.ensures.1.1 in
    rw (passes_error _ c.from_residual-in_err-read_end.ensures.1) (c.in_err-read_end.ensures b.header b.rows b.stands)

pub returns : goal.returns
returns c =
    let b = c.in_ok-head.ensures.1.1 in
    (record { header = b.header; blocks = b.rows }, c.in_ok-read_end.ensures b.header b.rows b.stands, b.drafted, b.named)
