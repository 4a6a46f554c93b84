-- The table's frame and first cells are the draft's.
use Rattle.std.proofs.lemmas.Result.{MatchResult-weaker}
use Rattle.hoa_text.proofs.Filled.{both_told, table_denotes, cells_set}
use Rattle.hoa_text.proofs.reading.write.Goals as goal

pub returns : goal.returns
returns c =
    let draft = c.args.draft.now in
    let table = c.fill.new.self in
    let told = both_told c.fill.result _ _ _ _ c.fill.ensures.cells c.fill.ensures.frame in
    record {
      denotes = MatchResult-weaker c.fill.result told (λ _ filled. table_denotes draft table.frame table.cells.now filled.1 filled.0.1) (λ _ short. (short.0.0, short.0.1));
      cells = MatchResult-weaker c.fill.result told (λ _ filled. cells_set draft table.frame table.cells.now filled.1 filled.0.1 c.args.table.now.cells.now filled.0.2) (λ _ short. short.0.2);
      kept = MatchResult-weaker c.fill.result told (λ _ _. tt) (λ _ short. short.1);
      lender = c.fill.ensures.lender;
    }
