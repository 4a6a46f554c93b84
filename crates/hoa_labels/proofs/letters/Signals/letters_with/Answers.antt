-- Of the letters of four signals, those of fewer signals are kept.
use Rattle.std.proofs.Common.{true, sym, subst}
use Rattle.hoa_grammar.specs.Documents.{most_signals}
use Rattle.hoa_grammar.specs.Labels.{on}
use Rattle.hoa_labels.specs.Letters.{Means}
use Rattle.hoa_labels.proofs.Sets.{means_set, means_and}
use Rattle.hoa_labels.proofs.letters.Signals.letters_with.Goals as goal

pub returns : goal.returns
returns c =
    let with = on c.args.signal in
    subst (Means c.args.self.count with) (sym c.both.ensures) (means_and c.args.self.count c.all_letters.result c.with_on.result (λ a. true) with c.all_letters.ensures most_signals c.args.self.few (subst (Means most_signals with) (sym c.with_on.ensures) (means_set most_signals with)))
