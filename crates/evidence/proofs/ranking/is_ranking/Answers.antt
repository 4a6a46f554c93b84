use Rattle.std.proofs.Common.{◌≡◌, ◌+◌, ◌≤◌, length, T, ◌↔◌, ◌∙◌, rules, arith}
use Rattle.evidence.specs.Strips.{TellsRanking, word_at}
use Rattle.evidence.proofs.Ranks.{part_ranking}
use Rattle.evidence.proofs.Worths.{told_ranking_refutes}
use Rattle.evidence.proofs.ranking.is_ranking.Goals as goal

pub returns : goal.returns
returns g c =
    let A = g.A.Automaton.meaning c.args.automaton.now in
    let strip = c.args.strip.now in
    let n = c.states-n.result in
    let count = c.states-n.ensures.is in
    let second : word_at strip 1 ≡ n = search rules in
    let third : word_at strip 2 ≡ 0 = search rules in
    let long : 3 + n ≤ length strip = search rules in
    let ranking = part_ranking A (g.A.Automaton.sound c.args.automaton.now) strip n count long in
    let tells : T c.are_ranked.result ↔ TellsRanking A strip = (
      λ yes.
          record {
            verdict = c.requires;
            states = second ∙ count;
            zero = third;
            long = omega arith;
            ranking = ranking.0 (c.are_ranked.ensures.0 yes);
          },
      λ told. c.are_ranked.ensures.1 (ranking.1 told.ranking),
    ) in
    record { tells = tells; worth = λ yes. told_ranking_refutes A strip (tells.0 yes) }
