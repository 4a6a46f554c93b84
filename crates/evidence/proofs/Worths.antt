-- What a told lasso and a told ranking are worth, by the laws of words.
use Rattle.std.proofs.Common.{ℕ, List}
use Rattle.omega.specs.Automata.{Meaning}
use Rattle.omega.specs.Words.{SomeWord}
use Rattle.omega.proofs.Looping.{lasso_shows_word_lem}
use Rattle.omega.proofs.Refuting.{ranking_refutes_lem}
use Rattle.evidence.specs.Strips.{TellsLasso, TellsRanking, stem_of, loop_of, state_at, letter_at, inside_at, rank_at}

pub told_lasso_shows_word : (A : Meaning) (strip : List ℕ) → TellsLasso A strip → SomeWord A
told_lasso_shows_word A strip told =
    lasso_shows_word_lem A (stem_of strip, loop_of strip, state_at strip, letter_at strip, told.lasso)

pub told_ranking_refutes : (A : Meaning) (strip : List ℕ) → TellsRanking A strip → SomeWord A → ⊥
told_ranking_refutes A strip told = ranking_refutes_lem A (inside_at A.states strip) (rank_at strip) told.ranking
