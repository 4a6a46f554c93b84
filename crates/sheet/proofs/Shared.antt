-- What is true of a pair is true of what both of its parts accept.
use Rattle.std.proofs.Common.{ℕ, Bool, T, ◌↔◌, List, Ok, subst}
use Rattle.omega.specs.Automata.{Meaning}
use Rattle.automaton.specs.Parts.{Paired}
use Rattle.evidence.specs.Strips.{Evidence, Worth}
use Rattle.sheet.specs.Rechecks.{RightRecheck, SharedWorth}

module _ {S R M : Meaning} (paired : Paired S R M) (strip : List ℕ) where
  pub answers_right : (told : Bool) → (T told ↔ Evidence M strip) → RightRecheck S R strip (Ok told)
  answers_right told evidence = (paired.fit, subst (λ N. T told ↔ Evidence N strip) paired.means evidence)

  pub shared_worth : Worth M strip → SharedWorth S R strip
  shared_worth worth = record {
    lasso = λ told.
        let (w, accepted) = worth.lasso told in
        let both = (paired.accepts w).0 accepted in
        (w, both.0, both.1);
    ranking = λ told shared. worth.ranking told (shared.0, (paired.accepts shared.0).1 (shared.1, shared.2));
  }
