-- A turn of the loop over the successors of a state by a letter: the ranks have risen, and if none changed then each successor so far asks nothing more.
use Rattle.std.proofs.Common.{◌≡◌, ℕ, ◌+◌, Bool, ◌||◌, T, List, length, Some, subst}
use Rattle.omega.specs.Automata.{Meaning, Sound, Lowest}
use Rattle.omega.proofs.Successors.{lowest_seen_more}
use Rattle.relaxing.specs.Rounds.{Inside, StepMet, Relaxed, Swept}
use Rattle.relaxing.proofs.Raising.{relaxed_risen, relaxed_met}
use Rattle.relaxing.proofs.Sweeping.{swept_more}

module _ (A : Meaning) (sound : Sound A) (before middle after : List ℕ) (changed : Bool) (s a from t : ℕ) (good : Bool)
    (is-good : good ≡ A.good s) (inside : Inside before s) (lowest : Lowest (A.step s a) from (Some t)) where
  -- the step to a successor, if it is one, asks nothing more
  abbrev Visited : List ℕ → ℕ → Type 0
  Visited ranks t = T (A.step s a t) → StepMet A ranks s t

  module _ (swept : Swept A Visited before middle changed from) where
    now_inside : Inside middle s
    now_inside = swept.0.inside s inside

    told : (r : Bool) → Relaxed (length middle) good s t middle after r → Relaxed A.states (A.good s) s t middle after r
    told r relaxed =
        subst (λ n. Relaxed n (A.good s) s t middle after r) swept.0.forced.long (subst (λ b. Relaxed (length middle) b s t middle after r) is-good relaxed)

    pub visited : (r : Bool) → Relaxed (length middle) good s t middle after r → Swept A Visited before after (changed || r) (t + 1)
    visited r relaxed =
        let here = told r relaxed in
        swept_more A Visited before middle after changed from (t + 1) r swept
        (relaxed_risen A sound s a t lowest.1 middle swept.0.forced now_inside after r here)
        (λ kept seen.
        lowest_seen_more (A.step s a) (StepMet A after s) from seen t lowest
        (relaxed_met A sound s a t lowest.1 middle swept.0.forced now_inside after r here kept))
