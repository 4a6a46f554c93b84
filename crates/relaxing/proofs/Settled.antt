-- Ranks that no step asks to raise make the least ranking, unless one of them is above the number of states, which shows a lasso.
use Rattle.std.proofs.Common.{◌≡◌, ℕ, ◌<◌, ◌≤◌, Bool, true, false, T, ◌≢◌, List, length, get_or, sym, refl, ◌∙◌, subst, arith}
use Rattle.omega.specs.Automata.{Meaning, Sound}
use Rattle.omega.specs.Lassos.{SomeLasso}
use Rattle.omega.specs.Rankings.{Least}
use Rattle.omega.proofs.Climbs.{climb_bound, climbed-least}
use Rattle.evidence.specs.Strips.{rank_at, inside_at, outside}
use Rattle.evidence.specs.Asking.{Allowed, Ranked}
use Rattle.evidence.proofs.Ranks.{inside_ranked, ranked_ranking}
use Rattle.relaxing.specs.Rounds.{Earned, Forced, rank_at_first, Met, MetFrom, TooHigh, AllLow}

-- a rank above the number of states shows a lasso
pub too_high_lasso : (A : Meaning) → Sound A → (ranks : List ℕ) → Forced A ranks → TooHigh A.states ranks → SomeLasso A
too_high_lasso A sound ranks forced (s, inside, high) =
    let earned = forced.earned s inside in climb_bound A sound s (get_or ranks s 0) earned.reachable earned.climbs high

met_allowed : (n from to : ℕ) (good : Bool) → to ≤ n → Met n good from to → Allowed good from to
met_allowed n from to true low (there, met) = (there, omega (arith, met low), λ _. omega (arith, met low))
met_allowed n from to false low (there, met) = (there, omega (arith, met low), λ h. absurd h)

-- the first ranks are earned
pub first-forced :
    (A : Meaning) → Sound A → (ranks : List ℕ) → length ranks ≡ A.states →
    ((s : ℕ) → s < length ranks → get_or ranks s 0 ≡ rank_at_first (A.start s)) → Forced A ranks
first-forced A sound ranks long first =
    record {
      long = long;
      starts = λ s start.
          let below : s < length ranks = omega (arith, sound.starts s start) in
          (below, λ out. start_number (A.start s) start (sym (first s below) ∙ out));
      earned = λ s (below, there). rw (first s below) (own s (A.start s) (λ h. h) (λ out. there (first s below ∙ out)));
    }
  where
    start_number : (b : Bool) → T b → rank_at_first b ≢ outside
    start_number true h e = omega arith
    start_number false h e = absurd h

    own : (s : ℕ) (b : Bool) → (T b → T (A.start s)) → rank_at_first b ≢ outside → Earned A (rank_at_first b) s
    own s true start there = record { reachable = (s, 0, start tt, refl); climbs = tt; low = omega arith }
    own s false start there = absurd (there refl)

module _ (A : Meaning) (sound : Sound A) (ranks : List ℕ) (forced : Forced A ranks) (low : AllLow A.states ranks) (met : (s : ℕ) → MetFrom A ranks s) where
  settled_ranked : (s : ℕ) → s < A.states → Ranked A ranks s
  settled_ranked s below =
      let here : s < length ranks = omega (arith, forced.long) in
      record {
        small = λ there. omega (arith, low s (here, there), sound.few);
        starts = λ start. (forced.starts s start).1;
        allowed = λ there a t step.
            let asks = met s (here, there) a t step in
            let b : t < length ranks = omega (arith, sound.enters s a t step, forced.long) in
            met_allowed A.states (get_or ranks s 0) (get_or ranks t 0) (A.good s) (low t (b, asks.0)) asks;
      }

  -- a strip that holds the ranks has the least ranking
  pub settled_least : (strip : List ℕ) → ((s : ℕ) → s < A.states → get_or ranks s 0 ≡ rank_at strip s) → Least A (inside_at A.states strip) (rank_at strip)
  settled_least strip same =
      let own : (s : ℕ) → T (inside_at A.states strip s) → Earned A (rank_at strip s) s =
      λ s h.
      let (below, there) = inside_ranked A.states strip s h in
      let here : s < length ranks = omega (arith, forced.long) in
      let e = same s below in
      subst (λ v. Earned A v s) e (forced.earned s (here, λ out. there (sym e ∙ out)))
      in
      climbed-least A (inside_at A.states strip) (rank_at strip) (ranked_ranking A sound strip ranks same settled_ranked)
      (λ s h. (own s h).reachable) (λ s h. (own s h).climbs)
