-- One step of an automaton and the ranks that it changes: each rank is still earned, and there is less room.
use Rattle.std.proofs.Common.{◌≡◌, ℕ, zero, suc, ◌+◌, ◌-◌, ◌<◌, ◌≤◌, Bool, true, false, T, eqb, ◌≢◌, ◌⊎◌, List, [], ◌∷◌, length, get_or, set, sym, refl, ap, ◌∙◌, subst, inl, inr, true≢false, add-one, arith, length-set, get_or-set_other, get_or-set_same}
use Rattle.std.proofs.lemmas.Bool.{cases_eq, eq-eqb, ne_eqb, cond-true, cond-false}
use Rattle.omega.specs.Automata.{Meaning, Sound}
use Rattle.omega.proofs.Paths.{reachable_on}
use Rattle.omega.proofs.Climbs.{Climb, climb_before}
use Rattle.evidence.specs.Strips.{outside}
use Rattle.relaxing.specs.Rounds.{Inside, Earned, Forced, asked, StepMet, room, rooms, Relaxed, Risen}

-- the room of an earned rank, and of a state outside
room_inside_lem : (n v : ℕ) → v ≢ outside → room n v ≡ (n + 1) - v
room_inside_lem n v there = cond-false (eqb v outside) (n + 2) ((n + 1) - v) (ne_eqb v outside there)

room_outside : (n v : ℕ) → v ≡ outside → room n v ≡ n + 2
room_outside n v out = cond-true (eqb v outside) (n + 2) ((n + 1) - v) (eq-eqb v outside out)

rooms_set : (n : ℕ) (ranks : List ℕ) (s v : ℕ) → s < length ranks → room n v < room n (get_or ranks s 0) → rooms n (set ranks s v) < rooms n ranks
rooms_set n [] s v b less = absurd (omega arith)
rooms_set n (x ∷ xs) zero v b less = omega arith
rooms_set n (x ∷ xs) (suc s) v b less = omega (arith, rooms_set n xs s v (omega arith) less)

-- what a step asks of the state left, that state climbs
asked_climbed : (A : Meaning) (k s a t : ℕ) (good : Bool) → good ≡ A.good s → T (A.step s a t) → Climb A k t → Climb A (asked good k) s
asked_climbed A k s a t true e st c = rw add-one (0, s, a, t, refl, subst T e tt, st, c)
asked_climbed A k s a t false e st c = let z : k + 0 ≡ k = omega arith in rw z (climb_before A k s a t st c)

asked_few : (good : Bool) (n to : ℕ) → to ≤ n → asked good to ≤ n + 1
asked_few true n to low = omega arith
asked_few false n to low = omega arith

module _ (A : Meaning) (ranks : List ℕ) (forced : Forced A ranks) (s v : ℕ) (below : s < length ranks) (number : v ≢ outside) where
  set_cases : (x : ℕ) → ((x ≡ s) × (get_or (set ranks s v) x 0 ≡ v)) ⊎ (get_or (set ranks s v) x 0 ≡ get_or ranks x 0)
  set_cases x =
      elim (cases_eq x s) [
        | inl e ↦ inl (e, ap (λ y. get_or (set ranks s v) y 0) e ∙ get_or-set_same ranks s v 0 below)
        | inr d ↦ inr (get_or-set_other ranks s x v 0 d)
      ]

  set_inside : (x : ℕ) → Inside ranks x → Inside (set ranks s v) x
  set_inside x (b, there) = (
    rw (length-set ranks s v) b,
    elim (set_cases x) [ inl c ↦ (λ out. number (sym c.1 ∙ out)) | inr e ↦ (λ out. there (sym e ∙ out)) ],
  )

  -- a rank set to an earned one that leaves less room
  set_risen : Earned A v s → room A.states v < room A.states (get_or ranks s 0) → Risen A ranks (set ranks s v) true
  set_risen earned less =
      record {
        forced = record {
          long = length-set ranks s v ∙ forced.long;
          starts = λ x start. set_inside x (forced.starts x start);
          earned = λ x (b, there).
              elim (set_cases x) [
                | inl c ↦ rw (c.1, c.0) earned
                | inr e ↦ rw e (forced.earned x (rw (length-set ranks s v) at b, λ out. there (e ∙ out)))
              ];
        };
        inside = set_inside;
        same = λ e. absurd (true≢false e);
        less = λ _. rooms_set A.states ranks s v below less;
      }

module _ (A : Meaning) (sound : Sound A) (s a t : ℕ) (step : T (A.step s a t)) (before : List ℕ) (forced : Forced A before) (inside : Inside before s) where
  enters_below : t < length before
  enters_below = omega (arith, sound.enters s a t step, forced.long)

  -- t comes inside
  entered_risen : get_or before t 0 ≡ outside → Risen A before (set before t 0) true
  entered_risen out =
      let number : 0 ≢ outside = omega arith in
      let here = room_inside_lem A.states 0 number in
      let was = room_outside A.states (get_or before t 0) out in
      set_risen A before forced t 0 enters_below number
      (record {
        reachable = reachable_on A 1 s t (forced.earned s inside).reachable (a, t, step, refl);
        climbs = tt;
        low = omega arith;
      })
      (omega arith)

  -- s is raised to what the step asks
  raised-risen :
      get_or before t 0 ≤ A.states → get_or before s 0 < asked (A.good s) (get_or before t 0) →
      Risen A before (set before s (asked (A.good s) (get_or before t 0))) true
  raised-risen low more =
      let v : ℕ = asked (A.good s) (get_or before t 0) in
      let few = sound.few in
      let most = asked_few (A.good s) A.states (get_or before t 0) low in
      let number : v ≢ outside = omega arith in
      let there : get_or before t 0 ≢ outside = omega arith in
      let here = room_inside_lem A.states v number in
      let was = room_inside_lem A.states (get_or before s 0) inside.1 in
      set_risen A before forced s v inside.0 number
      (record {
        reachable = (forced.earned s inside).reachable;
        climbs = asked_climbed A (get_or before t 0) s a t (A.good s) refl step (forced.earned t (enters_below, there)).climbs;
        low = most;
      })
      (omega arith)

  pub relaxed_risen : (after : List ℕ) (changed : Bool) → Relaxed A.states (A.good s) s t before after changed → Risen A before after changed
  relaxed_risen after changed (inl (c, out, e)) = rw (c, e) (entered_risen out)
  relaxed_risen after changed (inr (inl (c, low, more, e))) = rw (c, e) (raised-risen low more)
  relaxed_risen after changed (inr (inr (c, met, e))) =
      rw (c, e) (record { forced = forced; inside = λ x i. i; same = λ _. refl; less = λ d. absurd (true≢false (sym d)) })

  pub relaxed_met : (after : List ℕ) (changed : Bool) → Relaxed A.states (A.good s) s t before after changed → changed ≡ false → StepMet A after s t
  relaxed_met after changed (inl (c, out, e)) kept = absurd (true≢false (sym c ∙ kept))
  relaxed_met after changed (inr (inl (c, low, more, e))) kept = absurd (true≢false (sym c ∙ kept))
  relaxed_met after changed (inr (inr (c, met, e))) kept = rw e met
