-- There is a lasso or a least ranking. Numbers that reachable states climb are raised, one at a time, until they make a ranking,
-- which is then the least, or until one passes the bound on climbs, which gives a lasso.
use Rattle.omega.specs.Automata.{Meaning, Sound}
use Rattle.omega.specs.Lassos.{SomeLasso}
use Rattle.omega.specs.Rankings.{SomeLeast}
use Rattle.omega.specs.Laws.{LassoOrLeast}
use Rattle.omega.proofs.Finite.{found-or-all}
use Rattle.omega.proofs.Updates.{put, put_cases}
use Rattle.omega.proofs.Paths.{Reachable, reachable_on, reachable_below}
use Rattle.omega.proofs.Climbs.{Climb, climb_before, climb_bound, climbed-least}
use Rattle.omega.proofs.Rising.{Raised, rising_ends}
use Rattle.std.proofs.lemmas.Bool.{cases_lt}
use Rattle.std.proofs.Common.{◌≡◌, ℕ, zero, suc, ◌-◌, ◌^◌, ◌<◌, ◌≤◌, Bool, true, false, cond, T, ltb, ◌⊎◌, refl, subst, inl, inr, arith, ltb→lt, lt→ltb}

holds_or_not : (b : Bool) → T b ⊎ (T b → ⊥)
holds_or_not true = inl tt
holds_or_not false = inr (λ t. t)

-- the value 0 stands for a state outside, and k + 1 for one inside with number k, which must be reachable and climb k
abbrev Earned : Meaning → ℕ → ℕ → Type 0
Earned A zero s = Unit {0}
Earned A (suc k) s = Reachable A s × Climb A k s

earned_parts : (A : Meaning) (v s : ℕ) → 0 < v → Earned A v s → Reachable A s × Climb A (v - 1) s
earned_parts A zero s h e = absurd (omega arith)
earned_parts A (suc k) s h (reach, c) = (reach, let z : suc k - 1 ≡ k = omega arith in rw z c)

module _ (A : Meaning) (sound : Sound A) where
  -- starts are inside, and every value is earned
  record Unfinished (f : ℕ → ℕ) : Type 0 where
    starts : (s : ℕ) → T (A.start s) → 0 < f s
    earned : (s : ℕ) → Earned A (f s) s

  unfinished_first : Unfinished (λ s. cond (A.start s) 1 0)
  unfinished_first = record { starts = λ s. positive (A.start s); earned = λ s. own s (A.start s) refl }
    where
      positive : (b : Bool) → T b → 0 < cond b 1 0
      positive true h = omega arith
      positive false h = absurd h

      own : (s : ℕ) (b : Bool) → b ≡ A.start s → Earned A (cond b 1 0) s
      own s true e = ((s, 0, subst T e tt, refl), tt)
      own s false e = tt

  unfinished_raised : (f : ℕ → ℕ) (s v : ℕ) → Unfinished f → f s < v → Earned A v s → Unfinished (put f s v)
  unfinished_raised f s v u up e =
      record {
        starts = λ t h. omega (arith, put_cases f s v t, u.starts t h);
        earned = λ t. elim (put_cases f s v t) [ inl c ↦ rw (c.1, c.0) e | inr c ↦ rw c.1 (u.earned t) ];
      }

  earned_bound : (v s : ℕ) → Earned A v s → SomeLasso A ⊎ (v ≤ suc A.states)
  earned_bound zero s e = inr (omega arith)
  earned_bound (suc k) s (reach, c) =
      elim (cases_lt A.states k) [ inl many ↦ inl (climb_bound A sound s k reach c many) | inr few ↦ inr (omega arith) ]

  -- what a ranking asks of a step from s, with the value x there and y behind the step
  abbrev Fits : ℕ → ℕ → ℕ → Type 0
  Fits s x y = 0 < x → (0 < y) × (y ≤ x) × (T (A.good s) → y < x)

  -- s earns more than x
  abbrev Higher : ℕ → ℕ → Type 0
  Higher s x = (v : ℕ) × (x < v) × Earned A v s

  fits_or_higher : (s a t x y : ℕ) → T (A.step s a t) → Earned A x s → Earned A y t → (Higher s x ⊎ Higher t y) ⊎ Fits s x y
  fits_or_higher s a t zero y st e e' = inr (λ h. absurd (omega arith))
  fits_or_higher s a t (suc k) zero st (reach, c) e' = inl (inr (1, omega arith, (reachable_on A 1 s t reach (a, t, st, refl), tt)))
  fits_or_higher s a t (suc k) (suc l) st (reach, c) (reach', c') =
      elim (holds_or_not (A.good s)) [
        | inl good ↦
            elim (cases_lt l k) [
              | inl lower ↦ inr (λ _. (omega arith, omega arith, λ _. omega arith))
              | inr up ↦ inl (inl (suc (suc l), omega arith, (reach, (0, s, a, t, refl, good, st, c'))))
            ]
        | inr plain ↦
            elim (cases_lt k l) [
              | inl up ↦ inl (inl (suc l, omega arith, (reach, climb_before A l s a t st c')))
              | inr lower ↦ inr (λ _. (omega arith, omega arith, λ good. absurd (plain good)))
            ]
      ]

  abbrev Raisable : (ℕ → ℕ) → Type 0
  Raisable f = (s : ℕ) × (s < A.states) × Higher s (f s)

  abbrev Kept : (ℕ → ℕ) → ℕ → ℕ → ℕ → Type 0
  Kept f s a t = T (A.step s a t) → Fits s (f s) (f t)

  kept_or_raisable : (f : ℕ → ℕ) → Unfinished f → (s a t : ℕ) → Raisable f ⊎ Kept f s a t
  kept_or_raisable f u s a t =
      elim (holds_or_not (A.step s a t)) [
        | inl st ↦
            elim (fits_or_higher s a t (f s) (f t) st (u.earned s) (u.earned t)) [
              | inl (inl h) ↦ inl (s, sound.leaves s a t st, h)
              | inl (inr h) ↦ inl (t, sound.enters s a t st, h)
              | inr fits ↦ inr (λ _. fits)
            ]
        | inr none ↦ inr (λ st. absurd (none st))
      ]

  all_kept_or_raisable : (f : ℕ → ℕ) → Unfinished f → Raisable f ⊎ ((s a t : ℕ) → Kept f s a t)
  all_kept_or_raisable f u =
      elim (found-or-all A.states (λ s _. found-or-all (2 ^ A.signals) (λ a _. found-or-all A.states (λ t _. kept_or_raisable f u s a t)))) [
        | inl r ↦ inl r
        | inr all ↦ inr (λ s a t st. all s (sound.leaves s a t st) a (sound.letters s a t st) t (sound.enters s a t st) st)
      ]

  kept-gives-least :
      (f : ℕ → ℕ) → Unfinished f → ((s : ℕ) → s < A.states → f s ≤ suc A.states) → ((s a t : ℕ) → Kept f s a t) → SomeLeast A
  kept-gives-least f u low kept =
      let inside : ℕ → Bool = λ s. ltb 0 (f s) in
      let rank : ℕ → ℕ = λ s. f s - 1 in
      let own : (s : ℕ) → T (inside s) → Reachable A s × Climb A (rank s) s = λ s h. earned_parts A (f s) s (ltb→lt 0 (f s) h) (u.earned s) in
      let fits : (s a t : ℕ) → T (inside s) → T (A.step s a t) → (0 < f t) × (f t ≤ f s) × (T (A.good s) → f t < f s) =
      λ s a t h st. kept s a t st (ltb→lt 0 (f s) h)
      in (
        inside,
        rank,
        climbed-least A inside rank
            (record {
              small = λ s h. omega (arith, low s (reachable_below A sound s (own s h).0), sound.few);
              starts = λ s h. lt→ltb 0 (f s) (u.starts s h);
              stays = λ s a t h st. lt→ltb 0 (f t) (fits s a t h st).0;
              falls = λ s a t h st. omega (arith, (fits s a t h st).1);
              drops = λ s a t h st good. omega (arith, (fits s a t h st).0, (fits s a t h st).2 good);
            })
            (λ s h. (own s h).0) (λ s h. (own s h).1),
      )

  lasso_least_or_raised : (f : ℕ → ℕ) → Unfinished f → (SomeLasso A ⊎ SomeLeast A) ⊎ Raised A.states (suc A.states) Unfinished f
  lasso_least_or_raised f u =
      elim (found-or-all A.states (λ s _. earned_bound (f s) s (u.earned s))) [
        | inl lasso ↦ inl (inl lasso)
        | inr low ↦
            elim (all_kept_or_raisable f u) [
              | inl r ↦ (let (s, below, h) = r in let (v, up, e) = h in inr (low, (s, v, below, up, unfinished_raised f s v u up e)))
              | inr kept ↦ inl (inr (kept-gives-least f u low kept))
            ]
      ]

pub lasso_or_least_lem : LassoOrLeast
lasso_or_least_lem A sound =
    rising_ends A.states (suc A.states) (Unfinished A sound) (SomeLasso A ⊎ SomeLeast A) (lasso_least_or_raised A sound)
    (λ s. cond (A.start s) 1 0) (unfinished_first A sound)
