-- Ranks that rise one time after another have risen, and what was done stays done where nothing changed.
use Rattle.std.proofs.Common.{ℕ, ◌+◌, ◌<◌, ◌≤◌, Bool, true, false, ◌≡◌, ◌||◌, List, sym, refl, ap, ◌∙◌, subst, true≢false, arith, below_more}
use Rattle.std.proofs.Math.Bool.{or-true, or-false}
use Rattle.omega.specs.Automata.{Meaning}
use Rattle.relaxing.specs.Rounds.{Forced, rooms, Risen, Swept}

-- before any step
pub nothing_risen : (A : Meaning) (ranks : List ℕ) → Forced A ranks → Risen A ranks ranks false
nothing_risen A ranks forced = record { forced = forced; inside = λ s i. i; same = λ _. refl; less = λ d. absurd (true≢false (sym d)) }

pub nothing_swept : (A : Meaning) (Done : List ℕ → ℕ → Type 0) (ranks : List ℕ) → Forced A ranks → Swept A Done ranks ranks false 0
nothing_swept A Done ranks forced = (nothing_risen A ranks forced, λ _ k b. absurd (omega arith))

-- no room is gained
risen_rooms : (A : Meaning) (before after : List ℕ) (changed : Bool) → Risen A before after changed → rooms A.states after ≤ rooms A.states before
risen_rooms A before after true r = omega (arith, r.less refl)
risen_rooms A before after false r = omega (arith, ap (rooms A.states) (r.same refl))

module _ (A : Meaning) (Done : List ℕ → ℕ → Type 0) (before middle after : List ℕ) (changed : Bool) (i : ℕ) where
  -- a step that changes a rank
  changed_swept : (j : ℕ) → Swept A Done before middle changed i → Risen A middle after true → Swept A Done before after true j
  changed_swept j (risen, _) more = (
    record {
      forced = more.forced;
      inside = λ s i. more.inside s (risen.inside s i);
      same = λ e. absurd (true≢false e);
      less = λ _. omega (arith, more.less refl, risen_rooms A before middle changed risen);
    },
    λ e. absurd (true≢false e),
  )

  -- one that changes none
  kept_risen : Risen A before middle changed → Risen A middle after false → Risen A before after changed
  kept_risen risen none =
      let e = none.same refl in
      record {
        forced = none.forced;
        inside = λ s i. none.inside s (risen.inside s i);
        same = λ c. e ∙ risen.same c;
        less = λ c. omega (arith, risen.less c, ap (rooms A.states) e);
      }

  kept_swept : (j : ℕ) → Swept A Done before middle changed i → Risen A middle after false → (((k : ℕ) → k < i → Done after k) → (k : ℕ) → k < j → Done after k) → Swept A Done before after changed j
  kept_swept j (risen, done) none more = (
    kept_risen risen none,
    λ c. more (λ k b. subst (λ ranks. Done ranks k) (sym (none.same refl)) (done c k b)),
  )

  -- a step that may change one
  pub swept_more : (j : ℕ) (r : Bool) → Swept A Done before middle changed i → Risen A middle after r →
      (r ≡ false → ((k : ℕ) → k < i → Done after k) → (k : ℕ) → k < j → Done after k) → Swept A Done before after (changed || r) j
  swept_more j true swept some more = rw (or-true changed) (changed_swept j swept some)
  swept_more j false swept none more = rw (or-false changed) (kept_swept j swept none (more refl))

  pub swept_next : (r : Bool) → Swept A Done before middle changed i → Risen A middle after r → (r ≡ false → Done after i) → Swept A Done before after (changed || r) (i + 1)
  swept_next r swept risen here = swept_more (i + 1) r swept risen (λ kept done. below_more _ _ done (here kept))
