-- Which words the two automata accept that watch a signal: those in which it is on again and again, and those in which it settles off.
use Rattle.std.proofs.Common.{◌≡◌, ℕ, zero, suc, ◌+◌, ◌-◌, ◌^◌, ◌<◌, ◌≤◌, Bool, true, false, cond, not, ◌&&◌, ◌||◌, T, eqb, ltb, refl, subst, inl, inr, ⊎_elim, add-one, arith, eqb→eq, lt→ltb, T_not, rules}
use native.Mathlib.Decide.{le_ind}
use lib.Arith.{le→nltb}
use lib.Dec.{not_T}
use Rattle.std.proofs.lemmas.Bool.{cases_lt}
use Rattle.omega.specs.Words.{Word, Over, Often, Seldom, Accepted}
use Rattle.omega.specs.Signals.{bit, again_leads, settles_leads, again, settles}
use Rattle.omega.specs.Laws.{AgainAccepts, SettlesAccepts}
use Rattle.omega.proofs.Tests.{both_pass, parts_pass, one_passes, first_passes, second_passes, digit_below, digit_one, digit_zero}

module _ (i p : ℕ) (w : Word) (over : Over p w) where
  -- state 1 is entered by letters with the signal on only
  again_on : (s a t : ℕ) → T ((again i p).step s a t) → T ((again i p).good t) → T (bit i a)
  again_on s a t step good =
      elim (one_passes (eqb t 1 && bit i a) _ (parts_pass (ltb s 2 && ltb a (2 ^ p)) _ step).1) [
        | inl on ↦ (parts_pass (eqb t 1) _ on).1
        | inr off ↦ absurd (omega (arith, eqb→eq t 1 good, eqb→eq t 0 (parts_pass (eqb t 0) _ off).0))
      ]

  on_often : Accepted (again i p) w → Often (λ k. bit i (w k))
  on_often accepted m =
      let (k, late, good) = accepted.often (m + 1) in
      let e : k ≡ k - 1 + 1 = omega arith in
      (k - 1, omega arith, again_on _ _ _ (accepted.run.goes (k - 1)) (subst (λ j. T ((again i p).good (accepted.path j))) e good))

  -- the run that is in state 1 just after the moments at which the signal is on
  again_path : ℕ → ℕ
  again_path zero = 0
  again_path (suc k) = cond (bit i (w k)) 1 0

  again_after : (k : ℕ) → again_path (k + 1) ≡ cond (bit i (w k)) 1 0
  unfolding again_path
  again_after k = rw add-one refl

  again_below : (k : ℕ) → again_path k < 2
  unfolding again_path
  again_below zero = omega arith
  again_below (suc k) = digit_below (bit i (w k))

  again_goes : (k : ℕ) → T ((again i p).step (again_path k) (w k) (again_path (k + 1)))
  again_goes k =
      both_pass _ _ (both_pass _ _ (lt→ltb _ _ (again_below k)) (lt→ltb _ _ (over k)))
      (simp (again_after, digit_one, digit_zero) (follows (bit i (w k))))
    where
      follows : (b : Bool) → T ((b && b) || (not b && not b))
      follows true = tt
      follows false = tt

  again_run : Often (λ k. bit i (w k)) → Accepted (again i p) w
  unfolding again_path
  again_run often = record {
    path = again_path;
    run = record { begins = tt; goes = again_goes };
    often = λ m. let (k, late, on) = often m in (k + 1, omega arith, simp (again_after, digit_one) on);
  }

  -- once in state 1, the automaton stays there, by letters with the signal off
  stays_good : (s a t : ℕ) → T ((settles i p).step s a t) → T ((settles i p).good s) → T ((settles i p).good t) × T (not (bit i a))
  stays_good s a t step good = search rules

  settled : Accepted (settles i p) w → Seldom (λ k. bit i (w k))
  settled accepted =
      let (m, late, good) = accepted.often 0 in
      let stays : (k : ℕ) → m ≤ k → T ((settles i p).good (accepted.path k)) =
      le_ind (λ k. T ((settles i p).good (accepted.path k))) good
      (λ k h now. rw add-one at (stays_good _ _ _ (accepted.run.goes k) now).0) in
      (m, λ k h on. T_not (bit i (w k)) (stays_good _ _ _ (accepted.run.goes k) (stays k h)).1 on)

  module _ (m : ℕ) (off : (k : ℕ) → m ≤ k → T (bit i (w k)) → ⊥) where
    -- the run that leaves state 0 at moment m
    settles_path : ℕ → ℕ
    settles_path k = cond (ltb m k) 1 0

    settles_goes : (k : ℕ) → T ((settles i p).step (settles_path k) (w k) (settles_path (k + 1)))
    unfolding settles_path
    settles_goes k =
        both_pass _ _ (both_pass _ _ (lt→ltb _ _ (digit_below (ltb m k))) (lt→ltb _ _ (over k)))
        (simp (digit_one, digit_zero)
        (⊎_elim
        (λ before. first_passes _ _ (both_pass _ _ (le→nltb m k (omega arith)) (le→nltb m (k + 1) (omega arith))))
        (λ past. second_passes _ _ (both_pass _ _ (lt→ltb m (k + 1) (omega arith)) (not_T _ (off k past))))
        (cases_lt k m)))

    settles_run : Accepted (settles i p) w
    unfolding settles_path
    settles_run = record {
      path = settles_path;
      run = record { begins = simp digit_zero (le→nltb m 0 (omega arith)); goes = settles_goes };
      often = λ n. (m + 1 + n, omega arith, simp digit_one (lt→ltb m (m + 1 + n) (omega arith)));
    }

pub again_accepts : (i p : ℕ) → AgainAccepts i p
again_accepts i p w over = (on_often i p w over, again_run i p w over)

pub settles_accepts : (i p : ℕ) → SettlesAccepts i p
settles_accepts i p w over = (settled i p w over, λ seldom. settles_run i p w over seldom.0 seldom.1)

-- there are two states
pub again_enters : (on : Bool) (s t : ℕ) → T (again_leads on s t) → t < 2
again_enters on s t step = search rules

pub settles_enters : (on : Bool) (s t : ℕ) → T (settles_leads on s t) → t < 2
settles_enters on s t step = search rules
