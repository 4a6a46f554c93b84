-- A word is accepted by a pair exactly when both parts accept it.
use Rattle.std.proofs.Common.{◌≡◌, ℕ, zero, suc, ◌+◌, ◌*◌, ◌/◌, ◌%◌, ◌<◌, Bool, false, cond, not, ◌&&◌, T, eqb, ltb, refl, ap, ◌∙◌, add-one, arith, lt→ltb}
use mathlib.Core.Bool.{beq}
use lib.Arith.{digits_div, digits_mod, digits_lt}
use Rattle.omega.specs.Automata.{Meaning, Sound}
use Rattle.omega.specs.Words.{Word, Often, Accepted}
use Rattle.omega.specs.Pairs.{code, left, right, turn, turned, pair}
use Rattle.omega.specs.Laws.{PairAcceptsBoth}
use Rattle.omega.proofs.Tests.{both_pass, parts_pass, agree_equal, equal_agree, digit_below, digit_one}
use Rattle.omega.proofs.Turns.{first_often_good, second_often_good}

-- the parts of a state, from its number
pub code_left : (w u v c : ℕ) → v < w → c < 2 → left w (code w u v c) ≡ u
code_left w u v c h g = ap (λ x. x / w) (digits_div (u * w + v) g) ∙ digits_div u h

pub code_right : (w u v c : ℕ) → v < w → c < 2 → right w (code w u v c) ≡ v
code_right w u v c h g = ap (λ x. x % w) (digits_div (u * w + v) g) ∙ digits_mod u h

pub code_turn : (w u v c : ℕ) → c < 2 → turn (code w u v c) ≡ eqb c 1
code_turn w u v c g = ap (λ x. eqb x 1) (digits_mod (u * w + v) g)

pub code_below : (m w u v c : ℕ) → u < m → v < w → c < 2 → code w u v c < m * w * 2
code_below m w u v c h k g = omega (arith, digits_lt {m = m} {c = w} h k)

module _ (A : Meaning) (S : Sound A) (w : Word) (accepted : Accepted A w) where
  -- a run visits states that there are
  path_below : (i : ℕ) → accepted.path i < A.states
  path_below zero = S.starts _ accepted.run.begins
  path_below (suc i) = rw add-one at (S.enters _ _ _ (accepted.run.goes i))

module _ (A B : Meaning) (w : Word) (accepted : Accepted (pair A B) w) where
  u : ℕ → ℕ
  u i = left B.states (accepted.path i)

  v : ℕ → ℕ
  v i = right B.states (accepted.path i)

  c : ℕ → Bool
  c i = turn (accepted.path i)

  both_begin : T (A.start (u 0)) × T (B.start (v 0))
  unfolding u v
  both_begin =
      let (inside, starts) = parts_pass (ltb (accepted.path 0) (pair A B).states) _ accepted.run.begins in
      let (low, parts) = parts_pass (not (turn (accepted.path 0))) _ starts in
      parts_pass (A.start (u 0)) _ parts

  both_go : (i : ℕ) → T (A.step (u i) (w i) (u (i + 1))) × T (B.step (v i) (w i) (v (i + 1))) × (c (i + 1) ≡ turned (c i) (A.good (u i)) (B.good (v i)))
  unfolding u v c
  both_go i =
      let x = accepted.path i in
      let y = accepted.path (i + 1) in
      let n = (pair A B).states in
      let (inside, goes) = parts_pass (ltb x n && ltb y n) _ (accepted.run.goes i) in
      let (turns, parts) = parts_pass (beq (c (i + 1)) (turned (c i) (A.good (u i)) (B.good (v i)))) _ goes in
      let (first, second) = parts_pass (A.step (u i) (w i) (u (i + 1))) _ parts in
      (first, second, agree_equal _ _ turns)

  second_awaited_good : Often (λ k. c k && B.good (v k))
  unfolding v c
  second_awaited_good m =
      let (k, late, good) = accepted.often m in
      (k, late, (parts_pass (ltb (accepted.path k) (pair A B).states) _ good).1)

  parts_accept : Accepted A w × Accepted B w
  parts_accept = (
    record {
      path = u;
      run = record { begins = both_begin.0; goes = λ i. (both_go i).0 };
      often = first_often_good c (λ i. A.good (u i)) (λ i. B.good (v i)) (λ i. (both_go i).2) second_awaited_good;
    },
    record {
      path = v;
      run = record { begins = both_begin.1; goes = λ i. (both_go i).1 };
      often = λ m. let (k, late, good) = second_awaited_good m in (k, late, (parts_pass (c k) _ good).1);
    },
  )

module _ (A B : Meaning) (SA : Sound A) (SB : Sound B) (w : Word) (acc_a : Accepted A w) (acc_b : Accepted B w) where
  -- whether the second part is waited for at each moment
  awaits : ℕ → Bool
  awaits zero = false
  awaits (suc i) = turned (awaits i) (A.good (acc_a.path i)) (B.good (acc_b.path i))

  awaits_law : (i : ℕ) → awaits (i + 1) ≡ turned (awaits i) (A.good (acc_a.path i)) (B.good (acc_b.path i))
  unfolding awaits
  awaits_law i = rw add-one refl

  joint : ℕ → ℕ
  joint i = code B.states (acc_a.path i) (acc_b.path i) (cond (awaits i) 1 0)

  joint_left : (i : ℕ) → left B.states (joint i) ≡ acc_a.path i
  unfolding joint
  joint_left i = code_left B.states (acc_a.path i) (acc_b.path i) _ (path_below B SB w acc_b i) (digit_below (awaits i))

  joint_right : (i : ℕ) → right B.states (joint i) ≡ acc_b.path i
  unfolding joint
  joint_right i = code_right B.states (acc_a.path i) (acc_b.path i) _ (path_below B SB w acc_b i) (digit_below (awaits i))

  joint_turn : (i : ℕ) → turn (joint i) ≡ awaits i
  unfolding joint
  joint_turn i = code_turn B.states (acc_a.path i) (acc_b.path i) _ (digit_below (awaits i)) ∙ digit_one (awaits i)

  joint_below : (i : ℕ) → T (ltb (joint i) (pair A B).states)
  unfolding joint
  joint_below i =
      lt→ltb _ _
      (code_below A.states B.states (acc_a.path i) (acc_b.path i) _ (path_below A SA w acc_a i) (path_below B SB w acc_b i) (digit_below (awaits i)))

  joint_begins : T ((pair A B).start (joint 0))
  unfolding awaits
  joint_begins =
      both_pass _ _ (joint_below 0)
      (simp (joint_left, joint_right, joint_turn) (both_pass _ _ acc_a.run.begins acc_b.run.begins))

  joint_goes : (i : ℕ) → T ((pair A B).step (joint i) (w i) (joint (i + 1)))
  joint_goes i =
      both_pass _ _ (both_pass _ _ (joint_below i) (joint_below (i + 1)))
      (simp (joint_left, joint_right, joint_turn, awaits_law)
      (both_pass _ _ (equal_agree _) (both_pass _ _ (acc_a.run.goes i) (acc_b.run.goes i))))

  joint_often : Often (λ k. (pair A B).good (joint k))
  joint_often m =
      let (k, late, good) = second_often_good awaits (λ i. A.good (acc_a.path i)) (λ i. B.good (acc_b.path i)) awaits_law acc_a.often acc_b.often m in
      (k, late, both_pass _ _ (joint_below k) (simp (joint_right, joint_turn) good))

  pair_accepts : Accepted (pair A B) w
  pair_accepts = record { path = joint; run = record { begins = joint_begins; goes = joint_goes }; often = joint_often }

pub pair_accepts_both : PairAcceptsBoth
pair_accepts_both A B SA SB w =
    (parts_accept A B w, λ accepted. pair_accepts A B SA SB w accepted.0 accepted.1)
