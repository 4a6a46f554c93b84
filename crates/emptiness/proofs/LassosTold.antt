-- Two paths told one behind the other, and the step that closes the loop, tell a lasso; and a told lasso is told by the words that it uses.
use Rattle.std.proofs.Common.{◌≡◌, ℕ, ◌+◌, ◌-◌, ◌*◌, ◌<◌, ◌≤◌, T, List, length, take, drop, set, replicate, sym, ap, ◌∙◌, subst, arith, rules}
use Rattle.std.proofs.lemmas.Grind.{common_steps}
use Rattle.std.proofs.lemmas.List.{places}
use borrow.Rule.Slice.PartMut.{put_mid}
use native.Mathlib.Decide.{dec_lt}
use Rattle.omega.specs.Automata.{Meaning}
use Rattle.omega.specs.Lassos.{Lasso}
use Rattle.distances.specs.Trees.{at}
use Rattle.evidence.specs.Strips.{word_at, stem_of, loop_of, state_at, letter_at, TellsLasso, verdict_number}
use Rattle.evidence.specs.declared.verdict.Verdict.TheVariants as verdict
use Rattle.emptiness.specs.Searching.{ShortestTold}
use Rattle.emptiness.specs.declared.breadth.Search.{Search}
use Rattle.emptiness.specs.Parts.{FromStarts, Round, TellsPath, TellsShortest}
use Rattle.emptiness.proofs.PathsTold.{step_same}

-- the words that close a lasso
abbrev closing : List ℕ → ℕ → ℕ → ℕ → ℕ → List ℕ
closing strip m q g a = set (set (set (set (set strip (2 + 2 * (m + q)) a) (3 + 2 * (m + q)) g) 0 (verdict_number verdict.Lasso)) 1 m) 2 q

module _ (A : Meaning) (distance back before one two : List ℕ) (g t m q a : ℕ) (stem : TellsPath A distance before one 0 m g) (round : TellsPath A back one two m q t)
    (starts : (s : ℕ) → at distance s ≡ 1 → T (A.start s)) (source : (s : ℕ) → at back s ≡ 1 → s ≡ g) (good : T (A.good g)) (step : T (A.step t a g))
    (fit : 4 + 2 * (m + (q + 1)) ≤ length two) where
  abbrev three : List ℕ
  three = closing two m (q + 1) g a

  long : length three ≡ length two
  long = grind (arith, common_steps)

  kept : (j : ℕ) → 3 ≤ j → j < 2 + 2 * (m + (q + 1)) → word_at three j ≡ word_at two j
  kept j low high = grind (arith, common_steps)

  letter : word_at three (2 + 2 * (m + (q + 1))) ≡ a
  letter = grind (arith, common_steps)

  state : word_at three (3 + 2 * (m + (q + 1))) ≡ g
  state = grind (arith, common_steps)

  word₁ : stem_of three ≡ m
  word₁ = grind (arith, common_steps)

  word₂ : loop_of three ≡ q + 1
  word₂ = grind (arith, common_steps)

  middle_two : state_at two m ≡ g
  middle_two = source (state_at two m) round.begins

  middle_one : state_at one m ≡ g
  middle_one = let e : 3 + 2 * m ≡ 3 + 2 * (0 + m) = omega arith in ap (at one) e ∙ stem.ends

  stem_state : (i : ℕ) → i ≤ m → state_at three i ≡ state_at one i
  stem_state i b = grind (arith, kept (3 + 2 * i), round.keeps (3 + 2 * i), middle_one, middle_two)

  stem_letter : (i : ℕ) → i < m → letter_at three i ≡ letter_at one i
  stem_letter i b = grind (arith, kept (4 + 2 * i), round.keeps (4 + 2 * i))

  loop_state : (i : ℕ) → i ≤ q → state_at three (m + i) ≡ state_at two (m + i)
  loop_state i b = kept (3 + 2 * (m + i)) (omega arith) (omega arith)

  middle : state_at three m ≡ g
  middle = stem_state m (omega arith) ∙ middle_one

  stem_goes : (i : ℕ) → i < m → T (A.step (state_at three i) (letter_at three i) (state_at three (i + 1)))
  stem_goes i b =
      let e₁ : 3 + 2 * i ≡ 3 + 2 * (0 + i) = omega arith in
      let e₂ : 4 + 2 * i ≡ 4 + 2 * (0 + i) = omega arith in
      let e₃ : 3 + 2 * (i + 1) ≡ 3 + 2 * (0 + i + 1) = omega arith in
      step_same A _ _ _ _ _ _ (stem_state i (omega arith) ∙ ap (at one) e₁) (stem_letter i b ∙ ap (at one) e₂) (stem_state (i + 1) (omega arith) ∙ ap (at one) e₃) (stem.goes i b)

  loop_goes : (i : ℕ) → i < q → T (A.step (state_at three (m + i)) (letter_at three (m + i)) (state_at three (m + i + 1)))
  loop_goes i b =
      step_same A _ _ _ _ _ _ (loop_state i (omega arith)) (kept (4 + 2 * (m + i)) (omega arith) (omega arith)) (kept (3 + 2 * (m + i + 1)) (omega arith) (omega arith)) (round.goes i b)

  last_goes : T (A.step (state_at three (m + q)) (letter_at three (m + q)) (state_at three (m + q + 1)))
  last_goes =
      let e₂ : 4 + 2 * (m + q) ≡ 2 + 2 * (m + (q + 1)) = omega arith in
      let e₃ : 3 + 2 * (m + q + 1) ≡ 3 + 2 * (m + (q + 1)) = omega arith in
      step_same A _ _ _ _ _ _ (loop_state q (omega arith) ∙ round.ends) (ap (at three) e₂ ∙ letter) (ap (at three) e₃ ∙ state) step

  goes : (i : ℕ) → i < m + (q + 1) → T (A.step (state_at three i) (letter_at three i) (state_at three (i + 1)))
  goes i b =
      elim (dec_lt i m) [
        | yes early ↦ stem_goes i early
        | no late ↦
            (let e : m + (i - m) ≡ i = omega arith in
            elim (dec_lt (i - m) q) [
              | yes inside ↦ subst (λ k. T (A.step (state_at three k) (letter_at three k) (state_at three (k + 1)))) e (loop_goes (i - m) inside)
              | no last ↦ (let e' : m + q ≡ i = omega arith in subst (λ k. T (A.step (state_at three k) (letter_at three k) (state_at three (k + 1)))) e' last_goes)
            ])
      ]

  lasso : Lasso A m (q + 1) (state_at three) (letter_at three)
  lasso =
      record {
        loops = omega arith;
        begins = subst (λ k. T (A.start k)) (sym (stem_state 0 (omega arith))) (starts (state_at one 0) stem.begins);
        goes = goes;
        good = subst (λ k. T (A.good k)) (sym middle) good;
        closes = state ∙ sym middle;
      }

  pub lasso_told : TellsLasso A three
  lasso_told =
      record {
        verdict = grind (arith, common_steps);
        long = omega (arith, long, word₁, word₂);
        lasso = subst (λ k. Lasso A k (loop_of three) (state_at three) (letter_at three)) (sym word₁) (subst (λ k. Lasso A m k (state_at three) (letter_at three)) (sym word₂) lasso);
      }

-- the same of two searches
pub searches-tell-lasso :
    {A : Meaning} {found back : Search} {before one two three : List ℕ} {g t : ℕ} (a : ℕ) → FromStarts A found → Round A g back t → 0 < at found.distance.now g → T (A.good g) → T (A.step t a g) →
    ((k : ℕ) → at found.distance.now g ≡ k + 1 → TellsPath A found.distance.now before one 0 k g) →
    ((k : ℕ) → at back.distance.now t ≡ k + 1 → TellsPath A back.distance.now one two (at found.distance.now g - 1) k t) →
    4 + 2 * (at found.distance.now g - 1 + at back.distance.now t) ≤ length two → three ≡ closing two (at found.distance.now g - 1) (at back.distance.now t) g a → TellsLasso A three
searches-tell-lasso {A} {found} {back} {before} {one} {two} {three} {g} {t} a starts returned reached good step stem round fit e =
    let m : ℕ = at found.distance.now g - 1 in
    let q : ℕ = at back.distance.now t - 1 in
    let there = returned.reached in
    let more : q + 1 ≡ at back.distance.now t = omega arith in
    let told = lasso_told A found.distance.now back.distance.now before one two g t m q a (stem m (omega arith)) (round q (omega arith)) starts.starts returned.source good step (omega arith) in
    subst (TellsLasso A) (sym (e ∙ ap (λ n. closing two m n g a) (sym more))) told

-- a strip with the same words as far as the lasso goes
module _ (A : Meaning) (strip strip' : List ℕ) {steps : ℕ} (told : TellsShortest A strip steps) (long : length strip' ≡ length strip)
    (same : (k : ℕ) → k < 4 + 2 * (stem_of strip + loop_of strip) → word_at strip' k ≡ word_at strip k) where
  same_state : (i : ℕ) → i ≤ stem_of strip + loop_of strip → state_at strip' i ≡ state_at strip i
  same_state i b = same (3 + 2 * i) (omega arith)

  same_lasso : Lasso A (stem_of strip) (loop_of strip) (state_at strip') (letter_at strip')
  same_lasso =
      let L = told.tells.lasso in
      record {
        loops = L.loops;
        begins = subst (λ k. T (A.start k)) (sym (same_state 0 (omega arith))) L.begins;
        goes = λ i b. step_same A _ _ _ _ _ _ (same_state i (omega arith)) (same (4 + 2 * i) (omega arith)) (same_state (i + 1) (omega arith)) (L.goes i b);
        good = subst (λ k. T (A.good k)) (sym (same_state (stem_of strip) (omega arith))) L.good;
        closes = same_state (stem_of strip + loop_of strip) (omega arith) ∙ L.closes ∙ sym (same_state (stem_of strip) (omega arith));
      }

  same_tells : ((k : ℕ) → 4 + 2 * (stem_of strip + loop_of strip) ≤ k → word_at strip' k ≡ 0) → ShortestTold A strip'
  same_tells rest =
      let m : stem_of strip' ≡ stem_of strip = same 1 (omega arith) in
      let q : loop_of strip' ≡ loop_of strip = same 2 (omega arith) in
      let lasso' : Lasso A (stem_of strip') (loop_of strip') (state_at strip') (letter_at strip') =
      subst (λ k. Lasso A k (loop_of strip') (state_at strip') (letter_at strip')) (sym m) (subst (λ k. Lasso A (stem_of strip) k (state_at strip') (letter_at strip')) (sym q) same_lasso)
      in
      let room = told.tells.long in
      record {
        tells = record { verdict = same 0 (omega arith) ∙ told.tells.verdict; long = omega arith; lasso = lasso' };
        fewest = record { lasso = lasso'; fewest = λ m' q' state letter other. let x = told.fewest.fewest m' q' state letter other in omega arith };
        rest = λ k b. rest k (omega arith);
      }

-- the words behind the lasso are cleared
pub cleared-tells :
    (A : Meaning) (strip part : List ℕ) (used steps : ℕ) → TellsShortest A strip steps → used ≡ 4 + 2 * steps → part ≡ replicate (length (take (length strip - used) (drop used strip))) 0 →
    ShortestTold A (put_mid used (length strip - used) strip part)
cleared-tells A strip part used steps told is e =
    let room = told.tells.long in
    let count = told.count in
    let fits : used ≤ length strip = omega arith in
    let long : length (put_mid used (length strip - used) strip part) ≡ length strip = grind (arith, common_steps, e) in
    same_tells A strip (put_mid used (length strip - used) strip part) told long (λ k b. search (rules, places)) (λ k b. search (rules, places))
