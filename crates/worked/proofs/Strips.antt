-- A strip that passes its tests tells a lasso or a ranking, and what follows for its shape.
use Rattle.std.proofs.Common.{ℕ, ◌+◌, ◌*◌, ◌^◌, ◌<◌, Bool, ◌&&◌, ◌||◌, T, eqb, ltb, leb, List, [], ◌∷◌, length, inl, inr, ⊎_elim, eqb→eq, ltb→lt, leb→le}
use Rattle.std.specs.List.{AllByRecursion}
use Rattle.omega.specs.Automata.{Meaning, Sound}
use Rattle.omega.specs.Words.{SomeWord, SharedWord}
use Rattle.omega.specs.Rankings.{greatest_rank}
use Rattle.omega.proofs.Looping.{lasso_shows_word_lem}
use Rattle.omega.proofs.Refuting.{ranking_refutes_lem}
use Rattle.evidence.proofs.Worths.{told_lasso_shows_word, told_ranking_refutes}
use Rattle.omega.proofs.Pairing.{pair_accepts_both}
use Rattle.omega.proofs.Tests.{parts_pass, one_passes}
use Rattle.evidence.specs.Strips.{word_at, stem_of, loop_of, state_at, letter_at, rank_at, inside_at, TellsLasso, TellsRanking}
use Rattle.worked.specs.Cases.{Shape, table, again, settles, pair, meaning, OfParts, ShowsWord, RulesOut, Judged}
use Rattle.worked.proofs.Tests.{every, each_passes, below, below_passes, given, given_passes}
use Rattle.worked.proofs.Shapes.{keeps, keeps_sound, parts_keep}

module _ (A : Meaning) (strip : List ℕ) where
  abbrev goes_at : ℕ → Bool
  goes_at i = A.step (state_at strip i) (letter_at strip i) (state_at strip (i + 1))

  abbrev lasso_tests : List Bool
  lasso_tests =
      eqb (word_at strip 0) 1
      ∷ leb (4 + 2 * (stem_of strip + loop_of strip)) (length strip)
      ∷ ltb 0 (loop_of strip)
      ∷ A.start (state_at strip 0)
      ∷ below (stem_of strip + loop_of strip) goes_at
      ∷ A.good (state_at strip (stem_of strip))
      ∷ eqb (state_at strip (stem_of strip + loop_of strip)) (state_at strip (stem_of strip))
      ∷ []

  tells_lasso : T (every lasso_tests) → TellsLasso A strip
  tells_lasso h =
      let (verdict, (long, (loops, (begins, (goes, (good, (closes, _))))))) = each_passes lasso_tests h in
      record {
        verdict = eqb→eq (word_at strip 0) 1 verdict;
        long = leb→le _ (length strip) long;
        lasso = record {
          loops = ltb→lt 0 (loop_of strip) loops;
          begins = begins;
          goes = below_passes (stem_of strip + loop_of strip) goes_at goes;
          good = good;
          closes = eqb→eq _ (state_at strip (stem_of strip)) closes;
        };
      }

  abbrev inside : ℕ → Bool
  inside = inside_at A.states strip

  abbrev ranked : ℕ → Bool
  ranked s = given (inside s) (leb (rank_at strip s) greatest_rank) && given (A.start s) (inside s)

  -- the state that a step leads to is inside, and its number is as it has to be
  abbrev fallen : ℕ → ℕ → List Bool
  fallen s t = inside t ∷ leb (rank_at strip t) (rank_at strip s) ∷ given (A.good s) (ltb (rank_at strip t) (rank_at strip s)) ∷ []

  abbrev falls : ℕ → ℕ → ℕ → Bool
  falls s a t = given (inside s) (given (A.step s a t) (every (fallen s t)))

  abbrev ranking_tests : List Bool
  ranking_tests =
      eqb (word_at strip 0) 2
      ∷ eqb (word_at strip 1) A.states
      ∷ eqb (word_at strip 2) 0
      ∷ leb (3 + A.states) (length strip)
      ∷ below A.states ranked
      ∷ below A.states (λ s. below (2 ^ A.signals) (λ a. below A.states (falls s a)))
      ∷ []

  tells_ranking : Sound A → T (every ranking_tests) → TellsRanking A strip
  tells_ranking sound h =
      let (verdict, (count, (zero, (long, (states, (steps, _)))))) = each_passes ranking_tests h in
      let within : (s : ℕ) → T (inside s) → s < A.states = λ s in'. ltb→lt s A.states (parts_pass (ltb s A.states) _ in').0 in
      let state : (s : ℕ) → s < A.states → T (given (inside s) (leb (rank_at strip s) greatest_rank)) × T (given (A.start s) (inside s)) =
      λ s low. parts_pass _ _ (below_passes A.states ranked states s low) in
      let step : (s a t : ℕ) → T (inside s) → T (A.step s a t) → AllByRecursion T (fallen s t) =
      λ s a t in' goes.
      let by-letter = below_passes A.states (λ x. below (2 ^ A.signals) (λ b. below A.states (falls x b))) steps s (within s in') in
      let by-target = below_passes (2 ^ A.signals) (λ b. below A.states (falls s b)) by-letter a (sound.letters s a t goes) in
      let here = below_passes A.states (falls s a) by-target t (sound.enters s a t goes) in
      each_passes (fallen s t) (given_passes (A.step s a t) _ (given_passes (inside s) _ here in') goes) in
      record {
        verdict = eqb→eq (word_at strip 0) 2 verdict;
        states = eqb→eq (word_at strip 1) A.states count;
        zero = eqb→eq (word_at strip 2) 0 zero;
        long = leb→le (3 + A.states) (length strip) long;
        ranking = record {
          small = λ s in'. leb→le (rank_at strip s) greatest_rank (given_passes (inside s) _ (state s (within s in')).0 in');
          starts = λ s start. given_passes (A.start s) (inside s) (state s (sound.starts s start)).1 start;
          stays = λ s a t in' goes. (step s a t in' goes).0;
          falls = λ s a t in' goes. leb→le (rank_at strip t) (rank_at strip s) (step s a t in' goes).1.0;
          drops = λ s a t in' goes good. ltb→lt (rank_at strip t) (rank_at strip s) (given_passes (A.good s) _ (step s a t in' goes).1.1.0 good);
        };
      }

-- what a pair accepts is accepted by both parts
shared_word : (shape : Shape) → T (keeps shape) → SomeWord (meaning shape) → OfParts SharedWord shape
shared_word (table n p starts goods cells) h some = tt
shared_word (again i p) h some = tt
shared_word (settles i p) h some = tt
shared_word (pair a b) h (w, accepted) =
    let (first, second) = parts_keep a b h in
    let (x, y) = (pair_accepts_both (meaning a) (meaning b) (keeps_sound a first) (keeps_sound b second) w).0 accepted in
    (w, x, y)

no_shared_word : (shape : Shape) → T (keeps shape) → (SomeWord (meaning shape) → ⊥) → OfParts (λ A B. SharedWord A B → ⊥) shape
no_shared_word (table n p starts goods cells) h none = tt
no_shared_word (again i p) h none = tt
no_shared_word (settles i p) h none = tt
no_shared_word (pair a b) h none =
    let (first, second) = parts_keep a b h in
    λ (w, x, y). none (w, (pair_accepts_both (meaning a) (meaning b) (keeps_sound a first) (keeps_sound b second) w).1 (x, y))

module _ (shape : Shape) (strip : List ℕ) (kept : T (keeps shape)) where
  abbrev A : Meaning
  A = meaning shape

  told_lasso : TellsLasso A strip → ShowsWord shape strip
  told_lasso tells =
      let word = told_lasso_shows_word A strip tells in
      record { tells = tells; word = word; shared = shared_word shape kept word; unranked = λ inside rank ranking. ranking_refutes_lem A inside rank ranking word }

  told_ranking : TellsRanking A strip → RulesOut shape strip
  told_ranking tells =
      let none = told_ranking_refutes A strip tells in
      record { tells = tells; no_word = none; no_shared = no_shared_word shape kept none; no_lasso = λ lasso. none (lasso_shows_word_lem A lasso) }

abbrev pub judged : Shape → List ℕ → Bool
judged shape strip = keeps shape && (every (lasso_tests (meaning shape) strip) || every (ranking_tests (meaning shape) strip))

pub judged_holds : (shape : Shape) (strip : List ℕ) → T (judged shape strip) → Judged shape strip
judged_holds shape strip h =
    let (kept, evident) = parts_pass (keeps shape) _ h in
    let sound = keeps_sound shape kept in
    record {
      sound = sound;
      evidence = ⊎_elim
          (λ p. inl (told_lasso shape strip kept (tells_lasso (meaning shape) strip p)))
          (λ p. inr (told_ranking shape strip kept (tells_ranking (meaning shape) strip sound p)))
          (one_passes (every (lasso_tests (meaning shape) strip)) _ evident);
    }
