-- A strip of zeros with the opening words of a ranking and with settled ranks behind them tells the least ranking.
use Rattle.std.proofs.Common.{◌≡◌, ℕ, ◌+◌, ◌-◌, ◌<◌, ◌≤◌, List, ◌++◌, length, take, drop, set, replicate, sym, ap, ◌∙◌, arith, length-set}
use borrow.Rule.Slice.PartMut.{put_mid, post_of}
use Rattle.std.proofs.lemmas.List.{length-take-le, length-append, length-drop, get_or_append_left, get_or-append-add, get_or-take, get_or-drop, get_or-set_same, get_or-set_other}
use Rattle.omega.specs.Automata.{Meaning, Sound}
use Rattle.evidence.specs.Strips.{word_at, verdict_number}
use Rattle.evidence.specs.declared.verdict.Verdict.TheVariants as verdict
use Rattle.tables.proofs.Added.{zero_everywhere}
use Rattle.relaxing.proofs.Settled.{settled_least}
use Rattle.rankings.specs.Deciding.{LeastTold}
use Rattle.rankings.specs.Ranks.{Settled}

-- the words of a strip after a write of ys to its part of k words from a on
module _ (a k : ℕ) (xs ys : List ℕ) (inside : a + k ≤ length xs) (part : length ys ≡ k) where
  front : length (take a xs) ≡ a
  front = length-take-le a xs (omega arith)

  pub word_before : (i : ℕ) → i < a → word_at (put_mid a k xs ys) i ≡ word_at xs i
  word_before i b = get_or_append_left (take a xs) (ys ++ post_of a k xs) 0 i (omega (arith, front)) ∙ get_or-take a xs i 0 b

  word_from : (i : ℕ) → word_at (put_mid a k xs ys) (a + i) ≡ word_at (ys ++ post_of a k xs) i
  word_from i = ap (λ n. word_at (put_mid a k xs ys) (n + i)) (sym front) ∙ get_or-append-add (take a xs) (ys ++ post_of a k xs) i 0

  pub word_within : (i : ℕ) → i < k → word_at (put_mid a k xs ys) (a + i) ≡ word_at ys i
  word_within i b = word_from i ∙ get_or_append_left ys (post_of a k xs) 0 i (omega arith)

  word_past : (j : ℕ) → word_at (put_mid a k xs ys) (a + (k + j)) ≡ word_at xs (a + (k + j))
  word_past j =
      word_from (k + j) ∙ ap (λ n. word_at (ys ++ post_of a k xs) (n + j)) (sym part) ∙ get_or-append-add ys (post_of a k xs) j 0
      ∙ get_or-drop k (drop a xs) j 0 ∙ get_or-drop a xs (k + j) 0

  pub word_behind : (i : ℕ) → a + k ≤ i → word_at (put_mid a k xs ys) i ≡ word_at xs i
  word_behind i late =
      let e : i ≡ a + (k + (i - (a + k))) = omega arith in
      ap (word_at (put_mid a k xs ys)) e ∙ word_past (i - (a + k)) ∙ ap (word_at xs) (sym e)

  pub written_length : length (put_mid a k xs ys) ≡ length xs
  written_length =
      omega (arith, front, length-append (take a xs) (ys ++ post_of a k xs), length-append ys (post_of a k xs), length-drop k (drop a xs), length-drop a xs)

module _ (A : Meaning) (sound : Sound A) (strip ranks : List ℕ) (n k first : ℕ) (settled : Settled A ranks) (part : k ≡ n) (states : n ≡ A.states)
    (opening : first ≡ verdict_number verdict.Ranking) (long : 4 + n ≤ length strip) (clear : strip ≡ replicate (length strip) 0) where
  opened : List ℕ
  opened = set (set strip 0 first) 1 n

  -- only the two opening words are not 0
  opened_zero : (i : ℕ) → 2 ≤ i → word_at opened i ≡ 0
  unfolding opened
  opened_zero i late =
      get_or-set_other (set strip 0 first) 1 i n 0 (omega arith) ∙ get_or-set_other strip 0 i first 0 (omega arith)
      ∙ ap (λ words. word_at words i) clear ∙ zero_everywhere (length strip) i

  opened_length : length opened ≡ length strip
  unfolding opened
  opened_length = length-set (set strip 0 first) 1 n ∙ length-set strip 0 first

  pub written_tells : LeastTold A (put_mid 3 k (set (set strip 0 first) 1 n) ranks)
  unfolding opened
  written_tells =
      let written : List ℕ = put_mid 3 k opened ranks in
      let inside : 3 + k ≤ length opened = omega (arith, opened_length) in
      let exact : length ranks ≡ k = settled.forced.long ∙ sym states ∙ sym part in
      let before = word_before 3 k opened ranks inside exact in
      let behind = word_behind 3 k opened ranks inside exact in
      let least = settled_least A sound ranks settled.forced settled.low settled.met written
      (λ s b. sym (word_within 3 k opened ranks inside exact s (omega arith))) in
      record {
        tells = record {
          verdict = before 0 (omega arith) ∙ get_or-set_other (set strip 0 first) 1 0 n 0 (omega arith) ∙ get_or-set_same strip 0 first 0 (omega arith) ∙ opening;
          states = before 1 (omega arith) ∙ get_or-set_same (set strip 0 first) 1 n 0 (omega (arith, length-set strip 0 first)) ∙ states;
          zero = before 2 (omega arith) ∙ opened_zero 2 (omega arith);
          long = omega (arith, written_length 3 k opened ranks inside exact, opened_length);
          ranking = least.ranking;
        };
        least = least;
        rest = λ i late. behind i (omega arith) ∙ opened_zero i (omega arith);
      }
