-- For each kind of token: the item that the scanner takes is the longest; and where it takes none, none begins.
use Rattle.std.proofs.Common.{◌≡◌, ℕ, ◌+◌, ◌-◌, ◌<◌, ◌≤◌, Bool, true, false, ◌||◌, List, length, get_or, sym, refl, ap, ◌∙◌, subst, inl, inr, ⊎_elim, arith}
use Rattle.std.proofs.lemmas.List.{get_or_past}
use Rattle.std.proofs.lemmas.Bool.Decides.{nat_tests}
use Rattle.std.proofs.str.Laws.{order}
use Rattle.hoa_tokens.specs.declared.class.Class.TheVariants as class
use Rattle.hoa_tokens.specs.declared.token.Mark.{Mark}
use Rattle.hoa_tokens.specs.Bytes.{letter, digit, nameable, quote, colon, member, sign, NoMark}
use Rattle.hoa_tokens.specs.Items.{Each, Run, Stem, Kind, word, digits, name, mark, Item, Longest}
use Rattle.hoa_tokens.specs.Steps.{WithColon, closes}
use Rattle.hoa_tokens.proofs.FirstBytes.{never, kind_at, kind_at_lem, longest_of}

-- bytes that all pass end no later than the run of them
pub each_in_run : (test : ℕ → Bool) (text : List ℕ) (from to end : ℕ) → Run test text from to → Each test text from end → end ≤ to
each_in_run test text from to end run each =
    ⊎_elim (λ past. absurd (never _ (each to run.forward past) run.stops)) (λ low. low) (order to end)

-- a run whose first byte passes has one
pub run_some : (test : ℕ → Bool) (text : List ℕ) (from to : ℕ) → Run test text from to → test (get_or text from 0) ≡ true → from < to
run_some test text from to run first =
    ⊎_elim (λ some. some) (λ none. let same : to ≡ from = omega (arith, run.forward) in absurd (never _ first (subst (λ i. test (get_or text i 0) ≡ false) same run.stops))) (order from to)

module _ (text : List ℕ) (place stem next : ℕ) (first : letter (get_or text place 0) ≡ true) (run : Run (member class.Word) text place stem) (ends : WithColon text stem next) where
  the_stem : Stem text place stem
  the_stem = (run_some _ text place stem run (ap (λ v. v || digit (get_or text place 0)) first), first, run.each)

  the_word : Item word text place next
  the_word =
      ⊎_elim
      (λ w. let back : stem ≡ next - 1 = omega (arith, w.0) in inr (subst (Stem text place) back the_stem, subst (λ i. get_or text i 0 ≡ colon) back w.2))
      (λ w. inl (subst (Stem text place) (sym w.0) the_stem))
      ends

  -- a stem and a colon behind it end no later
  with_colon : (end : ℕ) → Stem text place (end - 1) → get_or text (end - 1) 0 ≡ colon → end ≤ next
  with_colon end s col =
      ⊎_elim
      (λ inside. absurd (never _ (run.each (end - 1) (omega (arith, s.0)) inside) (ap (member class.Word) col)))
      (λ past.
      let same : end - 1 ≡ stem = omega (arith, each_in_run _ text place stem (end - 1) run s.2) in
      ⊎_elim (λ w. omega (arith, w.0)) (λ w. absurd (w.1 (subst (λ i. get_or text i 0 ≡ colon) same col))) ends)
      (order (end - 1) stem)

  longest_word : (end : ℕ) → Item word text place end → end ≤ next
  longest_word end (inl s) =
      let low = each_in_run _ text place stem end run s.2 in
      ⊎_elim (λ w. omega (arith, w.0)) (λ w. omega (arith, w.0)) ends
  longest_word end (inr s) = with_colon end s.0 s.1

  pub word_longest : Longest word text place next
  word_longest = longest_of word text place next the_word longest_word

pub digits_longest : (text : List ℕ) (place next : ℕ) → digit (get_or text place 0) ≡ true → Run digit text place next → Longest digits text place next
digits_longest text place next first run =
    longest_of digits text place next (run_some digit text place next run first, run.each) (λ end d. each_in_run digit text place next end run d.1)

module _ (text : List ℕ) (place end : ℕ) (first : get_or text place 0 ≡ quote) (run : Run nameable text (place + 1) end) where
  -- a name that begins here ends right behind the run
  name_end : (to : ℕ) → Item name text place to → to ≡ end + 1
  name_end to n =
      ⊎_elim
      (λ inside. absurd (never _ (run.each (to - 1) (omega (arith, n.3)) inside) (ap nameable n.1)))
      (λ past. omega (arith, each_in_run nameable text (place + 1) end (to - 1) run n.2, n.3))
      (order (to - 1) end)

  pub name_longest : closes text (place + 1) end ≡ true → Longest name text place (end + 1)
  name_longest closed =
      let back : end ≡ end + 1 - 1 = omega arith in
      let last : get_or text end 0 ≡ quote = grind (arith, nat_tests) in
      let low : place + 3 ≤ end + 1 = grind (arith, nat_tests) in
      let high : end + 1 ≤ place + 34 = grind (arith, nat_tests) in
      longest_of name text place (end + 1)
      (first, subst (λ i. get_or text i 0 ≡ quote) back last, subst (λ i. Each nameable text (place + 1) i) back run.each, low, high)
      (λ to n. omega (arith, name_end to n))

  closing : (to : ℕ) → Item name text place to → closes text (place + 1) end ≡ true
  closing to n =
      let same : to - 1 ≡ end = omega (arith, name_end to n) in
      let last : get_or text end 0 ≡ quote = subst (λ i. get_or text i 0 ≡ quote) same n.1 in
      let some : end < length text = ⊎_elim (λ h. h) (λ past. absurd (omega (arith, get_or_past text end 0 past, last))) (order end (length text)) in
      let low : place + 3 ≤ end + 1 = omega (arith, n.3, name_end to n) in
      let high : end + 1 ≤ place + 34 = omega (arith, n.4, name_end to n) in
      grind (arith, nat_tests)

  pub no_name : closes text (place + 1) end ≡ false → (kind : Kind) (to : ℕ) → Item kind text place to → ⊥
  no_name shut kind to it =
      let is : kind ≡ name = sym (kind_at_lem kind text place to it) ∙ ap kind_at first in
      never _ (closing to (subst (λ k. Item k text place to) is it)) shut

pub mark_longest : (m : Mark) (text : List ℕ) (place : ℕ) → get_or text place 0 ≡ sign m → Longest (mark m) text place (place + 1)
mark_longest m text place is = longest_of (mark m) text place (place + 1) (refl, is) (λ end o. omega (arith, o.0))

-- a byte that is no letter, digit, quote or mark begins no item
pub none_begins : (text : List ℕ) (place : ℕ) → letter (get_or text place 0) ≡ false → digit (get_or text place 0) ≡ false → (get_or text place 0 ≡ quote → ⊥) → NoMark (get_or text place 0) → (kind : Kind) (to : ℕ) → Item kind text place to → ⊥
none_begins text place l d q m word to (inl s) = never _ s.1 l
none_begins text place l d q m word to (inr s) = never _ s.0.1 l
none_begins text place l d q m digits to s = never _ (s.1 place (omega arith) s.0) d
none_begins text place l d q m name to s = q s.0
none_begins text place l d q m (mark k) to s = m k s.1
