-- Every text has a cut: from each position something is found, and what is left of the text gets shorter.
use Rattle.std.proofs.Common.{◌≡◌, ℕ, zero, suc, ◌+◌, ◌<◌, ◌≤◌, Bool, true, false, ◌⊎◌, List, [], ◌∷◌, length, get_or, sym, refl, ap, ◌∙◌, inl, inr, ⊎_elim, arith}
use Rattle.std.proofs.lemmas.List.{get_or_past}
use Rattle.std.proofs.lemmas.Bool.{cases_Bool, cases_lt, cases_eq}
use Rattle.hoa_tokens.specs.declared.class.Class.TheVariants as class
use Rattle.hoa_tokens.specs.declared.token.Mark.{Mark}
use Rattle.hoa_tokens.specs.declared.token.Mark.TheVariants.{Or}
use Rattle.hoa_tokens.specs.Bytes.{blank, letter, digit, nameable, quote, colon, member, sign, NoMark}
use Rattle.hoa_tokens.specs.Items.{Run, Kind}
use Rattle.hoa_tokens.specs.Scanning.{Found, token, fault, word, number, name, mark, end, item_found, Stands, Scanned, Ahead}
use Rattle.hoa_tokens.specs.Cuts.{Cut}
use Rattle.hoa_tokens.specs.Steps.{WithColon, closes}
use Rattle.hoa_tokens.proofs.Runs.{run_by_prefix}
use Rattle.hoa_tokens.proofs.FirstBytes.{kind_at, kind_at_lem}
use Rattle.hoa_tokens.proofs.Longest.{word_longest, digits_longest, mark_longest, none_begins}
use Rattle.hoa_tokens.proofs.Standing.{name_stands, name_refused}
use Rattle.hoa_tokens.proofs.Once.{scanned_ahead}

-- a class that leaves out 0 has a run from each position
run_exists : (test : ℕ → Bool) → test 0 ≡ false → (text : List ℕ) (from : ℕ) → from ≤ length text → (to : ℕ) × Run test text from to
run_exists test none text from inside = (_, run_by_prefix test none text from inside)

colon_exists : (text : List ℕ) (stem : ℕ) → (next : ℕ) × WithColon text stem next
colon_exists text stem =
    ⊎_elim
    (λ is.
    let inside : stem < length text = ⊎_elim (λ h. h) (λ past. absurd (omega (arith, get_or_past text stem 0 past, is))) (cases_lt stem (length text)) in
    (stem + 1, inl (refl, inside, is)))
    (λ other. (stem, inr (refl, other)))
    (cases_eq (get_or text stem 0) colon)

-- the mark of a mark's kind, and some mark for the others
abbrev mark_in : Kind → Mark
mark_in Kind.word = Or
mark_in Kind.digits = Or
mark_in Kind.name = Or
mark_in (Kind.mark m) = m

mark_or_none : (b : ℕ) → ((m : Mark) × (b ≡ sign m)) ⊎ NoMark b
mark_or_none b =
    ⊎_elim
    (λ is. inl (mark_in (kind_at b), is))
    (λ other. inr (λ m e. other (e ∙ ap (λ kind. sign (mark_in kind)) (sym (kind_at_lem (Kind.mark m) (b ∷ []) 0 1 (refl, e))))))
    (cases_eq b (sign (mark_in (kind_at b))))

module _ (text : List ℕ) (place : ℕ) (inside : place < length text) where
  abbrev b : ℕ
  b = get_or text place 0

  abbrev Something : Type 0
  Something = (x : Found) × Stands text place x

  word_stands : letter b ≡ true → Something
  word_stands first =
      let stem = run_exists (member class.Word) refl text place (omega arith) in
      let next = colon_exists text stem.0 in
      (item_found Kind.word text place next.0, Stands.item Kind.word next.0 (word_longest text place stem.0 next.0 first stem.1 next.1))

  digits_stand : digit b ≡ true → Something
  digits_stand first =
      let run = run_exists digit refl text place (omega arith) in
      (item_found Kind.digits text place run.0, Stands.item Kind.digits run.0 (digits_longest text place run.0 first run.1))

  quote_stands : b ≡ quote → Something
  quote_stands first =
      let run = run_exists nameable refl text (place + 1) (omega arith) in
      ⊎_elim
      (λ closed. (_, name_stands text place run.0 inside first run.1 closed))
      (λ shut. (_, name_refused text place run.0 inside first run.1 shut))
      (cases_Bool (closes text (place + 1) run.0))

  other_stands : letter b ≡ false → digit b ≡ false → (b ≡ quote → ⊥) → Something
  other_stands l d q =
      ⊎_elim
      (λ m. (_, Stands.item (Kind.mark m.0) (place + 1) (mark_longest m.0 text place m.1)))
      (λ none. (_, Stands.nothing inside (none_begins text place l d q none)))
      (mark_or_none b)

  byte_stands : Something
  byte_stands =
      ⊎_elim word_stands
      (λ l. ⊎_elim digits_stand (λ d. ⊎_elim quote_stands (other_stands l d) (cases_eq b quote)) (cases_Bool (digit b)))
      (cases_Bool (letter b))

stands_exists : (text : List ℕ) (place : ℕ) → place ≤ length text → (x : Found) × Stands text place x
stands_exists text place inside = ⊎_elim (byte_stands text place) (λ past. (token end place place, Stands.ended (omega arith))) (cases_lt place (length text))

scan_exists : (text : List ℕ) (from : ℕ) → from ≤ length text → (x : Found) × Scanned text from x
scan_exists text from inside =
    let run = run_exists blank refl text from inside in
    let s = stands_exists text run.0 run.1.within in
    (s.0, record { place = run.0; blanks = run.1; stands = s.1 })

abbrev CutFrom : List ℕ → ℕ → Type 0
CutFrom text from = (finds : List Found) × Cut text from finds

cut_behind : (text : List ℕ) (from : ℕ) (x : Found) → Scanned text from x → Ahead text from x → ((next : ℕ) → from < next → next ≤ length text → CutFrom text next) → CutFrom text from
cut_behind text from (token (word w) place next) s a rest = let r = rest next a.0 a.1 in (token (word w) place next ∷ r.0, (s, r.1))
cut_behind text from (token (number n) place next) s a rest = let r = rest next a.0 a.1 in (token (number n) place next ∷ r.0, (s, r.1))
cut_behind text from (token (name w) place next) s a rest = let r = rest next a.0 a.1 in (token (name w) place next ∷ r.0, (s, r.1))
cut_behind text from (token (mark m) place next) s a rest = let r = rest next a.0 a.1 in (token (mark m) place next ∷ r.0, (s, r.1))
cut_behind text from (token end place next) s a rest = (token end place next ∷ [], (s, refl))
cut_behind text from (fault f) s a rest = (fault f ∷ [], (s, refl))

cut_scanned : (text : List ℕ) (from : ℕ) → from ≤ length text → ((next : ℕ) → from < next → next ≤ length text → CutFrom text next) → CutFrom text from
cut_scanned text from inside rest = let s = scan_exists text from inside in cut_behind text from s.0 s.1 (scanned_ahead text from s.0 s.1) rest

-- a cut from a position, with at most so many bytes left
cut_left : (left : ℕ) (text : List ℕ) (from : ℕ) → from ≤ length text → length text ≤ from + left → CutFrom text from
cut_left zero text from inside all = cut_scanned text from inside (λ next on within. absurd (omega arith))
cut_left (suc left) text from inside all = cut_scanned text from inside (λ next on within. cut_left left text next within (omega arith))

pub cut_from : (text : List ℕ) (from : ℕ) → from ≤ length text → (finds : List Found) × Cut text from finds
cut_from text from inside = cut_left (length text) text from inside (omega arith)

pub cut_exists : (text : List ℕ) → (finds : List Found) × Cut text 0 finds
cut_exists text = cut_from text 0 (omega arith)
