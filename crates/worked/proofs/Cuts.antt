-- What scanning finds in a text, computed, and a test that this is its cut.
use Rattle.std.proofs.Common.{◌≡◌, ℕ, zero, suc, ◌+◌, ◌-◌, Bool, true, false, cond, not, ◌&&◌, T, eqb, ltb, leb, List, [], ◌∷◌, length, get_or, drop, refl, subst, inl, inr, arith, eqb→eq, ltb→lt, leb→le}
use Rattle.std.proofs.lemmas.Bool.{eqb-true, eqb-false, cond_both}
use Rattle.std.specs.List.{prefix_len}
use Rattle.hoa_tokens.specs.declared.class.Class.TheVariants as class
use Rattle.hoa_tokens.specs.Bytes.{blank, letter, digit, nameable, quote, colon, member, sign, value, plain}
use Rattle.hoa_tokens.specs.Items.{span, Run, Kind}
use Rattle.hoa_tokens.specs.Scanning.{Lexeme, word, number, name, mark, end, Found, token, Stands}
use Rattle.hoa_tokens.specs.Cuts.{Behind, Cut}
use Rattle.hoa_tokens.specs.Steps.{WithColon, closes}
use Rattle.hoa_tokens.proofs.FirstBytes.{kind_at}
use Rattle.hoa_tokens.proofs.Longest.{word_longest, mark_longest}
use Rattle.hoa_tokens.proofs.Standing.{number_stands, name_stands}
use Rattle.omega.proofs.Tests.{parts_pass}
use Rattle.worked.proofs.Tests.{every, each_passes, below, below_passes, given, given_passes, passes_true, true_passes, fails_false}

module _ (test : ℕ → Bool) (text : List ℕ) (from : ℕ) where
  -- the place behind the bytes that pass
  abbrev end_of_run : ℕ
  end_of_run = from + prefix_len test (drop from text)

  abbrev run_tests : List Bool
  run_tests = leb end_of_run (length text) ∷ below (end_of_run - from) (λ i. test (get_or text (from + i) 0)) ∷ not (test (get_or text end_of_run 0)) ∷ []

  is_run : T (every run_tests) → Run test text from end_of_run
  is_run h =
      let (within, (each, (stops, _))) = each_passes run_tests h in
      record {
        forward = omega arith;
        within = leb→le end_of_run (length text) within;
        each = λ i low high.
            let same : from + (i - from) ≡ i = omega arith in
            subst (λ j. test (get_or text j 0) ≡ true) same (passes_true _ (below_passes (end_of_run - from) (λ k. test (get_or text (from + k) 0)) each (i - from) (omega arith)));
        stops = fails_false (test (get_or text end_of_run 0)) stops;
      }

module _ (text : List ℕ) (place : ℕ) where
  abbrev stem : ℕ
  stem = end_of_run (member class.Word) text place

  abbrev quoted : ℕ
  quoted = end_of_run nameable text (place + 1)

  -- the place behind the item of the kind
  abbrev ends : Kind → ℕ
  ends Kind.word = cond (eqb (get_or text stem 0) colon) (stem + 1) stem
  ends Kind.digits = end_of_run digit text place
  ends Kind.name = quoted + 1
  ends (Kind.mark m) = place + 1

  abbrev lexeme_at : Kind → Lexeme
  lexeme_at Kind.word = word (span text place (ends Kind.word))
  lexeme_at Kind.digits = number (value (span text place (ends Kind.digits)))
  lexeme_at Kind.name = name (span text (place + 1) quoted)
  lexeme_at (Kind.mark m) = mark m

  abbrev token_at : Kind → Found
  token_at kind = token (lexeme_at kind) place (ends kind)

  abbrev item_tests : Kind → List Bool
  item_tests Kind.word = letter (get_or text place 0) ∷ every (run_tests (member class.Word) text place) ∷ given (eqb (get_or text stem 0) colon) (ltb stem (length text)) ∷ []
  item_tests Kind.digits = digit (get_or text place 0) ∷ every (run_tests digit text place) ∷ plain (span text place (ends Kind.digits)) ∷ []
  item_tests Kind.name = ltb place (length text) ∷ eqb (get_or text place 0) quote ∷ every (run_tests nameable text (place + 1)) ∷ closes text (place + 1) quoted ∷ []
  item_tests (Kind.mark m) = eqb (get_or text place 0) (sign m) ∷ []

  with_colon : T (given (eqb (get_or text stem 0) colon) (ltb stem (length text))) → WithColon text stem (ends Kind.word)
  with_colon h =
      cond_both (eqb (get_or text stem 0) colon) (stem + 1) stem (WithColon text stem)
      (λ e. inl (refl, ltb→lt stem (length text) (given_passes (eqb (get_or text stem 0) colon) _ h (true_passes _ e)), eqb-true (get_or text stem 0) colon e))
      (λ e. inr (refl, eqb-false (get_or text stem 0) colon e))

  item_stands : (kind : Kind) → T (every (item_tests kind)) → Stands text place (token_at kind)
  item_stands Kind.word h =
      let (first, (run, (colons, _))) = each_passes (item_tests Kind.word) h in
      Stands.item Kind.word (ends Kind.word) (word_longest text place stem (ends Kind.word) (passes_true _ first) (is_run (member class.Word) text place run) (with_colon colons))
  item_stands Kind.digits h =
      let (first, (run, (fine, _))) = each_passes (item_tests Kind.digits) h in
      number_stands text place (ends Kind.digits) (passes_true _ first) (is_run digit text place run) (value (span text place (ends Kind.digits))) (passes_true _ fine) refl
  item_stands Kind.name h =
      let (inside, (first, (run, (closed, _)))) = each_passes (item_tests Kind.name) h in
      name_stands text place quoted (ltb→lt place (length text) inside) (eqb→eq (get_or text place 0) quote first) (is_run nameable text (place + 1) run) (passes_true _ closed)
  item_stands (Kind.mark m) h =
      Stands.item (Kind.mark m) (place + 1) (mark_longest m text place (eqb→eq (get_or text place 0) (sign m) (each_passes (item_tests (Kind.mark m)) h).0))

  -- behind an item the text goes on
  behind_item : (kind : Kind) (more : ℕ → Type 0) (none : Type 0) → more (ends kind) → Behind more none (token_at kind)
  behind_item Kind.word more none h = h
  behind_item Kind.digits more none h = h
  behind_item Kind.name more none h = h
  behind_item (Kind.mark m) more none h = h

abbrev kind_in : List ℕ → ℕ → Kind
kind_in text place = kind_at (get_or text place 0)

-- what is found at a place, which is the text's end or not, with what is found behind it
abbrev found_at : Bool → List ℕ → ℕ → (ℕ → List Found) → List Found
found_at true text place behind = token end place place ∷ []
found_at false text place behind = token_at text place (kind_in text place) ∷ behind (ends text place (kind_in text place))

abbrev passes_at : Bool → List ℕ → ℕ → (ℕ → Bool) → Bool
passes_at true text place behind = true
passes_at false text place behind = every (item_tests text place (kind_in text place)) && behind (ends text place (kind_in text place))

-- what is found from a position on, if that is at most k tokens
abbrev pub found : ℕ → List ℕ → ℕ → List Found
found zero text from = []
found (suc k) text from = found_at (eqb (end_of_run blank text from) (length text)) text (end_of_run blank text from) (λ next. found k text next)

abbrev pub cuts : ℕ → List ℕ → ℕ → Bool
cuts zero text from = false
cuts (suc k) text from = every (run_tests blank text from) && passes_at (eqb (end_of_run blank text from) (length text)) text (end_of_run blank text from) (λ next. cuts k text next)

cut_at : (b : Bool) (text : List ℕ) (from place : ℕ) (behind : ℕ → List Found) (passes : ℕ → Bool) → ((next : ℕ) → T (passes next) → Cut text next (behind next)) → eqb place (length text) ≡ b → Run blank text from place → T (passes_at b text place passes) → Cut text from (found_at b text place behind)
cut_at true text from place behind passes rest e run h = (record { place = place; blanks = run; stands = Stands.ended (eqb-true place (length text) e) }, refl)
cut_at false text from place behind passes rest e run h =
    let kind = kind_in text place in
    let next = ends text place kind in
    let (stands, on) = parts_pass (every (item_tests text place kind)) (passes next) h in
    (record { place = place; blanks = run; stands = item_stands text place kind stands }, behind_item text place kind (λ i. Cut text i (behind next)) (behind next ≡ []) (rest next on))

pub cuts_cut : (k : ℕ) (text : List ℕ) (from : ℕ) → T (cuts k text from) → Cut text from (found k text from)
cuts_cut zero text from h = absurd h
cuts_cut (suc k) text from h =
    let place = end_of_run blank text from in
    let (blanks, on) = parts_pass (every (run_tests blank text from)) _ h in
    cut_at (eqb place (length text)) text from place (λ next. found k text next) (λ next. cuts k text next) (λ next. cuts_cut k text next) refl (is_run blank text from blanks) on
