-- A text that passes its tests writes a document, or is refused with the fault.
use Rattle.std.proofs.Common.{◌≡◌, ℕ, ◌+◌, Bool, true, false, cond, T, eqb, leb, List, [], ◌∷◌, length, sym, refl, ap, ◌∙◌, subst, ⊎_elim, eqb→eq, leb→le}
use Rattle.hoa_tokens.specs.declared.fault.Fault.{Fault}
use Rattle.hoa_tokens.specs.declared.fault.Refusal.{Refusal}
use Rattle.hoa_tokens.specs.declared.fault.Refusal.TheVariants.{BadByte, BadNumber, Unexpected, TooMany, OutOfRange, Repeated, TooDeep, TooLong, Unreadable}
use Rattle.hoa_tokens.specs.declared.fault.Layer.{Layer}
use Rattle.hoa_tokens.specs.declared.fault.Layer.TheVariants.{Bytes, Grammar, Meaning}
use Rattle.hoa_tokens.specs.Numbers.{longest_text, refusal_number, layer_number}
use Rattle.hoa_tokens.specs.Scanning.{Found}
use Rattle.hoa_grammar.specs.Documents.{Document}
use Rattle.hoa_grammar.specs.Machine.{initial, Outcome, reading, refused, run}
use Rattle.hoa_grammar.proofs.Outcomes.{run_first_fault, first_fault_run}
use Rattle.hoa_grammar.proofs.Laws.{every_text_read_lem}
use Rattle.hoa_document.specs.Denoting.{TextWrites, TextRefused, faulty}
use Rattle.worked.proofs.Tests.{every, each_passes}
use Rattle.worked.proofs.Cuts.{found, cuts, cuts_cut}

-- a refusal and a layer are known by their numbers
abbrev refusal_of : ℕ → Refusal
refusal_of k = cond (eqb k 11) BadByte (cond (eqb k 12) BadNumber (cond (eqb k 13) Unexpected (cond (eqb k 14) TooMany (cond (eqb k 15) OutOfRange (cond (eqb k 16) Repeated (cond (eqb k 17) TooDeep (cond (eqb k 18) TooLong Unreadable)))))))

refusal_of_number : (r : Refusal) → refusal_of (refusal_number r) ≡ r
refusal_of_number BadByte = refl
refusal_of_number BadNumber = refl
refusal_of_number Unexpected = refl
refusal_of_number TooMany = refl
refusal_of_number OutOfRange = refl
refusal_of_number Repeated = refl
refusal_of_number TooDeep = refl
refusal_of_number TooLong = refl
refusal_of_number Unreadable = refl

abbrev layer_at : ℕ → Layer
layer_at k = cond (eqb k 1) Bytes (cond (eqb k 2) Grammar Meaning)

layer_of_number : (y : Layer) → layer_at (layer_number y) ≡ y
layer_of_number Bytes = refl
layer_of_number Grammar = refl
layer_of_number Meaning = refl

abbrev same_tests : Fault → Fault → List Bool
same_tests f g = eqb (refusal_number f.refusal) (refusal_number g.refusal) ∷ eqb f.place g.place ∷ eqb (layer_number f.layer) (layer_number g.layer) ∷ []

same_fault : (f g : Fault) → T (every (same_tests f g)) → f ≡ g
same_fault f g h =
    let (refusals, (places, (layers, _))) = each_passes (same_tests f g) h in
    let r : f.refusal ≡ g.refusal = sym (refusal_of_number f.refusal) ∙ ap refusal_of (eqb→eq _ (refusal_number g.refusal) refusals) ∙ refusal_of_number g.refusal in
    let p : f.place ≡ g.place = eqb→eq f.place g.place places in
    let y : f.layer ≡ g.layer = sym (layer_of_number f.layer) ∙ ap layer_at (eqb→eq _ (layer_number g.layer) layers) ∙ layer_of_number g.layer in
    ap (λ x. record { refusal = x; place = f.place; layer = f.layer }) r ∙ ap (λ x. record { refusal = g.refusal; place = x; layer = f.layer }) p ∙ ap (λ x. record { refusal = g.refusal; place = g.place; layer = x }) y

abbrev is_reading : Outcome → Bool
is_reading (reading s) = true
is_reading (refused f) = false

abbrev is_refused : Fault → Outcome → Bool
is_refused f (reading s) = false
is_refused f (refused g) = every (same_tests g f)

is_refused_lem : (f : Fault) (o : Outcome) → T (is_refused f o) → o ≡ refused f
is_refused_lem f (reading s) h = absurd h
is_refused_lem f (refused g) h = ap refused (same_fault g f h)

module _ (text : List ℕ) where
  abbrev finds : List Found
  finds = found (length text + 1) text 0

  -- the text is short enough, its finds are its cut, and the machine's outcome over them passes
  abbrev tests : (Outcome → Bool) → List Bool
  tests outcome = leb (length text) longest_text ∷ cuts (length text + 1) text 0 ∷ outcome (run (reading initial) finds) ∷ []

  abbrev pub readable : Bool
  readable = every (tests is_reading)

  pub readable_holds : T readable → (d : Document) × TextWrites text d
  readable_holds h =
      let (short, (cut, (outcome, _))) = each_passes (tests is_reading) h in
      let whole = cuts_cut (length text + 1) text 0 cut in
      ⊎_elim
      (λ (d, writes). (d, record { short = leb→le (length text) longest_text short; finds = finds; cut = whole; writes = writes }))
      (λ (f, first). absurd (subst (λ o. T (is_reading o)) (first_fault_run finds f first) outcome))
      (every_text_read_lem text finds whole)

  abbrev pub refusable : Fault → Bool
  refusable f = every (tests (is_refused f))

  pub refusable_holds : (f : Fault) → T (refusable f) → TextRefused text f
  refusable_holds f h =
      let (short, (cut, (outcome, _))) = each_passes (tests (is_refused f)) h in
      faulty (leb→le (length text) longest_text short) finds (cuts_cut (length text + 1) text 0 cut) (run_first_fault finds f (is_refused_lem f (run (reading initial) finds) outcome))
