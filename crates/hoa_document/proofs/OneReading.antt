-- A text says one thing only, since it has one cut and the machine runs on it in one way.
use Rattle.std.proofs.Common.{◌≡◌, ℕ, List, sym, refl, ◌∙◌, subst, arith}
use Rattle.hoa_tokens.specs.declared.fault.Fault.{Fault}
use Rattle.hoa_tokens.specs.Scanning.{Found}
use Rattle.hoa_tokens.specs.Cuts.{Cut}
use Rattle.hoa_tokens.proofs.Cutting.{one_cut}
use Rattle.hoa_grammar.specs.Documents.{Document}
use Rattle.hoa_grammar.specs.Machine.{at, done, initial, Outcome, reading, refused, run}
use Rattle.hoa_grammar.proofs.Outcomes.{writes_run, first_fault_run}
use Rattle.hoa_document.specs.Denoting.{TextWrites, TextRefused, too_long, faulty, SaysOne}

-- what a machine comes to on the cut of a text
record Comes (text : List ℕ) (o : Outcome) : Type 0 where
  finds : List Found
  cut : Cut text 0 finds
  runs : run (reading initial) finds ≡ o

comes_once : (text : List ℕ) (o p : Outcome) → Comes text o → Comes text p → o ≡ p
comes_once text o p x y =
    let same : y.finds ≡ x.finds = one_cut text x.finds y.finds 0 x.cut y.cut in
    sym x.runs ∙ subst (λ finds. run (reading initial) finds ≡ p) same y.runs

document_comes : (text : List ℕ) (d : Document) → TextWrites text d → Comes text (reading (at (done d)))
document_comes text d w = record { finds = w.finds; cut = w.cut; runs = writes_run w.finds d w.writes }

pub says_one : (text : List ℕ) → SaysOne text
says_one text = record {
  documents = λ d e x y. let same = comes_once text _ _ (document_comes text d x) (document_comes text e y) in cc;
  faults = one_fault_lem;
  either = not_both;
}
  where
    one_fault_lem : (f g : Fault) → TextRefused text f → TextRefused text g → f ≡ g
    one_fault_lem f g (too_long long) (too_long again) = refl
    one_fault_lem f g (too_long long) (faulty short finds cut first) = absurd (omega arith)
    one_fault_lem f g (faulty short finds cut first) (too_long long) = absurd (omega arith)
    one_fault_lem f g (faulty short finds cut first) (faulty short2 finds2 cut2 first2) =
        let same = comes_once text (refused f) (refused g) (record { finds = finds; cut = cut; runs = first_fault_run finds f first }) (record { finds = finds2; cut = cut2; runs = first_fault_run finds2 g first2 }) in
        cc

    not_both : (d : Document) (f : Fault) → TextWrites text d → TextRefused text f → ⊥
    not_both d f w (too_long long) = omega (arith, w.short)
    not_both d f w (faulty short finds cut first) =
        let same = comes_once text (reading (at (done d))) (refused f) (document_comes text d w) (record { finds = finds; cut = cut; runs = first_fault_run finds f first }) in
        let z : ◌≡◌ {A = ℕ} 0 1 = cc in
        omega arith
