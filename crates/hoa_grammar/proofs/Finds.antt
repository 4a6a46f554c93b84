-- What one find does to a run of the machine, and that a refusal is kept.
use Rattle.std.proofs.Common.{◌≡◌, ℕ, List, [], ◌∷◌, ◌++◌, refl, ap, ◌∙◌}
use Rattle.hoa_tokens.specs.declared.fault.Fault.{Fault}
use Rattle.hoa_tokens.specs.declared.fault.Refusal.{Refusal}
use Rattle.hoa_tokens.specs.declared.fault.Refusal.TheVariants.{Unexpected}
use Rattle.hoa_tokens.specs.Scanning.{Lexeme, Found, token, fault}
use Rattle.hoa_grammar.specs.Marking.{kept, broken}
use Rattle.hoa_grammar.specs.Verdicts.{fault_at}
use Rattle.hoa_grammar.specs.Machine.{State, stuck, goes, step, Outcome, reading, refused, verdict, next, run}

pub refused_stays : (f : Fault) (ts : List Found) → run (refused f) ts ≡ refused f
refused_stays f [] = refl
refused_stays f (t ∷ ts) = refused_stays f ts

pub run_append : (ts us : List Found) (o : Outcome) → run o (ts ++ us) ≡ run (run o ts) us
run_append [] us o = refl
run_append (t ∷ ts) us o = run_append ts us (next o t)

module _ (s : State) (ts : List Found) where
  pub run_fault : (f : Fault) → run (reading s) (fault f ∷ ts) ≡ refused f
  run_fault f = refused_stays f ts

  module _ (x : Lexeme) (place behind : ℕ) where
    pub run_takes : (s' : State) → step s x ≡ goes kept s' → run (reading s) (token x place behind ∷ ts) ≡ run (reading s') ts
    run_takes s' e = ap (λ y. run (verdict y place) ts) e

    pub run_breaks : (r : Refusal) (s' : State) → step s x ≡ goes (broken r) s' → run (reading s) (token x place behind ∷ ts) ≡ refused (fault_at r place)
    run_breaks r s' e = ap (λ y. run (verdict y place) ts) e ∙ refused_stays (fault_at r place) ts

    pub run_stuck : step s x ≡ stuck → run (reading s) (token x place behind ∷ ts) ≡ refused (fault_at Unexpected place)
    run_stuck e = ap (λ y. run (verdict y place) ts) e ∙ refused_stays (fault_at Unexpected place) ts
