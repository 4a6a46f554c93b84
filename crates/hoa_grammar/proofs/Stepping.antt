-- How reading goes on from the token in hand: the machine's step at it leads to the token behind it, or the text is refused.
use Rattle.std.proofs.Common.{◌≡◌, ℕ, ◌≤◌, List, [], ◌∷◌, ◌++◌, length, Ok, Err, Result, refl, ap, ◌∙◌, MatchResult}
use Rattle.hoa_tokens.specs.declared.fault.Fault.{Fault}
use Rattle.hoa_tokens.specs.declared.fault.Refusal.{Refusal}
use Rattle.hoa_tokens.specs.declared.fault.Refusal.TheVariants.{Unexpected}
use Rattle.hoa_tokens.specs.declared.token.Placed.{Placed}
use Rattle.hoa_tokens.specs.declared.token.Token.TheVariants.{End}
use Rattle.hoa_tokens.specs.Scanning.{Found, fault, lexeme, found, Scanned, clipped}
use Rattle.hoa_tokens.proofs.Once.{scanned_ahead}
use Rattle.hoa_tokens.proofs.Cutting.{Grown, ahead_of, grown_more, unclipped}
use Rattle.hoa_grammar.specs.Marking.{kept, broken}
use Rattle.hoa_grammar.specs.Verdicts.{fault_at}
use Rattle.hoa_grammar.specs.Machine.{State, initial, step, Step, stuck, goes, Outcome, reading, refused, verdict, next, run}
use Rattle.hoa_grammar.specs.Reading.{Reached, Refused}

-- the last of the finds is taken last
pub run_last : (before : List Found) (o : Outcome) (x : Found) → run o (before ++ x ∷ []) ≡ next (run o before) x
run_last [] o x = refl
run_last (t ∷ ts) o x = run_last ts (next o t) x

module _ {text : List ℕ} {s : State} {head : Placed} (r : Reached text s head) where
  -- what the machine comes to at the token in hand
  runs_behind : (now : Step) → step s (lexeme head.token) ≡ now → run (reading initial) (r.before ++ found (Ok head) ∷ []) ≡ verdict now head.place
  runs_behind now is = run_last r.before (reading initial) (found (Ok head)) ∙ ap (λ o. next o (found (Ok head))) r.runs ∙ ap (λ k. verdict k head.place) is

  refused_here : (f : Fault) → run (reading initial) (r.before ++ found (Ok head) ∷ []) ≡ refused f → Refused text f
  refused_here f runs = record { from = r.from; within = r.within; before = r.before; at = found (Ok head); grown = r.grown; scanned = r.scanned; runs = runs }

  -- the token in hand is not allowed there
  pub reached_stuck : step s (lexeme head.token) ≡ stuck → Refused text (fault_at Unexpected head.place)
  reached_stuck is = refused_here (fault_at Unexpected head.place) (runs_behind stuck is)

  -- the token in hand breaks a limit there
  pub reached_broken : (limit : Refusal) (s' : State) → step s (lexeme head.token) ≡ goes (broken limit) s' → Refused text (fault_at limit head.place)
  reached_broken limit s' is = refused_here (fault_at limit head.place) (runs_behind (goes (broken limit) s') is)

  module _ (more : head.token ≡ End → ⊥) (s' : State) (on : step s (lexeme head.token) ≡ goes kept s') where
    inside : head.next ≤ length text
    inside = (ahead_of head.token text r.from head.place head.next more (scanned_ahead text r.from (found (Ok head)) r.scanned)).1

    grown : Grown text 0 head.next (r.before ++ found (Ok head) ∷ [])
    grown = grown_more head.token text 0 r.from head.place head.next r.before r.grown more r.scanned

    scanned_behind : (x : Found) → Scanned text (clipped text head.next) x → Scanned text head.next x
    scanned_behind x scanned = unclipped (λ i. Scanned text i x) text head.next inside scanned

    -- the token in hand leads on: to the token behind it, or the bytes there are refused
    pub reached_on : (q : Result Placed Fault) → Scanned text (clipped text head.next) (found q) → MatchResult q (Reached text s') (Refused text)
    reached_on (Ok h) scanned = record { from = head.next; within = inside; before = r.before ++ found (Ok head) ∷ []; grown = grown; scanned = scanned_behind (found (Ok h)) scanned; runs = runs_behind (goes kept s') on }
    reached_on (Err f) scanned = record { from = head.next; within = inside; before = r.before ++ found (Ok head) ∷ []; at = fault f; grown = grown; scanned = scanned_behind (fault f) scanned; runs = run_last (r.before ++ found (Ok head) ∷ []) (reading initial) (fault f) ∙ ap (λ o. next o (fault f)) (runs_behind (goes kept s') on) }
