-- What reading a text comes to: the draft is the automaton that the text's document denotes, and a refused text has that first fault.
use Rattle.std.proofs.Common.{◌≡◌, ℕ, ◌+◌, ◌*◌, ◌≤◌, ◌&&◌, ltb, List, [], ◌∷◌, ◌++◌, length, get_or, sym, ap, ◌∙◌, subst, append_assoc}
use Rattle.omega.specs.Signals.{bit}
use Rattle.tables.specs.declared.draft.Draft.{Draft}
use Rattle.tables.specs.Meanings.{draft_meaning}
use Rattle.hoa_tokens.specs.declared.fault.Fault.{Fault}
use Rattle.hoa_tokens.specs.Numbers.{longest_text}
use Rattle.hoa_tokens.specs.Scanning.{Found}
use Rattle.hoa_tokens.specs.Cuts.{Cut}
use Rattle.hoa_tokens.proofs.Once.{one_scan}
use Rattle.hoa_tokens.proofs.Existing.{cut_from}
use Rattle.hoa_grammar.specs.Documents.{Document}
use Rattle.hoa_grammar.specs.Machine.{initial, reading, refused, run}
use Rattle.hoa_grammar.specs.Reading.{Refused}
use Rattle.hoa_grammar.proofs.Finds.{run_append, refused_stays}
use Rattle.hoa_grammar.proofs.Outcomes.{run_writes, run_first_fault}
use Rattle.hoa_document.specs.Denoting.{Denotes, TextWrites, TextRefused, faulty}
use Rattle.hoa_document.specs.Drafting.{Drafted, DocumentRead}

-- a draft of what a document says is the automaton that it denotes
pub draft_denotes : (draft : Draft) (d : Document) → Drafted d.header d.blocks draft → Denotes d (draft_meaning draft)
draft_denotes draft d drafted = record {
  states = drafted.states;
  signals = drafted.signals;
  start = drafted.starts;
  good = drafted.goods;
  step = λ s a t. ap (λ (n : ℕ). (ltb s n && ltb t n) && bit a (get_or draft.cells (s * n + t) 0)) drafted.states ∙ drafted.steps s a t;
}

-- a text that is read to its end writes the document
pub text_writes : (text : List ℕ) (d : Document) → length text ≤ longest_text → DocumentRead text d → TextWrites text d
text_writes text d short r = record { short = short; finds = r.finds; cut = r.cut; writes = run_writes r.finds d r.runs }

-- a refused text has that first fault, whatever follows it in the text
pub text_refused : (text : List ℕ) (f : Fault) → length text ≤ longest_text → Refused text f → TextRefused text f
text_refused text f short r = let c = cut_from text r.from r.within in found c.0 c.1
  where
    found : (rest : List Found) → Cut text r.from rest → TextRefused text f
    found [] c = absurd c
    found (x ∷ xs) c =
        let same : x ≡ r.at = one_scan text r.from x r.at c.0 r.scanned in
        let runs : run (reading initial) (r.before ++ x ∷ xs) ≡ refused f =
        ap (λ (y : Found). run (reading initial) (r.before ++ y ∷ xs)) same
        ∙ ap (run (reading initial)) (sym (append_assoc r.before (r.at ∷ []) xs))
        ∙ run_append (r.before ++ r.at ∷ []) xs (reading initial)
        ∙ ap (λ o. run o xs) r.runs
        ∙ refused_stays f xs in
        faulty short (r.before ++ x ∷ xs) (r.grown (x ∷ xs) c) (run_first_fault (r.before ++ x ∷ xs) f runs)

-- what a body says of the text that it belongs to
module _ {bytes text : List ℕ} (same : text ≡ bytes) (short : length bytes ≤ longest_text) where
  pub refused_here : (f : Fault) → Refused text f → TextRefused bytes f
  refused_here f r = text_refused bytes f short (subst (λ t. Refused t f) same r)

  pub writes_here : (d : Document) → DocumentRead text d → TextWrites bytes d
  writes_here d r = text_writes bytes d short (subst (λ t. DocumentRead t d) same r)
