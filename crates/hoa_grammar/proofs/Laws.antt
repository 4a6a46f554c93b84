-- The laws of reading, from the machine: over the finds of a text it ends, and in one way only.
use Rattle.std.proofs.Common.{◌≡◌, ℕ, zero, suc, ◌⊎◌, List, [], ◌∷◌, sym, refl, ◌∙◌, subst, inl, inr, arith}
use Rattle.hoa_tokens.specs.declared.fault.Fault.{Fault}
use Rattle.hoa_tokens.specs.Scanning.{word, number, name, mark, end, Found, token, fault}
use Rattle.hoa_tokens.specs.Cuts.{Cut}
use Rattle.hoa_grammar.specs.Documents.{Document, spell}
use Rattle.hoa_grammar.specs.Verdicts.{Writes, FirstFault}
use Rattle.hoa_grammar.specs.Laws.{EveryTextRead, OneDocument, OneFault, FaultExcludesDocument}
use Rattle.hoa_grammar.specs.Machine.{factor_due, term_read, states, starts, start, signals, names, blocks, state, good, edges, within, target, ended, done, State, due, at, step, initial, Outcome, reading, refused, verdict, run}
use Rattle.hoa_grammar.proofs.Finds.{refused_stays}
use Rattle.hoa_grammar.proofs.Runs.{same_end}
use Rattle.hoa_grammar.proofs.Complete.{complete}
use Rattle.hoa_grammar.proofs.Outcomes.{run_first_fault, first_fault_run, run_writes, writes_run}

-- the machine has come to its end
abbrev Over : Outcome → Type 0
Over (reading s) = (d : Document) × (s ≡ at (done d))
Over (refused f) = Unit {0}

-- the text's end ends a document or is refused
end_over : (s : State) (place : ℕ) → Over (verdict (step s end) place)
end_over (due (word w ∷ ws) k) place = tt
end_over (due (number n ∷ ws) k) place = tt
end_over (due (name w ∷ ws) k) place = tt
end_over (due (mark m ∷ ws) k) place = tt
end_over (due (end ∷ ws) k) place = tt
end_over (due [] states) place = tt
end_over (due [] (starts n ss)) place = tt
end_over (due [] (start n ss)) place = tt
end_over (due [] (signals n ss)) place = tt
end_over (due [] (names n ss ws zero)) place = tt
end_over (due [] (names n ss ws (suc k))) place = tt
end_over (due [] (blocks h bs)) place = tt
end_over (due [] (state h bs)) place = tt
end_over (due [] (good h bs s)) place = tt
end_over (due [] (edges c)) place = tt
end_over (due [] (within c (factor_due f))) place = tt
end_over (due [] (within c (term_read i t))) place = tt
end_over (due [] (target c l)) place = tt
end_over (due [] (ended d)) place = (d, refl)
end_over (due [] (done d)) place = tt

on_over : (o : Outcome) (ts : List Found) → ((s : State) → Over (run (reading s) ts)) → Over (run o ts)
on_over (reading s) ts go = go s
on_over (refused f) ts go = subst Over (sym (refused_stays f ts)) tt

cut_over : (ts : List Found) (text : List ℕ) (from : ℕ) (s : State) → Cut text from ts → Over (run (reading s) ts)
cut_over [] text from s c = absurd c
cut_over (token (word w) place next ∷ ts) text from s c = on_over (verdict (step s (word w)) place) ts (λ s'. cut_over ts text next s' c.1)
cut_over (token (number n) place next ∷ ts) text from s c = on_over (verdict (step s (number n)) place) ts (λ s'. cut_over ts text next s' c.1)
cut_over (token (name w) place next ∷ ts) text from s c = on_over (verdict (step s (name w)) place) ts (λ s'. cut_over ts text next s' c.1)
cut_over (token (mark m) place next ∷ ts) text from s c = on_over (verdict (step s (mark m)) place) ts (λ s'. cut_over ts text next s' c.1)
cut_over (token end place next ∷ ts) text from s c = subst (λ us. Over (run (verdict (step s end) place) us)) (sym c.1) (end_over s place)
cut_over (fault f ∷ ts) text from s c = subst Over (sym (refused_stays f ts)) tt

over_read : (finds : List Found) (o : Outcome) → run (reading initial) finds ≡ o → Over o → ((d : Document) × Writes finds d) ⊎ ((f : Fault) × FirstFault finds f)
over_read finds (reading s) e h = inl (h.0, run_writes finds h.0 (subst (λ q. run (reading initial) finds ≡ reading q) h.1 e))
over_read finds (refused f) e h = inr (f, run_first_fault finds f e)

pub every_text_read_lem : EveryTextRead
every_text_read_lem text finds c = over_read finds (run (reading initial) finds) refl (cut_over finds text 0 initial c)

same_document : (d e : Document) → at (done d) ≡ at (done e) → d ≡ e
same_document d e h = cc

pub one_document_lem : OneDocument
one_document_lem d e h = same_document d e (same_end (spell d) (spell e) initial (at (done d)) (at (done e)) (complete d) (complete e) h)

same_fault : (f g : Fault) → refused f ≡ refused g → f ≡ g
same_fault f g e = cc

pub one_fault_lem : OneFault
one_fault_lem finds f g h k = same_fault f g (sym (first_fault_run finds f h) ∙ first_fault_run finds g k)

refused_reading : (f : Fault) (s : State) → refused f ≡ reading s → ⊥
refused_reading f s e = let z : ◌≡◌ {A = ℕ} 0 1 = cc in omega arith

pub fault_excludes_document_lem : FaultExcludesDocument
fault_excludes_document_lem finds f d h w = refused_reading f (at (done d)) (sym (first_fault_run finds f h) ∙ writes_run finds d w)
