-- The machine's outcome over the finds of a text: it holds a document exactly when they write it, and a fault exactly when that is their first.
use Rattle.std.proofs.Common.{◌≡◌, ℕ, List, [], ◌∷◌, ◌++◌, sym, refl, ap, ◌∙◌, subst, append_assoc, append-nil, arith}
use Rattle.hoa_tokens.specs.declared.fault.Fault.{Fault}
use Rattle.hoa_tokens.specs.declared.fault.Refusal.TheVariants.{Unexpected}
use Rattle.hoa_tokens.specs.Scanning.{Lexeme, Found, token, fault}
use Rattle.hoa_grammar.specs.Marking.{Limit, kept, broken, Marked, marked, tokens_of, AllKept}
use Rattle.hoa_grammar.specs.Documents.{Document, spell}
use Rattle.hoa_grammar.specs.Verdicts.{Reads, Writes, GoesOn, Faulty, no_token, not_allowed, over_limit, fault_at, FirstFault}
use Rattle.hoa_grammar.specs.Machine.{State, at, done, Step, stuck, goes, step, initial, Outcome, reading, refused, verdict, next, run}
use Rattle.hoa_grammar.proofs.Runs.{Runs, stays, takes, onward}
use Rattle.hoa_grammar.proofs.Finds.{run_append, run_fault, run_takes, run_breaks, run_stuck}
use Rattle.hoa_grammar.proofs.Reached.{Reached, holds, reached_begins, begins_reached, takes_goes_on, goes_on_takes}
use Rattle.hoa_grammar.proofs.Complete.{complete}

tokens_append : (zs ys : List Marked) → tokens_of (zs ++ ys) ≡ tokens_of zs ++ tokens_of ys
tokens_append [] ys = refl
tokens_append (z ∷ zs) ys = ap (λ ws. z.token ∷ ws) (tokens_append zs ys)

kept_append : (zs ys : List Marked) → AllKept zs → AllKept ys → AllKept (zs ++ ys)
kept_append [] ys g h = h
kept_append (z ∷ zs) ys g h = (g.0, kept_append zs ys g.1 h)

reads_one_more : (ts : List Found) (ws : List Lexeme) (x : Lexeme) (place behind : ℕ) → Reads ts ws → Reads (ts ++ token x place behind ∷ []) (ws ++ x ∷ [])
reads_one_more [] [] x place behind h = (refl, tt)
reads_one_more [] (w ∷ ws) x place behind h = absurd h
reads_one_more (token y p n ∷ ts) [] x place behind h = absurd h
reads_one_more (token y p n ∷ ts) (w ∷ ws) x place behind h = (h.0, reads_one_more ts ws x place behind h.1)
reads_one_more (fault f ∷ ts) ws x place behind h = absurd h

reached_one_more : (ws : List Lexeme) (s : State) (x : Lexeme) (s' : State) → Reached ws s → step s x ≡ goes kept s' → Reached (ws ++ x ∷ []) s'
reached_one_more ws s x s' h e = record {
  written = h.written ++ marked x kept ∷ [];
  tokens = tokens_append h.written (marked x kept ∷ []) ∙ ap (λ vs. vs ++ x ∷ []) h.tokens;
  kept = kept_append h.written (marked x kept ∷ []) h.kept (refl, tt);
  runs = onward h.runs (takes e stays);
}

-- what an outcome says of the finds that led to it
abbrev Told : Outcome → List Found → Type 0
Told (reading s) ts = (ws : List Lexeme) × Reads ts ws × Reached ws s
Told (refused f) ts = FirstFault ts f

stuck_goes : (y : Step) (l : Limit) (s : State) → y ≡ stuck → y ≡ goes l s → ⊥
stuck_goes y l s e h = let z : ◌≡◌ {A = ℕ} 0 1 = cc in omega arith

same_limit : (y : Step) (l m : Limit) (s t : State) → y ≡ goes l s → y ≡ goes m t → l ≡ m
same_limit y l m s t g h = cc

first_fault_here : (ts : List Found) (s : State) (t : Found) (f : Fault) (h : Told (reading s) ts) → Faulty h.0 t f → FirstFault (ts ++ t ∷ []) f
first_fault_here ts s t f h why = record { before = ts; at = t; behind = []; splits = refl; tokens = h.0; reads = h.1; begun = reached_begins h.0 s h.2; faulty = why }

told_token : (ts : List Found) (s : State) (x : Lexeme) (place behind : ℕ) (y : Step) → Told (reading s) ts → step s x ≡ y → Told (verdict y place) (ts ++ token x place behind ∷ [])
told_token ts s x place behind stuck h e =
    first_fault_here ts s (token x place behind) (fault_at Unexpected place) h
    (not_allowed (λ l g. let t = goes_on_takes h.0 s x l h.2 g in stuck_goes (step s x) l t.0 e t.1))
told_token ts s x place behind (goes kept s') h e = (h.0 ++ x ∷ [], reads_one_more ts h.0 x place behind h.1, reached_one_more h.0 s x s' h.2 e)
told_token ts s x place behind (goes (broken r) s') h e =
    first_fault_here ts s (token x place behind) (fault_at r place) h
    (over_limit (takes_goes_on h.0 s x (broken r) s' h.2 e) (λ l g. let t = goes_on_takes h.0 s x l h.2 g in same_limit (step s x) l (broken r) t.0 s' t.1 e))

told_next : (o : Outcome) (ts : List Found) (t : Found) → Told o ts → Told (next o t) (ts ++ t ∷ [])
told_next (reading s) ts (token x place behind) h = told_token ts s x place behind (step s x) h refl
told_next (reading s) ts (fault f) h = first_fault_here ts s (fault f) f h no_token
told_next (refused f) ts t h = record { before = h.before; at = h.at; behind = h.behind ++ t ∷ []; splits = ap (λ us. us ++ t ∷ []) h.splits ∙ append_assoc h.before (h.at ∷ h.behind) (t ∷ []); tokens = h.tokens; reads = h.reads; begun = h.begun; faulty = h.faulty }

told_run : (us : List Found) (o : Outcome) (ts : List Found) → Told o ts → Told (run o us) (ts ++ us)
told_run [] o ts h = subst (Told o) (sym (append-nil ts)) h
told_run (u ∷ us) o ts h = subst (Told (run (next o u) us)) (append_assoc ts (u ∷ []) us) (told_run us (next o u) (ts ++ u ∷ []) (told_next o ts u h))

told : (finds : List Found) → Told (run (reading initial) finds) finds
told finds = told_run finds (reading initial) [] ([], tt, record { written = []; tokens = refl; kept = tt; runs = stays })

pub run_first_fault : (finds : List Found) (f : Fault) → run (reading initial) finds ≡ refused f → FirstFault finds f
run_first_fault finds f e = subst (λ o. Told o finds) e (told finds)

pub run_writes : (finds : List Found) (d : Document) → run (reading initial) finds ≡ reading (at (done d)) → Writes finds d
run_writes finds d e =
    let t : Told (reading (at (done d))) finds = subst (λ o. Told o finds) e (told finds) in
    let whole : t.2.written ≡ spell d = sym (append-nil t.2.written) ∙ holds t.0 (at (done d)) t.2 in
    record { reads = subst (Reads finds) (sym t.2.tokens ∙ ap tokens_of whole) t.1; kept = subst AllKept whole t.2.kept }

-- a run that breaks no limit, as the machine makes it
kept_run : (ts : List Found) (zs : List Marked) (s s' : State) → Runs s zs s' → AllKept zs → Reads ts (tokens_of zs) → run (reading s) ts ≡ reading s'
kept_run [] [] s s' stays k h = refl
kept_run [] (z ∷ zs) s s' g k h = absurd h
kept_run (token x place behind ∷ ts) [] s s' g k h = absurd h
kept_run (token x place behind ∷ ts) (z ∷ zs) s s' (takes {q = q} e g) k h =
    let to : step s x ≡ goes kept q = ap (step s) h.0 ∙ e ∙ ap (λ l. goes l q) k.0 in
    run_takes s ts x place behind q to ∙ kept_run ts zs q s' g k.1 h.1
kept_run (fault f ∷ ts) zs s s' g k h = absurd h

pub writes_run : (finds : List Found) (d : Document) → Writes finds d → run (reading initial) finds ≡ reading (at (done d))
writes_run finds d w = kept_run finds (spell d) initial (at (done d)) (complete d) w.kept w.reads

not_allowed_stuck : (ws : List Lexeme) (s : State) (x : Lexeme) (y : Step) → Reached ws s → ((l : Limit) → GoesOn ws x l → ⊥) → step s x ≡ y → y ≡ stuck
not_allowed_stuck ws s x stuck h n e = refl
not_allowed_stuck ws s x (goes l s') h n e = absurd (n l (takes_goes_on ws s x l s' h e))

faulty_refused : (ws : List Lexeme) (s : State) (t : Found) (f : Fault) (ts : List Found) → Reached ws s → Faulty ws t f → run (reading s) (t ∷ ts) ≡ refused f
faulty_refused ws s t f ts h no_token = run_fault s ts f
faulty_refused ws s t f ts h (not_allowed {x = x} {place = place} {next = behind} n) = run_stuck s ts x place behind (not_allowed_stuck ws s x (step s x) h n refl)
faulty_refused ws s t f ts h (over_limit {x = x} {place = place} {next = behind} {r = r} g only) =
    let broken-there = goes_on_takes ws s x (broken r) h g in
    run_breaks s ts x place behind r broken-there.0 broken-there.1

pub first_fault_run : (finds : List Found) (f : Fault) → FirstFault finds f → run (reading initial) finds ≡ refused f
first_fault_run finds f h =
    let b = begins_reached h.tokens h.begun in
    let s : State = b.0 in
    let r : Reached h.tokens s = b.1 in
    ap (run (reading initial)) h.splits
    ∙ run_append h.before (h.at ∷ h.behind) (reading initial)
    ∙ ap (λ o. run o (h.at ∷ h.behind)) (kept_run h.before r.written initial s r.runs r.kept (subst (Reads h.before) (sym r.tokens) h.reads))
    ∙ faulty_refused h.tokens s h.at f h.behind r h.faulty
