-- Reading gets on: where more of a document is written before a token, less of the text is left there.
use Rattle.std.proofs.Common.{◌≡◌, ℕ, suc, ◌+◌, ◌-◌, ◌<◌, ◌≤◌, List, [], ◌∷◌, ◌++◌, length, Ok, sym, refl, ap, ◌∙◌, subst, inl, inr, append-nil, arith, length-append}
use Rattle.hoa_tokens.specs.declared.fault.Fault.{Fault}
use Rattle.hoa_tokens.specs.declared.fault.Refusal.TheVariants.{Unexpected}
use Rattle.hoa_tokens.specs.declared.token.Placed.{Placed}
use Rattle.hoa_tokens.specs.declared.token.Token.{Token}
use Rattle.hoa_tokens.specs.declared.token.Token.TheVariants as case
use Rattle.hoa_tokens.specs.Scanning.{Lexeme, word, number, name, mark, end, lexeme, Found, token, fault, found, Ahead}
use Rattle.hoa_tokens.specs.Cuts.{Behind, Cut}
use Rattle.hoa_tokens.proofs.Once.{scanned_ahead, one_scan}
use Rattle.hoa_tokens.proofs.Cutting.{one_cut, ahead_of}
use Rattle.hoa_tokens.proofs.Existing.{cut_from}
use Rattle.hoa_grammar.specs.Marking.{Limit, kept, broken, Marked, marked}
use Rattle.hoa_grammar.specs.Documents.{Letters}
use Rattle.hoa_grammar.specs.Verdicts.{fault_at}
use Rattle.hoa_grammar.specs.Machine.{Slot, edges, State, at, Step, stuck, goes, step, initial, reading, refused, verdict, run, Current, with_edge}
use Rattle.hoa_grammar.specs.Reading.{Reached}
use Rattle.hoa_grammar.proofs.Written.{current_up_to, up_to}
use Rattle.hoa_grammar.proofs.Sound.{Holds, HoldsOn, step_holds}
use Rattle.hoa_grammar.proofs.Finds.{refused_stays}
use Rattle.hoa_document.specs.Standing.{Stands}
use Rattle.hoa_document.specs.Drafting.{BeginsEdge}

-- how much of a text is left from a find on: nothing at its end
abbrev pub left : List ℕ → Found → ℕ
left text (token (word w) place next) = suc (length text) - next
left text (token (number n) place next) = suc (length text) - next
left text (token (name w) place next) = suc (length text) - next
left text (token (mark m) place next) = suc (length text) - next
left text (token end place next) = 0
left text (fault f) = 0

ahead_left : (text : List ℕ) (from : ℕ) (x : Found) → Ahead text from x → left text x ≤ length text - from
ahead_left text from (token (word w) place next) a = omega arith
ahead_left text from (token (number n) place next) a = omega arith
ahead_left text from (token (name w) place next) a = omega arith
ahead_left text from (token (mark m) place next) a = omega arith
ahead_left text from (token end place next) a = omega arith
ahead_left text from (fault f) a = omega arith

token_left : (t : Token) (text : List ℕ) (place next : ℕ) → (t ≡ case.End → ⊥) → next ≤ length text → length text - next < left text (token (lexeme t) place next)
token_left (case.Word w) text place next more inside = omega arith
token_left (case.Number n) text place next more inside = omega arith
token_left (case.Name w) text place next more inside = omega arith
token_left (case.Mark m) text place next more inside = omega arith
token_left case.End text place next more inside = absurd (more refl)

none_some : (x : Found) (xs : List Found) → x ∷ xs ≡ [] → ⊥
none_some x xs e = let z : ◌≡◌ {A = ℕ} 0 1 = cc in omega arith

-- a cut that goes on behind a find goes on further ahead
goes_ahead : (text : List ℕ) (from : ℕ) (t : Found) (more : ℕ → Type 0) (none : Type 0) → (none → ⊥) → Ahead text from t → Behind more none t → (next : ℕ) × (from < next) × more next
goes_ahead text from (token (word w) place next) more none some a b = (next, a.0, b)
goes_ahead text from (token (number n) place next) more none some a b = (next, a.0, b)
goes_ahead text from (token (name w) place next) more none some a b = (next, a.0, b)
goes_ahead text from (token (mark m) place next) more none some a b = (next, a.0, b)
goes_ahead text from (token end place next) more none some a b = absurd (some b)
goes_ahead text from (fault f) more none some a b = absurd (some b)

some_behind : (ts : List Found) (x : Found) (xs : List Found) → ts ++ x ∷ xs ≡ [] → ⊥
some_behind [] x xs e = none_some x xs e
some_behind (t ∷ ts) x xs e = none_some t (ts ++ x ∷ xs) e

-- no more is left from a find of a cut on than where the cut begins
behind_left : (text : List ℕ) (ts : List Found) (from : ℕ) (x : Found) (xs : List Found) → Cut text from (ts ++ x ∷ xs) → left text x ≤ length text - from
behind_left text [] from x xs c = ahead_left text from x (scanned_ahead text from x c.0)
behind_left text (t ∷ ts) from x xs c =
    let on = goes_ahead text from t (λ next. Cut text next (ts ++ x ∷ xs)) (ts ++ x ∷ xs ≡ []) (some_behind ts x xs) (scanned_ahead text from t c.0) c.1 in
    omega (arith, on.1, behind_left text ts on.0 x xs on.2)

same_tail : (x y : Found) (xs ys : List Found) → x ∷ xs ≡ y ∷ ys → xs ≡ ys
same_tail x y xs ys e = cc

-- where two splits of one list differ, what follows the shorter part holds what follows the longer one
split_later : (us vs : List Found) (x y : Found) (xs ys : List Found) → us ++ x ∷ xs ≡ vs ++ y ∷ ys → length us < length vs → (mid : List Found) × (xs ≡ mid ++ y ∷ ys)
split_later [] [] x y xs ys e longer = absurd (omega arith)
split_later [] (v ∷ vs) x y xs ys e longer = (vs, same_tail x v xs (vs ++ y ∷ ys) e)
split_later (u ∷ us) [] x y xs ys e longer = absurd (omega arith)
split_later (u ∷ us) (v ∷ vs) x y xs ys e longer = split_later us vs x y xs ys (same_tail u v (us ++ x ∷ xs) (vs ++ y ∷ ys) e) (omega arith)

-- the cut from the token in hand on
cut_on : {text : List ℕ} {s : State} {head : Placed} (r : Reached text s head) → (xs : List Found) × Cut text r.from (found (Ok head) ∷ xs)
cut_on {text = text} {head = head} r = let c = cut_from text r.from r.within in beginning c.0 c.1
  where
    beginning : (rest : List Found) → Cut text r.from rest → (xs : List Found) × Cut text r.from (found (Ok head) ∷ xs)
    beginning [] c = absurd c
    beginning (x ∷ xs) c = (xs, subst (λ (y : Found). Cut text r.from (y ∷ xs)) (one_scan text r.from x (found (Ok head)) c.0 r.scanned) c)

-- behind more finds less is left
pub left_falls : {text : List ℕ} {s s' : State} {h h' : Placed} (r : Reached text s h) (r' : Reached text s' h') → (h.token ≡ case.End → ⊥) → length r.before < length r'.before → left text (found (Ok h')) < left text (found (Ok h))
left_falls {text = text} {h = h} {h' = h'} r r' more later =
    let c = cut_on r in
    let c' = cut_on r' in
    let same : r.before ++ found (Ok h) ∷ c.0 ≡ r'.before ++ found (Ok h') ∷ c'.0 = one_cut text _ _ 0 (r'.grown (found (Ok h') ∷ c'.0) c'.1) (r.grown (found (Ok h) ∷ c.0) c.1) in
    let mid = split_later r.before r'.before (found (Ok h)) (found (Ok h')) c.0 c'.0 same later in
    let here : Cut text r.from (found (Ok h) ∷ (mid.0 ++ found (Ok h') ∷ c'.0)) = subst (λ (xs : List Found). Cut text r.from (found (Ok h) ∷ xs)) mid.1 c.1 in
    let behind : Cut text h.next (mid.0 ++ found (Ok h') ∷ c'.0) = on h.token h.place h.next (λ i. Cut text i (mid.0 ++ found (Ok h') ∷ c'.0)) _ more here.1 in
    let inside = ahead_of h.token text r.from h.place h.next more (scanned_ahead text r.from (found (Ok h)) r.scanned) in
    omega (arith, behind_left text mid.0 h.next (found (Ok h')) c'.0 behind, token_left h.token text h.place h.next more inside.1)
  where
    on : (t : Token) (place next : ℕ) (more : ℕ → Type 0) (none : Type 0) → (t ≡ case.End → ⊥) → Behind more none (token (lexeme t) place next) → more next
    on (case.Word w) place next more none go b = b
    on (case.Number n) place next more none go b = b
    on (case.Name w) place next more none go b = b
    on (case.Mark m) place next more none go b = b
    on case.End place next more none go b = absurd (go refl)

same_state : (s s' : State) → reading s ≡ reading s' → s ≡ s'
same_state s s' e = cc

not_read : (f : Fault) (ts : List Found) (s : State) → run (refused f) ts ≡ reading s → ⊥
not_read f ts s e = let o = sym (refused_stays f ts) ∙ e in let z : ◌≡◌ {A = ℕ} 0 1 = cc in omega arith

-- each find that is taken writes one token
run_written : (ts : List Found) (s s' : State) (zs : List Marked) → Holds s zs → run (reading s) ts ≡ reading s' → (ys : List Marked) × Holds s' ys × (length ys ≡ length zs + length ts)
run_written [] s s' zs h e = (zs, subst (λ q. Holds q zs) (same_state s s' e) h, omega arith)
run_written (fault f ∷ ts) s s' zs h e = absurd (not_read f ts s' e)
run_written (token x place next ∷ ts) s s' zs h e = stepped (step s x) (step_holds s x zs h) e (λ q. run_written ts q s')
  where
    stepped : (y : Step) → HoldsOn y x zs → run (verdict y place) ts ≡ reading s' → ((q : State) (ws : List Marked) → Holds q ws → run (reading q) ts ≡ reading s' → (ys : List Marked) × Holds s' ys × (length ys ≡ length ws + length ts)) → (ys : List Marked) × Holds s' ys × (length ys ≡ length zs + suc (length ts))
    stepped stuck on e rest = absurd (not_read (fault_at Unexpected place) ts s' e)
    stepped (goes (broken r) q) on e rest = absurd (not_read (fault_at r place) ts s' e)
    stepped (goes kept q) on e rest =
        let w = rest q (zs ++ marked x kept ∷ []) on e in
        (w.0, w.1, omega (arith, w.2, length-append zs (marked x kept ∷ [])))

-- as many tokens are written before the token in hand as finds came before it
written_before : {text : List ℕ} {s : State} {head : Placed} (r : Reached text s head) → (zs : List Marked) × Holds s zs × (length zs ≡ length r.before)
written_before {s = s} r = let w = run_written r.before initial s [] refl r.runs in (w.0, w.1, omega (arith, w.2))

-- so many stand before a slot that is reached
reached_length : {text : List ℕ} {k : Slot} {head : Placed} (r : Reached text (at k) head) → length r.before ≡ length (up_to k)
reached_length r = let w = written_before r in sym w.2 ∙ ap length (sym (append-nil w.0) ∙ w.1)

-- and before one as which the machine stands, if it takes the token in hand
stands_length : {text : List ℕ} {k : Slot} {head : Placed} (st : Stands text (at k) head) (l : Limit) (k' : Slot) → step (at k) (lexeme head.token) ≡ goes l (at k') → length st.reached.before ≡ length (up_to k)
stands_length {k = k} {head = head} st l k' on =
    let x : Lexeme = lexeme head.token in
    let w = written_before st.reached in
    let there : (w.0 ++ marked x l ∷ []) ++ [] ≡ up_to k' = subst (λ y. HoldsOn y x w.0) (st.alike ∙ on) (step_holds st.state x w.0 w.1) in
    let here : (up_to k ++ marked x l ∷ []) ++ [] ≡ up_to k' = subst (λ y. HoldsOn y x (up_to k)) on (step_holds (at k) x (up_to k) (append-nil (up_to k))) in
    omega (arith, w.2, simp length-append at (ap length (there ∙ sym here)))

-- an edge writes a token or more
edge_longer : (cur : Current) (ls : Letters) (to : ℕ) → length (current_up_to cur) < length (current_up_to (with_edge cur ls to))
edge_longer cur ls to = simp length-append (omega arith)

-- behind an edge less of the text is left than where it begins
pub edge_advances : {text : List ℕ} (cur : Current) (ls : Letters) (to : ℕ) {head behind : Placed} → BeginsEdge head → Stands text (at (edges cur)) head → Reached text (at (edges (with_edge cur ls to))) behind → left text (found (Ok behind)) < left text (found (Ok head))
edge_advances cur ls to {head = head} begins st r =
    left_falls st.reached r (not_end begins) (omega (arith, taken begins, reached_length r, edge_longer cur ls to))
  where
    not_end : BeginsEdge head → head.token ≡ case.End → ⊥
    not_end (inl (t, is)) e = let o = sym is ∙ ap lexeme e in let z : ◌≡◌ {A = ℕ} 0 1 = cc in omega arith
    not_end (inr is) e = let o = sym is ∙ ap lexeme e in let z : ◌≡◌ {A = ℕ} 0 1 = cc in omega arith

    taken : BeginsEdge head → length st.reached.before ≡ length (current_up_to cur)
    taken (inl (t, is)) = stands_length st _ _ (ap (step (at (edges cur))) is)
    taken (inr is) = stands_length st _ _ (ap (step (at (edges cur))) is)
