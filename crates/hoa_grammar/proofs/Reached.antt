-- What documents begin with, the machine reaches; and what they go on with, it takes there with the same limit.
use Rattle.std.proofs.Common.{◌≡◌, List, [], ◌∷◌, ◌++◌, sym, refl, ap, ◌∙◌, subst, append_assoc}
use Rattle.hoa_tokens.specs.Scanning.{Lexeme}
use Rattle.hoa_grammar.specs.Marking.{Limit, Marked, marked, tokens_of, AllKept, unlimited}
use Rattle.hoa_grammar.specs.Documents.{Document, spell}
use Rattle.hoa_grammar.specs.Verdicts.{Begins, GoesOn}
use Rattle.hoa_grammar.specs.Machine.{State, due, at, done, goes, step, initial}
use Rattle.hoa_grammar.proofs.Sound.{Holds, HoldsOn, step_holds}
use Rattle.hoa_grammar.proofs.Runs.{Runs, takes, parted, same_end, runs_hold}
use Rattle.hoa_grammar.proofs.Live.{live}
use Rattle.hoa_grammar.proofs.Complete.{complete}

-- the machine comes to the state by these tokens, which break no limit
pub record Reached (ws : List Lexeme) (s : State) : Type 0 where
  pub written : List Marked
  pub tokens : tokens_of written ≡ ws
  pub kept : AllKept written
  pub runs : Runs initial written s

pub holds : (ws : List Lexeme) (s : State) (h : Reached ws s) → Holds s h.written
holds ws s h = runs_hold [] h.runs refl

-- some document begins so
record Continued (zs : List Marked) : Type 0 where
  document : Document
  back : List Marked
  spelled : spell document ≡ zs ++ back

continued : (s : State) (zs : List Marked) → Holds s zs → Continued zs
continued (due ws k) zs h =
    let l = live k in
    record { document = l.document; back = unlimited ws ++ l.back; spelled = l.spelled ∙ ap (λ ys. ys ++ l.back) (sym h) ∙ append_assoc zs (unlimited ws) l.back }

pub reached_begins : (ws : List Lexeme) (s : State) → Reached ws s → Begins ws
reached_begins ws s h =
    let g = continued s h.written (holds ws s h) in
    record { document = g.document; front = h.written; back = g.back; spelled = g.spelled; tokens = h.tokens; kept = h.kept }

pub begins_reached : (ws : List Lexeme) → Begins ws → (s : State) × Reached ws s
begins_reached ws b =
    let whole : Runs initial (b.front ++ b.back) (at (done b.document)) = subst (λ zs. Runs initial zs (at (done b.document))) b.spelled (complete b.document) in
    let parts = parted b.front b.back initial (at (done b.document)) whole in
    (parts.0, record { written = b.front; tokens = b.tokens; kept = b.kept; runs = parts.1 })

pub takes_goes_on : (ws : List Lexeme) (s : State) (x : Lexeme) (l : Limit) (s' : State) → Reached ws s → step s x ≡ goes l s' → GoesOn ws x l
takes_goes_on ws s x l s' h e =
    let g = continued s' (h.written ++ marked x l ∷ []) (subst (λ y. HoldsOn y x h.written) e (step_holds s x h.written (holds ws s h))) in
    record { document = g.document; front = h.written; back = g.back; spelled = g.spelled ∙ append_assoc h.written (marked x l ∷ []) g.back; tokens = h.tokens }

pub goes_on_takes : (ws : List Lexeme) (s : State) (x : Lexeme) (l : Limit) → Reached ws s → GoesOn ws x l → (s' : State) × (step s x ≡ goes l s')
goes_on_takes ws s x l h g =
    let last : State = at (done g.document) in
    let whole : Runs initial (g.front ++ marked x l ∷ g.back) last = subst (λ zs. Runs initial zs last) g.spelled (complete g.document) in
    let parts = parted g.front (marked x l ∷ g.back) initial last whole in
    let same : parts.0 ≡ s = same_end g.front h.written initial parts.0 s parts.1 h.runs (g.tokens ∙ sym h.tokens) in
    first_step x l g.back s last (subst (λ q. Runs q (marked x l ∷ g.back) last) same parts.2)
  where
    first_step : (x : Lexeme) (l : Limit) (zs : List Marked) (s s'' : State) → Runs s (marked x l ∷ zs) s'' → (s' : State) × (step s x ≡ goes l s')
    first_step x l zs s s'' (takes {q = q} e h) = (q, e)
