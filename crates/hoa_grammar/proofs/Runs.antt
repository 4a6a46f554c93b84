-- Runs of the machine over tokens with the limits that they break: how they join, and that tokens alone tell where a run ends.
use Rattle.std.proofs.Common.{◌≡◌, ℕ, true, cond, List, [], ◌∷◌, ◌++◌, sym, refl, ap, ◌∙◌, subst, append_assoc, append-nil, arith}
use Rattle.hoa_tokens.specs.Scanning.{Lexeme}
use Rattle.hoa_grammar.specs.Marking.{Limit, kept, Marked, tokens_of, unlimited}
use Rattle.hoa_grammar.specs.Machine.{is_token, Slot, State, due, at, Step, stuck, goes, step}
use Rattle.hoa_grammar.proofs.Sound.{Holds, HoldsOn, step_holds}

-- the machine goes from state to state over the tokens, each with its limit
pub data Runs : State → List Marked → State → Type 0 where
  stays : {s : State} → Runs s [] s
  takes : {s q s' : State} {z : Marked} {zs : List Marked} → step s z.token ≡ goes z.limit q → Runs q zs s' → Runs s (z ∷ zs) s'

pub onward : {zs ys : List Marked} {s s' s'' : State} → Runs s zs s' → Runs s' ys s'' → Runs s (zs ++ ys) s''
onward stays h = h
onward (takes e g) h = takes e (onward g h)

-- where a run over two parts stands between them
pub parted : (zs ys : List Marked) (s s'' : State) → Runs s (zs ++ ys) s'' → (q : State) × Runs s zs q × Runs q ys s''
parted [] ys s s'' h = (s, stays, h)
parted (z ∷ zs) ys s s'' (takes {q = q} e h) = let g = parted zs ys q s'' h in (g.0, takes e g.1, g.2)

-- fixed tokens pass their own test
abbrev pub Fixed : List Lexeme → Type 0
Fixed [] = Unit {0}
Fixed (w ∷ ws) = (is_token w w ≡ true) × Fixed ws

pub due_run : (ws : List Lexeme) (k : Slot) → Fixed ws → Runs (due ws k) (unlimited ws) (at k)
due_run [] k h = stays
due_run (w ∷ ws) k h = takes (ap (λ b. cond b (goes kept (due ws k)) stuck) h.0) (due_run ws k h.1)

none_some : (x : Lexeme) (xs : List Lexeme) → [] ≡ x ∷ xs → ⊥
none_some x xs e = let z : ◌≡◌ {A = ℕ} 0 1 = cc in omega arith

same_head : (x y : Lexeme) (xs ys : List Lexeme) → x ∷ xs ≡ y ∷ ys → x ≡ y
same_head x y xs ys e = cc

same_tail : (x y : Lexeme) (xs ys : List Lexeme) → x ∷ xs ≡ y ∷ ys → xs ≡ ys
same_tail x y xs ys e = cc

same_state : (y : Step) (l m : Limit) (s t : State) → y ≡ goes l s → y ≡ goes m t → s ≡ t
same_state y l m s t g h = cc

-- the same tokens lead to the same state
pub same_end : (zs ys : List Marked) (s a b : State) → Runs s zs a → Runs s ys b → tokens_of zs ≡ tokens_of ys → a ≡ b
same_end [] [] s a b stays stays e = refl
same_end [] (y ∷ ys) s a b g h e = absurd (none_some y.token (tokens_of ys) e)
same_end (z ∷ zs) [] s a b g h e = absurd (none_some z.token (tokens_of zs) (sym e))
same_end (z ∷ zs) (y ∷ ys) s a b (takes {q = q} to g) (takes {q = r} to' h) e =
    let first : z.token ≡ y.token = same_head z.token y.token (tokens_of zs) (tokens_of ys) e in
    let same : r ≡ q = same_state (step s z.token) y.limit z.limit r q (ap (step s) first ∙ to') to in
    same_end zs ys q a b g (subst (λ t. Runs t ys b) same h) (same_tail z.token y.token (tokens_of zs) (tokens_of ys) e)

pub runs_hold : {ys : List Marked} {s s' : State} (zs : List Marked) → Runs s ys s' → Holds s zs → Holds s' (zs ++ ys)
runs_hold {s = s} zs stays h = subst (Holds s) (sym (append-nil zs)) h
runs_hold {ys = y ∷ ys} {s = s} {s' = s'} zs (takes e g) h =
    subst (Holds s') (append_assoc zs (y ∷ []) ys)
    (runs_hold (zs ++ y ∷ []) g (subst (λ t. HoldsOn t y.token zs) e (step_holds s y.token zs h)))
