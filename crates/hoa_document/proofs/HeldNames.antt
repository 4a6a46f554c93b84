-- The names of a header: those that the reader holds are those that it has read, and one of them in hand is repeated.
use Rattle.std.proofs.Common.{◌≡◌, ℕ, zero, suc, ◌+◌, ◌-◌, ◌<◌, ◌≤◌, Bool, true, false, ◌||◌, List, length, take, Result, sym, refl, ap, ◌∙◌, subst, add-one, arith, Bor, MatchResult}
use Rattle.std.specs.List.{list_any}
use Rattle.std.specs.Str.{bytes_eq}
use mathlib.Core.Bool.{or_comm}
use Rattle.std.proofs.lemmas.List.{length-take}
use Rattle.std.proofs.lemmas.List.Folds.{list_any_more}
use Rattle.std.proofs.lemmas.Slice.Eq.{bytes_eq-Decides}
use Rattle.hoa_tokens.specs.declared.fault.Fault.{Fault}
use Rattle.hoa_tokens.specs.declared.fault.Refusal.TheVariants.{Unexpected, Repeated}
use Rattle.hoa_tokens.specs.declared.token.Placed.{Placed}
use Rattle.hoa_tokens.specs.declared.token.Token.{Token}
use Rattle.hoa_tokens.specs.declared.token.Token.TheVariants as case
use Rattle.hoa_tokens.specs.Scanning.{lexeme, found, Scanned, clipped}
use Rattle.hoa_grammar.specs.Rows.{Row, more, size, some}
use Rattle.hoa_grammar.specs.Documents.{alike, name_limit}
use Rattle.hoa_grammar.specs.Machine.{State, stuck, goes, at, names, step}
use Rattle.hoa_grammar.specs.Reading.{Reached, Refused}
use Rattle.hoa_grammar.specs.Verdicts.{fault_at}
use Rattle.hoa_grammar.proofs.Tests.{alike_true, alike_refl}
use Rattle.hoa_grammar.proofs.Stepping.{reached_on, reached_stuck, reached_broken}
use Rattle.hoa_document.specs.declared.names.Names.{Names}
use Rattle.hoa_document.specs.Naming.{name_at, first_names}
use Rattle.hoa_document.proofs.Leading.{breaks_where, keeps_where}

-- a name is the one that a comparison finds
alike_is : (v w : List ℕ) → alike w v ≡ bytes_eq v w
alike_is v w = go (alike w v) (bytes_eq v w) refl refl
  where
    go : (a b : Bool) → alike w v ≡ a → bytes_eq v w ≡ b → a ≡ b
    go true true p q = refl
    go false false p q = refl
    go true false p q = sym (sym q ∙ (bytes_eq-Decides v w).1 (sym (alike_true w v p)))
    go false true p q = sym p ∙ subst (λ u. alike w u ≡ true) (sym ((bytes_eq-Decides v w).0 q)) (alike_refl w)

module _ (held : List (Bor (List ℕ))) where
  pub size_first : (i : ℕ) → size (first_names held i) ≡ i
  size_first zero = refl
  size_first (suc i) = omega (arith, size_first i)

  -- one of the first m names is w
  pub any_held : (w : List ℕ) (m : ℕ) → m ≤ length held → list_any (λ v. bytes_eq v.now w) (take m held) ≡ some (alike w) (first_names held m)
  any_held w zero inside = refl
  any_held w (suc m) inside =
      let more : list_any (λ v. bytes_eq v.now w) (take (suc m) held) ≡ (list_any (λ v. bytes_eq v.now w) (take m held) || bytes_eq (name_at held m) w) = rw (← add-one m) (list_any_more (λ v. bytes_eq v.now w) held m _ (omega arith)) in
      more ∙ ap (λ b. b || bytes_eq (name_at held m) w) (any_held w m (omega arith)) ∙ or_comm (some (alike w) (first_names held m)) (bytes_eq (name_at held m) w) ∙ ap (λ b. b || some (alike w) (first_names held m)) (sym (alike_is (name_at held m) w))

-- names whose slice is as long as their count are all held
pub all_held : (x : Names) {xs : List (Bor (List ℕ))} → xs ≡ take x.count x.list → length xs ≡ x.count → x.count ≤ length x.list
all_held x part long = omega (arith, long, ap length part, length-take x.count x.list)

-- one more name may come where i of them are read
module _ {text : List ℕ} {head : Placed} {n : ℕ} {row : Row ℕ} {ws : Row (List ℕ)} (i signals : ℕ) (inside : i < signals) (r : Reached text (at (names n row ws (signals - i))) head) where
  one_more : Reached text (at (names n row ws (suc (signals - (i + 1))))) head
  one_more = let e : signals - i ≡ suc (signals - (i + 1)) = omega arith in rw e at r

  -- another token is not allowed
  pub no_name : ((w : Bor (List ℕ)) → head.token ≡ case.Name w → ⊥) → Refused text (fault_at Unexpected head.place)
  no_name other = reached_stuck one_more (go head.token other)
    where
      go : (t : Token) → ((w : Bor (List ℕ)) → t ≡ case.Name w → ⊥) → step (at (names n row ws (suc (signals - (i + 1))))) (lexeme t) ≡ stuck
      go (case.Word w) other = refl
      go (case.Number m) other = refl
      go (case.Name w) other = absurd (other w refl)
      go (case.Mark m) other = refl
      go case.End other = refl

  module _ (w : Bor (List ℕ)) (is : head.token ≡ case.Name w) where
    abbrev pub behind : State
    behind = at (names n row (more ws w.now) (signals - (i + 1)))

    name_step : step (at (names n row ws (suc (signals - (i + 1))))) (lexeme head.token) ≡ goes (name_limit ws w.now) behind
    name_step = ap (λ t. step (at (names n row ws (suc (signals - (i + 1))))) (lexeme t)) is

    -- a name is not allowed twice
    pub name_repeated : some (alike w.now) ws ≡ true → Refused text (fault_at Repeated head.place)
    name_repeated twice = reached_broken one_more Repeated behind (name_step ∙ ap (λ l. goes l behind) (breaks_where _ Repeated twice))

    -- and a new one leads on
    pub name_read : some (alike w.now) ws ≡ false → (q : Result Placed Fault) → Scanned text (clipped text head.next) (found q) → MatchResult q (Reached text behind) (Refused text)
    name_read once = reached_on one_more (λ e. no_end (sym is ∙ e)) behind (name_step ∙ ap (λ l. goes l behind) (keeps_where _ Repeated once))
      where
        no_end : case.Name w ≡ case.End → ⊥
        no_end e = let z : ◌≡◌ {A = ℕ} 0 1 = cc in omega arith
