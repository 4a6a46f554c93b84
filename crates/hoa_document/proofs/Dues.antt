-- Fixed tokens that are due: the first of them leads on to the others, and any other token is refused.
use Rattle.std.proofs.Common.{◌≡◌, ℕ, ◌+◌, ◌<◌, ◌≤◌, Bool, true, false, cond, ◌&&◌, List, ◌∷◌, map, length, get_or, drop, Result, sym, refl, ap, ◌∙◌, subst, rules, MatchResult}
use Rattle.std.specs.List.{list_all}
use Rattle.std.proofs.lemmas.Bool.{true≢false, eq-eqb}
use Rattle.std.proofs.lemmas.List.{drop_more, drop_all}
use Rattle.hoa_tokens.specs.declared.fault.Fault.{Fault}
use Rattle.hoa_tokens.specs.declared.fault.Refusal.TheVariants.{Unexpected}
use Rattle.hoa_tokens.specs.declared.token.Placed.{Placed}
use Rattle.hoa_tokens.specs.declared.token.Token.{Token}
use Rattle.hoa_tokens.specs.Faults.{fault_at}
use Rattle.hoa_tokens.specs.Scanning.{Lexeme, word, number, name, mark, end, lexeme, found, Scanned, clipped}
use Rattle.hoa_tokens.specs.Bytes.{sign}
use Rattle.hoa_grammar.specs.Marking.{kept}
use Rattle.hoa_grammar.specs.Machine.{Slot, stuck, goes, due, at, step, is_token}
use Rattle.hoa_grammar.specs.Reading.{Reached, Refused}
use Rattle.hoa_grammar.proofs.Tests.{is_token_true, alike_refl}
use Rattle.hoa_document.specs.Standing.{Stands, is_fixed}
use Rattle.hoa_document.proofs.Leading.{stands_stuck, stands_on}

other_stuck : (w x : Lexeme) (ws : List Lexeme) (k : Slot) → (x ≡ w → ⊥) → step (due (w ∷ ws) k) x ≡ stuck
other_stuck w x ws k other = go (is_token w x) refl
  where
    go : (b : Bool) → is_token w x ≡ b → cond b (goes kept (due ws k)) stuck ≡ stuck
    go true e = absurd (other (is_token_true w x e))
    go false e = refl

-- a fixed token is one that may be due
fixed_due : (w : Lexeme) → is_fixed w ≡ true → is_token w w ≡ true
fixed_due (word v) fixed = alike_refl v
fixed_due (number n) fixed = eq-eqb n n refl
fixed_due (name v) fixed = fixed
fixed_due (mark m) fixed = eq-eqb (sign m) (sign m) refl
fixed_due end fixed = fixed

-- where this token is due
module _ {text : List ℕ} {head : Placed} {w : Lexeme} {ws : List Lexeme} {k : Slot} (st : Stands text (due (w ∷ ws) k) head) where
  -- it leads on to the others
  pub due_here : is_fixed w ≡ true → lexeme head.token ≡ w → (q : Result Placed Fault) → Scanned text (clipped text head.next) (found q) → MatchResult q (Reached text (due ws k)) (Refused text)
  due_here fixed is = stands_on st (λ e. no_end (sym is ∙ e)) (due ws k) (ap (step (due (w ∷ ws) k)) is ∙ ap (λ b. cond b (goes kept (due ws k)) stuck) (fixed_due w fixed))
    where
      no_end : w ≡ end → ⊥
      no_end e = true≢false (sym fixed ∙ ap is_fixed e)

  -- and another is refused
  pub due_missing : (lexeme head.token ≡ w → ⊥) → Refused text (fault_at Unexpected head.place)
  due_missing other = stands_stuck st (other_stuck w (lexeme head.token) ws k other)

module _ {text : List ℕ} {head : Placed} {k : Slot} (tokens : List Token) (i : ℕ) (r : Reached text (due (map lexeme (drop i tokens)) k) head) where
  -- of the tokens from i on, that at i is due first
  pub due_at : (d : Token) → i < length tokens → Reached text (due (lexeme (get_or tokens i d) ∷ map lexeme (drop (i + 1) tokens)) k) head
  due_at d inside = subst (λ ts. Reached text (due (map lexeme ts) k) head) (drop_more tokens i d inside) r

  -- behind the last of them nothing is due
  pub due_no_more : length tokens ≤ i → Reached text (at k) head
  due_no_more past = subst (λ ts. Reached text (due (map lexeme ts) k) head) (drop_all i tokens past) r

-- of fixed tokens each is fixed
module _ (tokens : List Token) (i : ℕ) (fixed : list_all is_fixed (map lexeme (drop i tokens)) ≡ true) (d : Token) (inside : i < length tokens) where
  both_fixed : (is_fixed (lexeme (get_or tokens i d)) && list_all is_fixed (map lexeme (drop (i + 1) tokens))) ≡ true
  both_fixed = subst (λ ts. list_all is_fixed (map lexeme ts) ≡ true) (drop_more tokens i d inside) fixed

  pub first_fixed : is_fixed (lexeme (get_or tokens i d)) ≡ true
  first_fixed = search (rules, both_fixed)

  pub others_fixed : list_all is_fixed (map lexeme (drop (i + 1) tokens)) ≡ true
  others_fixed = search (rules, both_fixed)
