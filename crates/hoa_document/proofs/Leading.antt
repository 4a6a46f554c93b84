-- How reading goes on where the machine stands as in some state: the token in hand leads on, is not allowed, or breaks a limit.
use Rattle.std.proofs.Common.{◌≡◌, ℕ, Bool, true, false, List, Ok, Err, Result, is_ok, sym, refl, ap, ◌∙◌, subst, arith, MatchResult}
use Rattle.std.proofs.lemmas.Bool.{true≢false}
use Rattle.hoa_tokens.specs.declared.fault.Fault.{Fault}
use Rattle.hoa_tokens.specs.declared.fault.Refusal.{Refusal}
use Rattle.hoa_tokens.specs.declared.fault.Refusal.TheVariants.{Unexpected}
use Rattle.hoa_tokens.specs.declared.token.Mark.{Mark}
use Rattle.hoa_tokens.specs.declared.token.Placed.{Placed}
use Rattle.hoa_tokens.specs.Faults.{fault_at}
use Rattle.hoa_tokens.specs.Scanning.{Lexeme, word, number, name, mark, end, lexeme, found, Scanned, clipped}
use Rattle.hoa_grammar.specs.Marking.{Limit, kept, broken, breaks_if}
use Rattle.hoa_grammar.specs.Machine.{State, Step, stuck, goes, step, number_only}
use Rattle.hoa_grammar.specs.Reading.{Reached, Refused}
use Rattle.hoa_grammar.proofs.Stepping.{reached_on, reached_stuck, reached_broken}
use Rattle.hoa_document.specs.Standing.{Stands, limit_of, NumberRead}

-- a limit with one test is broken where the test is true, and kept where it is false
pub breaks_where : (test : Bool) (r : Refusal) → test ≡ true → breaks_if test r kept ≡ broken r
breaks_where test r e = ap (λ b. breaks_if b r kept) e

pub keeps_where : (test : Bool) (r : Refusal) → test ≡ false → breaks_if test r kept ≡ kept
keeps_where test r e = ap (λ b. breaks_if b r kept) e

-- a number that passes its test keeps the limit, and one that does not breaks it
pub limit_kept : (l : Limit) (r : Result (Unit {0}) Refusal) → l ≡ limit_of r → true ≡ is_ok r → l ≡ kept
limit_kept l (Ok x) says e = says
limit_kept l (Err f) says e = absurd (true≢false e)

pub limit_broken : (l : Limit) (r : Result (Unit {0}) Refusal) (e : Refusal) → l ≡ limit_of r → r ≡ Err e → l ≡ broken e
limit_broken l r e says is = says ∙ ap limit_of is

-- a state stands for itself
pub stands_there : {text : List ℕ} {s : State} {head : Placed} → Reached text s head → Stands text s head
stands_there {s = s} r = record { state = s; reached = r; alike = refl }

module _ {text : List ℕ} {s : State} {head : Placed} (st : Stands text s head) where
  pub stands_stuck : step s (lexeme head.token) ≡ stuck → Refused text (fault_at Unexpected head.place)
  stands_stuck is = reached_stuck st.reached (st.alike ∙ is)

  pub stands_broken : (limit : Refusal) (s' : State) → step s (lexeme head.token) ≡ goes (broken limit) s' → Refused text (fault_at limit head.place)
  stands_broken limit s' is = reached_broken st.reached limit s' (st.alike ∙ is)

  pub stands_on : (lexeme head.token ≡ end → ⊥) → (s' : State) → step s (lexeme head.token) ≡ goes kept s' → (q : Result Placed Fault) → Scanned text (clipped text head.next) (found q) → MatchResult q (Reached text s') (Refused text)
  stands_on more s' is = reached_on st.reached (λ e. more (ap lexeme e)) s' (st.alike ∙ is)

-- words, numbers and marks are not the text's end
pub word_not_end : (w : List ℕ) → word w ≡ end → ⊥
word_not_end w e = let z : ◌≡◌ {A = ℕ} 0 1 = cc in omega arith

pub number_not_end : (n : ℕ) → number n ≡ end → ⊥
number_not_end n e = let z : ◌≡◌ {A = ℕ} 0 1 = cc in omega arith

pub mark_not_end : (m : Mark) → mark m ≡ end → ⊥
mark_not_end m e = let z : ◌≡◌ {A = ℕ} 0 1 = cc in omega arith

-- only numbers are taken where a number is due
no_number : (f : ℕ → Step) (x : Lexeme) → ((n : ℕ) → x ≡ number n → ⊥) → number_only f x ≡ stuck
no_number f (word w) none = refl
no_number f (number n) none = absurd (none n refl)
no_number f (name w) none = refl
no_number f (mark m) none = refl
no_number f end none = refl

module _ (text : List ℕ) (head : Placed) (limit : ℕ → Limit) where
  pub number_missing : ((n : ℕ) → lexeme head.token ≡ number n → ⊥) → (f : Fault) → f ≡ fault_at Unexpected head.place → NumberRead text head limit (Err f)
  number_missing none f fault s go is st =
      subst (Refused text) (sym fault) (stands_stuck st (is ∙ no_number (λ n. goes (limit n) (go n)) (lexeme head.token) none))

  module _ (n : ℕ) (here : lexeme head.token ≡ number n) where
    -- the step at the number in hand
    number_step : (s : State) (go : ℕ → State) (l : Limit) → limit n ≡ l → step s (lexeme head.token) ≡ number_only (λ m. goes (limit m) (go m)) (lexeme head.token) → step s (lexeme head.token) ≡ goes l (go n)
    number_step s go l limited is = is ∙ ap (number_only (λ m. goes (limit m) (go m))) here ∙ ap (λ k. goes k (go n)) limited

    pub number_over : (r : Refusal) → limit n ≡ broken r → (f : Fault) → f ≡ fault_at r head.place → NumberRead text head limit (Err f)
    number_over r over f fault s go is st =
        subst (Refused text) (sym fault) (stands_broken st r (go n) (number_step s go (broken r) over is))

    module _ (within : limit n ≡ kept) where
      behind_number : (s : State) (go : ℕ → State) → step s (lexeme head.token) ≡ number_only (λ m. goes (limit m) (go m)) (lexeme head.token) → Stands text s head → (q : Result Placed Fault) → Scanned text (clipped text head.next) (found q) → MatchResult q (Reached text (go n)) (Refused text)
      behind_number s go is st = stands_on st (λ e. number_not_end n (sym here ∙ e)) (go n) (number_step s go kept within is)

      pub number_here : (h : Placed) → Scanned text (clipped text head.next) (found (Ok h)) → NumberRead text head limit (Ok (record { value = n; head = h }))
      number_here h scanned s go is st = (within, behind_number s go is st (Ok h) scanned)

      pub number_last : (f : Fault) → Scanned text (clipped text head.next) (found (Err f)) → NumberRead text head limit (Err f)
      number_last f scanned s go is st = behind_number s go is st (Err f) scanned
