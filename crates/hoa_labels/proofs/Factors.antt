-- What each arm of `factor` has shown: a factor is read from the token in hand on, or the text is refused.
use Rattle.std.proofs.Common.{◌≡◌, ℕ, ◌+◌, ◌<◌, ◌≤◌, true, false, ◌⊎◌, List, Ok, Err, Result, sym, refl, ap, ◌∙◌, subst, inl, inr, arith, Bor, le-leb, MatchResult}
use borrow.Author.Tests.{lt-leb}
use lib.Bits.{bit_xor}
use Rattle.hoa_tokens.specs.declared.fault.Fault.{Fault}
use Rattle.hoa_tokens.specs.declared.fault.Refusal.TheVariants.{Unexpected, OutOfRange, TooDeep}
use Rattle.hoa_tokens.specs.declared.token.Mark.{Mark}
use Rattle.hoa_tokens.specs.declared.token.Mark.TheVariants.{OpenBracket, CloseBracket, OpenBrace, CloseBrace, OpenParen, CloseParen, Not, And, Or}
use Rattle.hoa_tokens.specs.declared.token.Placed.{Placed}
use Rattle.hoa_tokens.specs.declared.token.Token.TheVariants as case
use Rattle.hoa_tokens.specs.Scanning.{word, number, mark, fault, lexeme, found, Scanned, clipped}
use Rattle.hoa_grammar.specs.Marking.{kept}
use Rattle.hoa_grammar.specs.Verdicts.{fault_at}
use Rattle.hoa_grammar.specs.Labels.{Factor, Label, label_holds, always, never, signal, negated, group, factor_holds, on, deepest, depth_limit}
use Rattle.hoa_grammar.specs.Machine.{FactorContext, negating, grouping, factor_depth, LabelSlot, factor_due, behind_factor, stray, onto, label_step, is_token}
use Rattle.hoa_tokens.specs.declared.token.Read.{Read}
use Rattle.hoa_labels.specs.Letters.{Means}
use Rattle.hoa_labels.specs.Parts.{Leads, Fails, at_end, WordRead, Passed, ClosedBy, FactorRead, LabelRead, label_start, label_read}
use Rattle.hoa_labels.proofs.Sets.{means_none, means_not}
use Rattle.hoa_labels.proofs.Onward.{mark_goes_on, onward_next, onward_on}
use Rattle.hoa_labels.proofs.Leading.{strays, breaks, steps, leads_through, fails_in, here}
use Rattle.hoa_labels.proofs.Steps.{at_close_paren, not_close_paren}

-- a factor begins with itself
abbrev itself : FactorContext → FactorContext
itself c = c

-- a factor of one token
module _ (text : List ℕ) (head : Placed) (p room : ℕ) where
  leaf : (f : Factor) (letters : ℕ) → Means p (factor_holds f) letters → at_end (lexeme head.token) ≡ false → ((c : FactorContext) → label_step p (factor_due c) (lexeme head.token) ≡ onto kept (behind_factor c f)) → (r : Result (Read ℕ) Fault) → Passed text head letters r → FactorRead text head p room r
  leaf f letters means more is (Ok x) passed = record {
    tree = f;
    means = subst (Means p (factor_holds f)) (sym passed.0) means;
    onward = onward_next more passed.1;
    leads = steps (here itself) (λ c. behind_factor c f) (λ c deep. is c) (Ok x.head) passed.1;
  }
  leaf f letters means more is (Err e) passed = steps (here itself) (λ c. behind_factor c f) (λ c deep. is c) (Err e) passed

  pub word_read : {w : List ℕ} → lexeme head.token ≡ word w → (letters : ℕ) → WordRead p w head.place (Ok letters) → (r : Result (Read ℕ) Fault) → Passed text head letters r → FactorRead text head p room r
  word_read is letters (inl t) = leaf always letters t.1 (ap at_end is) (λ c. ap (label_step p (factor_due c)) is ∙ rw t.0)
  word_read is letters (inr f) = leaf never letters (subst (Means p (λ a. false)) (sym f.2) (means_none p)) (ap at_end is) (λ c. ap (label_step p (factor_due c)) is ∙ rw (f.0, f.1))

  pub signal_read : {i : ℕ} → lexeme head.token ≡ number i → (letters : ℕ) → i < p → Means p (on i) letters → (r : Result (Read ℕ) Fault) → Passed text head letters r → FactorRead text head p room r
  signal_read {i} is letters below means = leaf (signal i) letters means (ap at_end is) (λ c. ap (label_step p (factor_due c)) is ∙ rw (lt-leb p i below))

-- a token with which no factor begins, or none that keeps the limits
module _ {text : List ℕ} {head : Placed} {p room : ℕ} where
  pub word_fails : {w : List ℕ} → lexeme head.token ≡ word w → (e : Fault) → WordRead p w head.place (Err e) → FactorRead text head p room (Err e)
  word_fails is e other = subst (Fails itself text head p room) (sym other.2) (strays (here itself) (λ c. ap (label_step p (factor_due c)) is ∙ rw (other.0, other.1)))

  pub signal_fails : {i : ℕ} → lexeme head.token ≡ number i → p ≤ i → FactorRead text head p room (Err (fault_at OutOfRange head.place))
  signal_fails {i} is high = breaks (here itself) OutOfRange (λ c. behind_factor c (signal i)) (λ c deep. ap (label_step p (factor_due c)) is ∙ rw (le-leb p i high))

  pub name_or_end_fails : ((v : Bor (List ℕ)) × (head.token ≡ case.Name v)) ⊎ (head.token ≡ case.End) → FactorRead text head p room (Err (fault_at Unexpected head.place))
  name_or_end_fails (inl (v, is)) = strays (here itself) (λ c. ap (λ t. label_step p (factor_due c) (lexeme t)) is)
  name_or_end_fails (inr is) = strays (here itself) (λ c. ap (λ t. label_step p (factor_due c) (lexeme t)) is)

  pub mark_fails : (m : Mark) → head.token ≡ case.Mark m → (m ≡ Not → ⊥) → (m ≡ OpenParen → ⊥) → FactorRead text head p room (Err (fault_at Unexpected head.place))
  mark_fails m is no-not no-open = strays (here itself) (λ c. ap (λ t. label_step p (factor_due c) (lexeme t)) is ∙ stray_mark m no-not no-open c)
    where
      stray_mark : (n : Mark) → (n ≡ Not → ⊥) → (n ≡ OpenParen → ⊥) → (c : FactorContext) → label_step p (factor_due c) (mark n) ≡ stray
      stray_mark Not no-not no-open c = absurd (no-not refl)
      stray_mark OpenParen no-not no-open c = absurd (no-open refl)
      stray_mark OpenBracket no-not no-open c = refl
      stray_mark CloseBracket no-not no-open c = refl
      stray_mark OpenBrace no-not no-open c = refl
      stray_mark CloseBrace no-not no-open c = refl
      stray_mark CloseParen no-not no-open c = refl
      stray_mark And no-not no-open c = refl
      stray_mark Or no-not no-open c = refl

-- behind the token in hand another part is due, inside one more `(` or `!`
pub record Opens {D : Type 0} (second : D → FactorContext) (into : FactorContext → D) (p : ℕ) (head : Placed) : Type 0 where
  pub more : at_end (lexeme head.token) ≡ false
  pub steps : (c : FactorContext) → label_step p (factor_due c) (lexeme head.token) ≡ onto (depth_limit (factor_depth c)) (factor_due (second (into c)))
  pub deeper : (c : FactorContext) → factor_depth (second (into c)) ≡ factor_depth c + 1

module _ {p : ℕ} {head : Placed} where
  pub opens_factor : {m : Mark} → head.token ≡ case.Mark m → m ≡ Not → Opens itself negating p head
  opens_factor marked is = let x = ap lexeme marked ∙ ap mark is in record { more = ap at_end x; steps = λ c. ap (label_step p (factor_due c)) x; deeper = λ c. refl }

  pub opens_label : {m : Mark} → head.token ≡ case.Mark m → m ≡ OpenParen → Opens label_start grouping p head
  opens_label marked is = let x = ap lexeme marked ∙ ap mark is in record { more = ap at_end x; steps = λ c. ap (label_step p (factor_due c)) x; deeper = λ c. refl }

module _ {D : Type 0} {second : D → FactorContext} {into : FactorContext → D} {p : ℕ} {head : Placed} (o : Opens second into p head) where
  pub too_deep : {text : List ℕ} {room : ℕ} → room ≡ 0 → FactorRead text head p room (Err (fault_at TooDeep head.place))
  too_deep none = breaks (here itself) TooDeep (λ c. factor_due (second (into c))) (λ c deep. o.steps c ∙ rw (le-leb deepest (factor_depth c) (omega arith)))

  module _ (room inside : ℕ) (enough : room ≡ inside + 1) where
    opened : {text : List ℕ} (q : Result Placed Fault) → Scanned text (clipped text head.next) (found q) → MatchResult q (Leads itself text head p room (λ c. factor_due (second (into c)))) (Fails itself text head p room)
    opened q scanned = steps (here itself) (λ c. factor_due (second (into c))) (λ c deep. o.steps c ∙ rw (lt-leb deepest (factor_depth c) (omega arith))) q scanned

    same_room : (c : FactorContext) → factor_depth (second (into c)) + inside ≡ factor_depth c + room
    same_room c = omega (arith, o.deeper c)

    part_leads : {text : List ℕ} {behind next : Placed} {to : D → LabelSlot} → Scanned text (clipped text head.next) (found (Ok behind)) → Leads second text behind p inside to next → Leads itself text head p room (λ c. to (into c)) next
    part_leads {behind = behind} scanned part = leads_through into (opened (Ok behind) scanned) same_room part

  module _ {text : List ℕ} {room : ℕ} (inside : ℕ) (enough : room ≡ inside + 1) where
    pub scan_fails : {f : Fault} → Scanned text (clipped text head.next) (fault f) → FactorRead text head p room (Err f)
    scan_fails {f} scanned = opened room inside enough (Err f) scanned

    pub part_fails : {behind : Placed} {f : Fault} → Scanned text (clipped text head.next) (found (Ok behind)) → Fails second text behind p inside f → FactorRead text head p room (Err f)
    part_fails {behind} scanned part = fails_in into (opened room inside enough (Ok behind) scanned) (same_room room inside enough) part

module _ {text : List ℕ} {head behind : Placed} {p room inside : ℕ} {x : Read ℕ} (enough : room ≡ inside + 1) (scanned : Scanned text (clipped text head.next) (found (Ok behind))) where
  -- `!` and a factor
  pub negation_read : Opens itself negating p head → FactorRead text behind p inside (Ok x) → (all : ℕ) → Means p (λ a. true) all → FactorRead text head p room (Ok (record { value = bit_xor x.value all; head = x.head }))
  negation_read o r all every = record {
    tree = negated r.tree;
    means = means_not p x.value all (factor_holds r.tree) (λ a. true) r.means every;
    onward = onward_on (onward_next o.more scanned) r.onward;
    leads = part_leads o room inside enough scanned r.leads;
  }

  -- a label in parentheses
  module _ (o : Opens label_start grouping p head) (r : LabelRead text behind p inside (Ok x)) where
    abbrev l : Label
    l = r.0.0.tree

    led : Leads itself text head p room (λ c. label_read l (grouping c)) x.head
    led = part_leads o room inside enough scanned r.0.0.leads

    module _ (closed : is_token (mark CloseParen) (lexeme x.head.token) ≡ true) where
      behind_group : (q : Result Placed Fault) → Scanned text (clipped text x.head.next) (found q) → MatchResult q (Leads itself text head p room (λ c. behind_factor c (group l))) (Fails itself text head p room)
      behind_group = steps led (λ c. behind_factor c (group l)) (λ c deep. at_close_paren p l (lexeme x.head.token) r.0.1 r.1 c closed)

      group_read : (q : Result (Read ℕ) Fault) → Passed text x.head x.value q → FactorRead text head p room q
      group_read (Ok y) passed = record {
        tree = group l;
        means = subst (Means p (label_holds l)) (sym passed.0) r.0.0.means;
        onward = onward_on (onward_next o.more scanned) (onward_on r.0.0.onward (onward_next (mark_goes_on CloseParen (lexeme x.head.token) closed) passed.1));
        leads = behind_group (Ok y.head) passed.1;
      }
      group_read (Err f) passed = behind_group (Err f) passed

    pub group_closed : (q : Result (Read ℕ) Fault) → ClosedBy CloseParen text x q → FactorRead text head p room q
    group_closed q (inl c) = group_read c.0 q c.1
    group_closed q (inr c) = rw c.1 (strays led (λ d. not_close_paren p l (lexeme x.head.token) r.0.1 r.1 d c.0))
