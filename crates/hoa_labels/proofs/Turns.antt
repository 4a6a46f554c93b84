-- What `term` and `label` keep: their first part, one turn of their loop, and the ways out of it.
use Rattle.std.proofs.Common.{◌≡◌, ℕ, ◌+◌, Bool, true, false, List, Ok, Err, Result, refl, subst, arith, MatchResult}
use lib.Bits.{bit_and, bit_or}
use Rattle.hoa_tokens.specs.declared.fault.Fault.{Fault}
use Rattle.hoa_tokens.specs.declared.token.Mark.TheVariants.{And, Or}
use Rattle.hoa_tokens.specs.declared.token.Placed.{Placed}
use Rattle.hoa_tokens.specs.Scanning.{mark, fault, lexeme, found, Scanned, clipped}
use Rattle.hoa_grammar.specs.Marking.{kept}
use Rattle.hoa_grammar.specs.Labels.{factor, and, term, or, factor_holds, term_holds, label_holds}
use Rattle.hoa_grammar.specs.Machine.{FactorContext, TermContext, LabelContext, first_factor, next_factor, first_term, next_term, factor_depth, LabelSlot, factor_due, term_read, onto, label_step, is_token}
use Rattle.hoa_tokens.specs.declared.token.Read.{Read}
use Rattle.hoa_labels.specs.Letters.{Means}
use Rattle.hoa_labels.specs.Parts.{Slotted, Leads, Fails, at_end, Reads, FactorRead, TermBegun, TermRead, LabelBegun, LabelRead, label_read}
use Rattle.hoa_labels.proofs.Sets.{means_and, means_or}
use Rattle.hoa_labels.proofs.Onward.{mark_goes_on, onward_next, onward_on}
use Rattle.hoa_labels.proofs.Leading.{steps, leads_through, fails_in}
use Rattle.hoa_labels.proofs.Steps.{at_and, at_or}

-- the first part
module _ {text : List ℕ} {head : Placed} {p room : ℕ} where
  pub term_first : {x : Read ℕ} → FactorRead text head p room (Ok x) → TermBegun text head p room x
  term_first r = record { tree = factor r.tree; means = r.means; onward = r.onward; leads = record { on = λ c. r.leads.on (first_factor c) } }

  pub term_fails_first : {f : Fault} → FactorRead text head p room (Err f) → TermRead text head p room (Err f)
  term_fails_first part = record { on = λ c. part.on (first_factor c) }

  pub label_first : {x : Read ℕ} → TermRead text head p room (Ok x) → LabelBegun text head p room x
  label_first r = (record { tree = term r.0.tree; means = r.0.means; onward = r.0.onward; leads = record { on = λ c. r.0.leads.on (first_term c) } }, r.1)

  pub label_fails_first : {f : Fault} → TermRead text head p room (Err f) → LabelRead text head p room (Err f)
  label_fails_first part = record { on = λ c. part.on (first_term c) }

-- a turn of either loop: the token in hand joins another part, in the context `into c`
module _ {C D T : Type 0} {first : C → FactorContext} {holds : T → ℕ → Bool} {behind : T → C → LabelSlot} {text : List ℕ} {start : Placed} {p room : ℕ} {x : Read ℕ} (s : Reads first holds behind text start p room x) (second : D → FactorContext) (into : C → D) (joins : (c : C) → label_step p (behind s.tree c) (lexeme x.head.token) ≡ onto kept (factor_due (second (into c)))) (same : (c : C) → factor_depth (second (into c)) + room ≡ factor_depth (first c) + room) where
  turned : (q : Result Placed Fault) → Scanned text (clipped text x.head.next) (found q) → MatchResult q (Leads first text start p room (λ c. factor_due (second (into c)))) (Fails first text start p room)
  turned q scanned = steps s.leads (λ c. factor_due (second (into c))) (λ c deep. joins c) q scanned

  turn_scan_fails : (f : Fault) → Scanned text (clipped text x.head.next) (fault f) → Fails first text start p room f
  turn_scan_fails f scanned = turned (Err f) scanned

  module _ {next : Placed} (scanned : Scanned text (clipped text x.head.next) (found (Ok next))) where
    turn_part_fails : {f : Fault} → Fails second text next p room f → Fails first text start p room f
    turn_part_fails part = fails_in into (turned (Ok next) scanned) same part

    turn_reads : {U : Type 0} {others : U → ℕ → Bool} {ends : U → D → LabelSlot} {y : Read ℕ} (r : Reads second others ends text next p room y) (tree : T) (letters : ℕ) → Means p (holds tree) letters → ((c : C) → ends r.tree (into c) ≡ behind tree c) → at_end (lexeme x.head.token) ≡ false → Reads first holds behind text start p room (record { value = letters; head = y.head })
    turn_reads {y} r tree letters means whole more = record {
      tree = tree;
      means = means;
      onward = onward_on s.onward (onward_on (onward_next more scanned) r.onward);
      leads = record { on = λ c cur deep h. subst (λ k. Slotted text p cur k y.head) (whole c) ((leads_through into (turned (Ok next) scanned) same r.leads).on c cur deep h) };
    }

-- a turn of `term`
module _ {text : List ℕ} {start : Placed} {p room : ℕ} {x : Read ℕ} (s : TermBegun text start p room x) (joins : is_token (mark And) (lexeme x.head.token) ≡ true) where
  abbrev into_factor : TermContext → FactorContext
  into_factor c = next_factor c s.tree

  at_ampersand : (c : TermContext) → label_step p (term_read c s.tree) (lexeme x.head.token) ≡ onto kept (factor_due (into_factor c))
  at_ampersand c = at_and p c s.tree (lexeme x.head.token) joins

  pub term_scan_fails : (f : Fault) → Scanned text (clipped text x.head.next) (fault f) → TermRead text start p room (Err f)
  term_scan_fails = turn_scan_fails s (λ c. c) into_factor at_ampersand (λ c. refl)

  module _ {next : Placed} (scanned : Scanned text (clipped text x.head.next) (found (Ok next))) where
    pub term_part_fails : (f : Fault) → FactorRead text next p room (Err f) → TermRead text start p room (Err f)
    term_part_fails f = turn_part_fails s (λ c. c) into_factor at_ampersand (λ c. refl) scanned

    pub term_more : (y : Read ℕ) → FactorRead text next p room (Ok y) → TermBegun text start p room (record { value = bit_and x.value y.value; head = y.head })
    term_more y r = turn_reads s (λ c. c) into_factor at_ampersand (λ c. refl) scanned r (and s.tree r.tree) (bit_and x.value y.value) (means_and p x.value y.value (term_holds s.tree) (factor_holds r.tree) s.means p (omega arith) r.means) (λ c. refl) (mark_goes_on And (lexeme x.head.token) joins)

-- a turn of `label`
module _ {text : List ℕ} {start : Placed} {p room : ℕ} {x : Read ℕ} (s : LabelBegun text start p room x) (joins : is_token (mark Or) (lexeme x.head.token) ≡ true) where
  abbrev into_term : LabelContext → TermContext
  into_term c = next_term c s.0.tree

  at_bar : (c : LabelContext) → label_step p (label_read s.0.tree c) (lexeme x.head.token) ≡ onto kept (factor_due (first_factor (into_term c)))
  at_bar c = at_or p s.0.tree (lexeme x.head.token) s.1 c joins

  pub label_scan_fails : (f : Fault) → Scanned text (clipped text x.head.next) (fault f) → LabelRead text start p room (Err f)
  label_scan_fails = turn_scan_fails s.0 first_factor into_term at_bar (λ c. refl)

  module _ {next : Placed} (scanned : Scanned text (clipped text x.head.next) (found (Ok next))) where
    pub label_part_fails : (f : Fault) → TermRead text next p room (Err f) → LabelRead text start p room (Err f)
    label_part_fails f = turn_part_fails s.0 first_factor into_term at_bar (λ c. refl) scanned

    pub label_more : (y : Read ℕ) → TermRead text next p room (Ok y) → LabelBegun text start p room (record { value = bit_or x.value y.value; head = y.head })
    label_more y r = (turn_reads s.0 first_factor into_term at_bar (λ c. refl) scanned r.0 (or s.0.tree r.0.tree) (bit_or x.value y.value) (means_or p x.value y.value (label_holds s.0.tree) (term_holds r.0.tree) s.0.means r.0.means) (λ c. refl) (mark_goes_on Or (lexeme x.head.token) joins), r.1)
