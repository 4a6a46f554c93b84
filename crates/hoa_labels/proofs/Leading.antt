-- How reading leads on: by the step that the token in hand makes in a label, and through one part behind another.
use Rattle.std.proofs.Common.{◌≡◌, ℕ, ◌+◌, List, Ok, Err, Result, sym, ap, ◌∙◌, subst, arith, MatchResult}
use Rattle.std.proofs.lemmas.Result.{MatchResult-weaker}
use Rattle.hoa_tokens.specs.declared.fault.Fault.{Fault}
use Rattle.hoa_tokens.specs.declared.fault.Refusal.{Refusal}
use Rattle.hoa_tokens.specs.declared.fault.Refusal.TheVariants.{Unexpected}
use Rattle.hoa_tokens.specs.declared.token.Placed.{Placed}
use Rattle.hoa_tokens.specs.declared.token.Token.TheVariants.{End}
use Rattle.hoa_tokens.specs.Scanning.{end, lexeme, found, Scanned, clipped}
use Rattle.hoa_grammar.specs.Marking.{Limit, kept, broken}
use Rattle.hoa_grammar.specs.Verdicts.{fault_at}
use Rattle.hoa_grammar.specs.Labels.{deepest}
use Rattle.hoa_grammar.specs.Machine.{FactorContext, factor_depth, LabelSlot, factor_due, term_read, LabelStep, stray, onto, label_step, in_block, Current, within, at, step}
use Rattle.hoa_grammar.specs.Reading.{Refused}
use Rattle.hoa_grammar.proofs.Stepping.{reached_on, reached_stuck, reached_broken}
use Rattle.hoa_labels.specs.Parts.{Slotted, Leads, Fails}

-- the text's end leads nowhere in a label
no_step_at_end : (p : ℕ) (k k' : LabelSlot) (limit : Limit) → label_step p k end ≡ onto limit k' → ⊥
no_step_at_end p (factor_due c) k' limit is = let z : ◌≡◌ {A = ℕ} 0 1 = cc in omega arith
no_step_at_end p (term_read c t) k' limit is = let z : ◌≡◌ {A = ℕ} 0 1 = cc in omega arith

module _ {text : List ℕ} {p : ℕ} {cur : Current} {k : LabelSlot} {head : Placed} (h : Slotted text p cur k head) where
  pub in_block_lem : (now : LabelStep) → label_step p k (lexeme head.token) ≡ now → step (at (within cur k)) (lexeme head.token) ≡ in_block cur now
  in_block_lem now is = subst (λ n. in_block cur (label_step n k (lexeme head.token)) ≡ in_block cur now) (sym h.signals) (ap (in_block cur) is)

  pub slotted_stray : label_step p k (lexeme head.token) ≡ stray → Refused text (fault_at Unexpected head.place)
  slotted_stray is = reached_stuck h.reached (in_block_lem stray is)

  slotted_broken : (limit : Refusal) (k' : LabelSlot) → label_step p k (lexeme head.token) ≡ onto (broken limit) k' → Refused text (fault_at limit head.place)
  slotted_broken limit k' is = reached_broken h.reached limit (at (within cur k')) (in_block_lem (onto (broken limit) k') is)

  slotted_on : (k' : LabelSlot) → label_step p k (lexeme head.token) ≡ onto kept k' → (q : Result Placed Fault) → Scanned text (clipped text head.next) (found q) → MatchResult q (Slotted text p cur k') (Refused text)
  slotted_on k' is q scanned =
      let more : head.token ≡ End → ⊥ = λ e. no_step_at_end p k k' kept (subst (λ t. label_step p k (lexeme t) ≡ onto kept k') e is) in
      MatchResult-weaker q (reached_on h.reached more (at (within cur k')) (in_block_lem (onto kept k') is) q scanned) (λ next r. record { signals = h.signals; reached = r }) (λ f r. r)

-- a part is read up to the token in hand
module _ {C : Type 0} {first : C → FactorContext} {text : List ℕ} {start head : Placed} {p room : ℕ} {behind : C → LabelSlot} (led : Leads first text start p room behind head) where
  -- the token in hand is not allowed there
  pub strays : ((c : C) → label_step p (behind c) (lexeme head.token) ≡ stray) → Fails first text start p room (fault_at Unexpected head.place)
  strays is = record { on = λ c cur deep h. slotted_stray (led.on c cur deep h) (is c) }

  -- it breaks a limit there
  pub breaks : (limit : Refusal) (to : C → LabelSlot) → ((c : C) → factor_depth (first c) + room ≡ deepest → label_step p (behind c) (lexeme head.token) ≡ onto (broken limit) (to c)) → Fails first text start p room (fault_at limit head.place)
  breaks limit to is = record { on = λ c cur deep h. slotted_broken (led.on c cur deep h) limit (to c) (is c deep) }

  -- it leads on, to the token behind it or a fault of the bytes there
  pub steps : (to : C → LabelSlot) → ((c : C) → factor_depth (first c) + room ≡ deepest → label_step p (behind c) (lexeme head.token) ≡ onto kept (to c)) → (q : Result Placed Fault) → Scanned text (clipped text head.next) (found q) → MatchResult q (Leads first text start p room to) (Fails first text start p room)
  steps to is (Ok next) scanned = record { on = λ c cur deep h. slotted_on (led.on c cur deep h) (to c) (is c deep) (Ok next) scanned }
  steps to is (Err f) scanned = record { on = λ c cur deep h. slotted_on (led.on c cur deep h) (to c) (is c deep) (Err f) scanned }

-- another part is due at the token in hand, in the context `into c`, with as much room as there is
module _ {C D : Type 0} {first : C → FactorContext} {second : D → FactorContext} {text : List ℕ} {start head : Placed} {p room inside : ℕ} (into : C → D) (led : Leads first text start p room (λ c. factor_due (second (into c))) head) (same : (c : C) → factor_depth (second (into c)) + inside ≡ factor_depth (first c) + room) where
  pub leads_through : {behind : D → LabelSlot} {next : Placed} → Leads second text head p inside behind next → Leads first text start p room (λ c. behind (into c)) next
  leads_through part = record { on = λ c cur deep h. part.on (into c) cur (same c ∙ deep) (led.on c cur deep h) }

  pub fails_in : {f : Fault} → Fails second text head p inside f → Fails first text start p room f
  fails_in part = record { on = λ c cur deep h. part.on (into c) cur (same c ∙ deep) (led.on c cur deep h) }

-- a part is due at the token in hand
pub here : {C : Type 0} (first : C → FactorContext) {text : List ℕ} {head : Placed} {p room : ℕ} → Leads first text head p room (λ c. factor_due (first c)) head
here first = record { on = λ c cur deep h. h }
