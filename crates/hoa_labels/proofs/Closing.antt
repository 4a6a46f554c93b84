-- What `bracketed` has shown: a label is read up to behind its `]`, where a target is due, or the text is refused.
use Rattle.std.proofs.Common.{◌≡◌, ℕ, true, List, Ok, Err, Result, inl, inr, sym, subst, arith, MatchResult}
use Rattle.hoa_tokens.specs.declared.fault.Fault.{Fault}
use Rattle.hoa_tokens.specs.declared.token.Mark.TheVariants.{CloseBracket}
use Rattle.hoa_tokens.specs.declared.token.Placed.{Placed}
use Rattle.hoa_tokens.specs.Scanning.{mark, lexeme, found, Scanned, clipped}
use Rattle.hoa_grammar.specs.Rows.{size}
use Rattle.hoa_grammar.specs.Labels.{Label, label_holds, deepest}
use Rattle.hoa_grammar.specs.Machine.{bracketed, factor_due, closes, is_token, Current, within, target, at}
use Rattle.hoa_grammar.specs.Reading.{Reached, Refused}
use Rattle.hoa_grammar.proofs.Stepping.{reached_on}
use Rattle.hoa_tokens.specs.declared.token.Read.{Read}
use Rattle.hoa_labels.specs.Letters.{Means}
use Rattle.hoa_labels.specs.Parts.{Slotted, Passed, ClosedBy, LabelRead, BracketedRead, label_start, label_read}
use Rattle.hoa_labels.proofs.Onward.{mark_goes_on, not_end}
use Rattle.hoa_labels.proofs.Leading.{in_block_lem, slotted_stray}
use Rattle.hoa_labels.proofs.Steps.{at_close_bracket, not_close_bracket}

module _ {text : List ℕ} {head : Placed} {p room : ℕ} (whole : room ≡ deepest) where
  pub bracket_fails : {f : Fault} → LabelRead text head p room (Err f) → BracketedRead text head p (Err f)
  bracket_fails r cur signals reached = r.on bracketed cur (omega arith) (record { signals = signals; reached = reached })

  module _ {x : Read ℕ} (r : LabelRead text head p room (Ok x)) where
    abbrev l : Label
    l = r.0.0.tree

    slotted : (cur : Current) → size cur.header.names ≡ p → Reached text (at (within cur (factor_due (label_start bracketed)))) head → Slotted text p cur (label_read l bracketed) x.head
    slotted cur signals reached = r.0.0.leads.on bracketed cur (omega arith) (record { signals = signals; reached = reached })

    module _ (closed : is_token (mark CloseBracket) (lexeme x.head.token) ≡ true) where
      to_target : (cur : Current) → size cur.header.names ≡ p → Reached text (at (within cur (factor_due (label_start bracketed)))) head → (q : Result Placed Fault) → Scanned text (clipped text x.head.next) (found q) → MatchResult q (Reached text (at (target cur l))) (Refused text)
      to_target cur signals reached q scanned =
          let h = slotted cur signals reached in
          reached_on h.reached (not_end x.head.token (mark_goes_on CloseBracket (lexeme x.head.token) closed)) (at (target cur l)) (in_block_lem h (closes l) (at_close_bracket p l (lexeme x.head.token) r.0.1 r.1 closed)) q scanned

      bracket_read : (q : Result (Read ℕ) Fault) → Passed text x.head x.value q → BracketedRead text head p q
      bracket_read (Ok y) passed = (l, subst (Means p (label_holds l)) (sym passed.0) r.0.0.means, λ cur signals reached. to_target cur signals reached (Ok y.head) passed.1)
      bracket_read (Err f) passed = λ cur signals reached. to_target cur signals reached (Err f) passed

    pub bracket_closed : (q : Result (Read ℕ) Fault) → ClosedBy CloseBracket text x q → BracketedRead text head p q
    bracket_closed q (inl c) = bracket_read c.0 q c.1
    bracket_closed q (inr c) = rw c.1 (λ cur signals reached. slotted_stray (slotted cur signals reached) (not_close_bracket p l (lexeme x.head.token) r.0.1 r.1 c.0))
