-- A table that is filled from a draft: its cells, and the automaton that it is.
use Rattle.std.proofs.Common.{◌≡◌, ℕ, ◌+◌, ◌*◌, ◌<◌, ◌≤◌, false, ◌&&◌, ltb, List, get_or, take, drop, sym, ap, ◌∙◌, subst, ⊎_elim, Result, Ok, Err, MatchResult}
use Rattle.std.proofs.lemmas.List.{get_or-take}
use Rattle.std.proofs.lemmas.Bool.{cases_lt, le-ltb, and_left, and_right}
use Rattle.omega.specs.Signals.{bit}
use Rattle.tables.specs.declared.draft.Draft.{Draft}
use Rattle.tables.specs.declared.frame.Frame.{Frame}
use Rattle.tables.specs.Meanings.{framed, draft_meaning}
use Rattle.tables.specs.Cells.{table_cells}
use Rattle.tables.proofs.Added.{cell_inside}
use Rattle.hoa_document.specs.Denoting.{TextDenotes}
use Rattle.hoa_text.specs.Reading.{CellsSet}

-- two things that are told of a result
pub both_told : {X Y : Type 0} (r : Result X Y) (P P' : X → Type 0) (Q Q' : Y → Type 0) → MatchResult r P Q → MatchResult r P' Q' → MatchResult r (λ x. P x × P' x) (λ y. Q y × Q' y)
both_told (Ok x) _ _ _ _ p q = (p, q)
both_told (Err y) _ _ _ _ p q = (p, q)

-- its frame is the draft's, and so are its first cells
module _ (draft : Draft) (frame : Frame) (cells : List ℕ) (same : frame ≡ draft.frame) (front : take table_cells cells ≡ draft.cells) where
  cell_filled : (k : ℕ) → k < table_cells → get_or cells k 0 ≡ get_or draft.cells k 0
  cell_filled k inside = sym (get_or-take table_cells cells k 0 inside) ∙ ap (λ (xs : List ℕ). get_or xs k 0) front

  -- the cells behind those of the states are empty
  pub cells_set : (old : List ℕ) → drop table_cells cells ≡ drop table_cells old → CellsSet frame.states old cells
  cells_set old back = record { zero = λ k past inside. cell_filled k inside ∙ draft.rest k (subst (λ (f : Frame). f.states * f.states ≤ k) same past); beyond = back }

  abbrev n : ℕ
  n = draft.frame.states

  same_steps : (s a t : ℕ) → ((ltb s n && ltb t n) && bit a (get_or cells (s * n + t) 0)) ≡ ((ltb s n && ltb t n) && bit a (get_or draft.cells (s * n + t) 0))
  same_steps s a t =
      ⊎_elim
      (λ from.
      ⊎_elim
      (λ to. ap (λ (x : ℕ). (ltb s n && ltb t n) && bit a x) (cell_filled (s * n + t) (cell_inside n s t draft.within.few from to)))
      (λ outside. none (and_right _ _ (le-ltb t n outside)))
      (cases_lt t n))
      (λ outside. none (and_left _ _ (le-ltb s n outside)))
      (cases_lt s n)
    where
      none : (ltb s n && ltb t n) ≡ false → ((ltb s n && ltb t n) && bit a (get_or cells (s * n + t) 0)) ≡ ((ltb s n && ltb t n) && bit a (get_or draft.cells (s * n + t) 0))
      none e = and_left _ _ e ∙ sym (and_left _ _ e)

  -- it is the automaton that the text denotes, if the draft is
  pub table_denotes : (text : List ℕ) → TextDenotes text (draft_meaning draft) → TextDenotes text (framed frame cells)
  table_denotes text (d, writes, denotes) = (
    d,
    writes,
    record {
      states = ap (λ (f : Frame). f.states) same ∙ denotes.states;
      signals = ap (λ (f : Frame). f.signals) same ∙ denotes.signals;
      start = λ s. ap (λ (f : Frame). bit s f.starts) same ∙ denotes.start s;
      good = λ s. ap (λ (f : Frame). bit s f.goods) same ∙ denotes.good s;
      step = λ s a t. ap (λ (f : Frame). (ltb s f.states && ltb t f.states) && bit a (get_or cells (s * f.states + t) 0)) same ∙ same_steps s a t ∙ denotes.step s a t;
    },
  )
