-- A lasso gives an accepted word, which goes round the loop for ever. An accepted word gives a lasso, as its run climbs past every bound.
use Rattle.omega.specs.Automata.{Meaning}
use Rattle.omega.specs.Words.{Run, Often}
use Rattle.omega.specs.Lassos.{Lasso}
use Rattle.omega.specs.Laws.{LassoShowsWord, WordGivesLasso}
use Rattle.omega.proofs.Updates.{put, put_cases}
use Rattle.omega.proofs.Climbs.{accepted_climbs, climb_bound}
use Rattle.std.proofs.Common.{◌≡◌, ℕ, zero, suc, ◌+◌, ◌-◌, ◌≤◌, ◌≢◌, ◌⊎◌, sym, refl, ap, ◌∙◌, inl, inr, add-one, arith}

module _ (m e : ℕ) where
  -- the place in a lasso at each moment, where m comes after the last place e
  place : ℕ → ℕ
  place zero = 0
  place (suc i) = put suc e m (place i)

  place_first : place 0 ≡ 0
  unfolding place
  place_first = refl

  place_next : (i : ℕ) → ((place i ≡ e) × (place (suc i) ≡ m)) ⊎ ((place i ≢ e) × (place (suc i) ≡ suc (place i)))
  unfolding place
  place_next i = put_cases suc e m (place i)

  place_inside : m ≤ e → (i : ℕ) → place i ≤ e
  place_inside h zero = omega (arith, place_first)
  place_inside h (suc i) = omega (arith, place_inside h i, place_next i)

  -- d places before the last one, the next visit of m is d + 1 moments ahead
  place_back : (d i : ℕ) → place i + d ≡ e → (k : ℕ) × (i ≤ k) × (place k ≡ m)
  place_back zero i h = (suc i, omega arith, omega (arith, place_next i))
  place_back (suc d) i h = let (k, late, back) = place_back d (suc i) (omega (arith, place_next i)) in (k, omega arith, back)

module _ (A : Meaning) (m q : ℕ) (state letter : ℕ → ℕ) (lasso : Lasso A m q state letter) where
  -- the last place before the loop closes
  last : ℕ
  last = (m + q) - 1

  last_next : (m ≤ last) × (suc last ≡ m + q)
  unfolding last
  last_next = let h = lasso.loops in (omega arith, omega arith)

  -- the place at each moment of the word
  round : ℕ → ℕ
  round = place m last

  round_inside : (i : ℕ) → round i ≤ last
  unfolding round
  round_inside = place_inside m last last_next.0

  round_next : (i : ℕ) → state (round (i + 1)) ≡ state (round i + 1)
  unfolding round
  round_next i =
      rw (add-one i, add-one (round i))
      (elim (place_next m last i) [
        | inl c ↦ ap state c.1 ∙ sym lasso.closes ∙ ap state (sym last_next.1 ∙ ap suc (sym c.0))
        | inr c ↦ ap state c.1
      ])

  round_run : Run A (λ i. letter (round i)) (λ i. state (round i))
  unfolding round
  round_run =
      record {
        begins = rw (place_first m last) lasso.begins;
        goes = λ i. rw (round_next i) (lasso.goes (round i) (omega (arith, round_inside i, last_next.1)));
      }

  round_good : Often (λ i. A.good (state (round i)))
  unfolding round
  round_good i =
      let (k, late, back) = place_back m last (last - round i) i (omega (arith, round_inside i)) in (k, late, rw back lasso.good)

pub lasso_shows_word_lem : LassoShowsWord
lasso_shows_word_lem A (m, q, state, letter, lasso) = (
  λ i. letter (round A m q state letter lasso i),
  record {
    path = λ i. state (round A m q state letter lasso i);
    run = round_run A m q state letter lasso;
    often = round_good A m q state letter lasso;
  },
)

pub word_gives_lasso_lem : WordGivesLasso
word_gives_lasso_lem A sound (w, accepted) =
    let s : ℕ = accepted.path 0 in
    climb_bound A sound s (suc A.states) (s, 0, accepted.run.begins, refl) (accepted_climbs A w accepted (suc A.states) 0) (omega arith)
