-- What `next` of a pair finds: the lowest place of a row and a column, from the lowest rows and columns that the two parts tell.
use Rattle.std.proofs.Common.{◌≡◌, ℕ, ◌+◌, ◌-◌, ◌*◌, ◌/◌, ◌%◌, ◌<◌, ◌≤◌, Bool, T, Some, None, sym, ap, ◌∙◌, subst, ⊎_elim, mul-le-mul_right, add-mul, one-mul, arith}
use lib.Arith.{digits_div, digits_mod}
use Rattle.std.proofs.lemmas.Nat.{le-div, div-add-mod', mod_below}
use Rattle.std.proofs.lemmas.Bool.{cases_lt}
use Rattle.omega.specs.Automata.{Lowest}
use Rattle.omega.specs.Places.{place, NoneInRow}
use Rattle.omega.proofs.Tests.{both_pass, parts_pass}

-- a place among the first c of row r
place_parts : (w r c k : ℕ) → c ≤ w → r * w ≤ k → k < r * w + c → (k / w ≡ r) × (k % w < c)
place_parts w r c k narrow low high =
    let e : k ≡ r * w + (k - r * w) = omega arith in
    let h : k - r * w < w = omega arith in
    (ap (λ x. x / w) e ∙ digits_div r h, omega (arith, ap (λ x. x % w) e ∙ digits_mod r h))

module _ (P Q : ℕ → Bool) (w : ℕ) (wide : 0 < w) (g : ℕ) where
  -- with none in the row of g, a place that passes stands in a later one
  in_later_row : NoneInRow P Q w g → (k : ℕ) → g ≤ k → T (place P Q w k) → g / w + 1 ≤ k / w
  in_later_row none k h passes =
      let (row, column) = parts_pass (P (k / w)) (Q (k % w)) passes in
      let up : g / w ≤ k / w = le-div (g / w) k w wide (omega (arith, div-add-mod' g w)) in
      ⊎_elim
      (λ later. omega arith)
      (λ not-later.
      let e : k / w ≡ g / w = omega arith in
      absurd (none.none (k % w) (omega (arith, div-add-mod' g w, div-add-mod' k w, ap (λ r. r * w) e)) (mod_below k w wide) (subst (λ r. T (P r)) e row) column))
      (cases_lt (g / w) (k / w))

  place_passes : (r c : ℕ) → c < w → T (P r) → T (Q c) → T (place P Q w (r * w + c))
  place_passes r c inside row column =
      both_pass _ _ (subst (λ x. T (P x)) (sym (digits_div r inside)) row) (subst (λ x. T (Q x)) (sym (digits_mod r inside)) column)

  -- where the search ends: in the row of g, in a later row, or nowhere
  pub place_in_row : (q : ℕ) → T (P (g / w)) → Lowest Q (g % w) (Some q) → q < w → Lowest (place P Q w) g (Some (g / w * w + q))
  place_in_row q row (late, column, first) inside = (
    omega (arith, div-add-mod' g w),
    place_passes (g / w) q inside row column,
    λ k h before passes.
        let (same, low) = place_parts w (g / w) q k (omega arith) (omega (arith, div-add-mod' g w)) before in
        first (k % w) (omega (arith, div-add-mod' g w, div-add-mod' k w, ap (λ r. r * w) same)) low (parts_pass (P (k / w)) (Q (k % w)) passes).1,
  )

  pub place_in_later_row : (p q : ℕ) → NoneInRow P Q w g → Lowest P (g / w + 1) (Some p) → Lowest Q 0 (Some q) → q < w → Lowest (place P Q w) g (Some (p * w + q))
  place_in_later_row p q none (late, row, first-row) (_, column, first-column) inside =
      let up : (g / w + 1) * w ≤ p * w = mul-le-mul_right w late in (
        omega (arith, div-add-mod' g w, mod_below g w wide, add-mul (g / w) 1 w, one-mul w),
        place_passes p q inside row column,
        λ k h before passes.
            let (row-k, column-k) = parts_pass (P (k / w)) (Q (k % w)) passes in
            ⊎_elim
            (λ earlier. first-row (k / w) (in_later_row none k h passes) earlier row-k)
            (λ not_earlier.
            let from : p * w ≤ k / w * w = mul-le-mul_right w not_earlier in
            first-column (k % w) (omega arith) (place_parts w p q k (omega arith) (omega (arith, div-add-mod' k w)) before).1 column-k)
            (cases_lt (k / w) p),
      )

  pub no_later_row : NoneInRow P Q w g → Lowest P (g / w + 1) None → Lowest (place P Q w) g None
  no_later_row none missing k h passes = missing (k / w) (in_later_row none k h passes) (parts_pass (P (k / w)) (Q (k % w)) passes).0
