-- What passed tests say: a test of two parts, a test that two answers agree, and the digit of a test.
use Rattle.std.proofs.Common.{◌≡◌, ◌<◌, Bool, true, false, cond, not, ◌&&◌, ◌||◌, T, eqb, ◌⊎◌, refl, inl, inr, arith}
use mathlib.Core.Bool.{beq}

pub both_pass : (a b : Bool) → T a → T b → T (a && b)
both_pass true b p q = q
both_pass false b p q = absurd p

pub parts_pass : (a b : Bool) → T (a && b) → T a × T b
parts_pass true b p = (tt, p)
parts_pass false b p = absurd p

pub first_passes : (a b : Bool) → T a → T (a || b)
first_passes true b p = tt
first_passes false b p = absurd p

pub second_passes : (a b : Bool) → T b → T (a || b)
second_passes true b p = tt
second_passes false b p = p

pub one_passes : (a b : Bool) → T (a || b) → T a ⊎ T b
one_passes true b p = inl tt
one_passes false b p = inr p

pub passes_or_not : (a : Bool) → T a ⊎ T (not a)
passes_or_not true = inl tt
passes_or_not false = inr tt

pub agree_equal : (a b : Bool) → T (beq a b) → a ≡ b
agree_equal true true p = refl
agree_equal true false p = absurd p
agree_equal false true p = absurd p
agree_equal false false p = refl

pub equal_agree : (a : Bool) → T (beq a a)
equal_agree true = tt
equal_agree false = tt

-- the digit that tells whether a test passes
pub digit_below : (a : Bool) → cond a 1 0 < 2
digit_below true = omega arith
digit_below false = omega arith

pub digit_one : (a : Bool) → eqb (cond a 1 0) 1 ≡ a
digit_one true = refl
digit_one false = refl

pub digit_zero : (a : Bool) → eqb (cond a 1 0) 0 ≡ not a
digit_zero true = refl
digit_zero false = refl
