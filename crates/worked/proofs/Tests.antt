-- Tests of many parts: all of a list, one for each number below a bound, and one that is asked only if another passes.
use Rattle.std.proofs.Common.{◌≡◌, ℕ, zero, suc, ◌<◌, Bool, true, false, not, ◌&&◌, ◌||◌, T, List, [], ◌∷◌, refl, ⊎_elim, arith}
use Rattle.std.proofs.lemmas.Bool.{cases_lt}
use Rattle.std.specs.List.{AllByRecursion}
use Rattle.omega.proofs.Tests.{parts_pass}

abbrev pub every : List Bool → Bool
every [] = true
every (b ∷ bs) = b && every bs

pub each_passes : (bs : List Bool) → T (every bs) → AllByRecursion T bs
each_passes [] h = tt
each_passes (b ∷ bs) h = let (here, rest) = parts_pass b (every bs) h in (here, each_passes bs rest)

abbrev pub below : ℕ → (ℕ → Bool) → Bool
below zero test = true
below (suc n) test = test n && below n test

pub below_passes : (n : ℕ) (test : ℕ → Bool) → T (below n test) → (k : ℕ) → k < n → T (test k)
below_passes zero test h k low = absurd (omega arith)
below_passes (suc n) test h k low =
    let (here, rest) = parts_pass (test n) (below n test) h in
    ⊎_elim (λ lower. below_passes n test rest k lower) (λ high. let same : n ≡ k = omega arith in rw same at here) (cases_lt k n)

-- b is asked only if a passes
abbrev pub given : Bool → Bool → Bool
given a b = not a || b

pub given_passes : (a b : Bool) → T (given a b) → T a → T b
given_passes true b h p = h
given_passes false b h p = absurd p

pub passes_true : (b : Bool) → T b → b ≡ true
passes_true true p = refl
passes_true false p = absurd p

pub true_passes : (b : Bool) → b ≡ true → T b
true_passes b e = rw e tt

pub fails_false : (b : Bool) → T (not b) → b ≡ false
fails_false true p = absurd p
fails_false false p = refl
