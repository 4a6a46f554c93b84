-- The number of a run of digits, summed up to one above the greatest.
use Rattle.std.proofs.Common.{◌≡◌, ℕ, ◌+◌, ◌-◌, ◌*◌, ◌≤◌, min, true, List, [], ◌∷◌, ap, ◌∙◌, ⊎_elim, arith}
use Rattle.std.proofs.lemmas.Bool.Decides.{nat_tests}
use Rattle.std.proofs.str.Laws.{order}
use Rattle.hoa_tokens.specs.Bytes.{value, value_after, plain}

grows : (n : ℕ) (ds : List ℕ) → n ≤ value_after n ds
grows n [] = omega arith
grows n (d ∷ ds) = omega (arith, grows (n * 10 + (d - 48)) ds)

-- what is above 10,000 stays there
pub capped : (n : ℕ) (ds : List ℕ) → min 10000 (value_after (min n 10000) ds) ≡ min 10000 (value_after n ds)
capped n ds =
    ⊎_elim
    (λ low. let e : min n 10000 ≡ n = omega arith in ap (λ m. min 10000 (value_after m ds)) e)
    (λ high. let e : min n 10000 ≡ 10000 = omega arith in ap (λ m. min 10000 (value_after m ds)) e ∙ omega (arith, grows 10000 ds, grows n ds))
    (order n 10000)

-- digits that write a plain number are summed to it
pub plain_value : (ds : List ℕ) (n : ℕ) → plain ds ≡ true → n ≡ min 10000 (value ds) → n ≡ value ds
plain_value ds n fine is = let low : value ds ≤ 9999 = grind (arith, nat_tests) in omega arith
