-- One more number: what is written of it is added, and its letter joins the set.
use Rattle.std.proofs.Common.{◌≡◌, ℕ, zero, suc, ◌+◌, ◌^◌, ◌<◌, ◌≤◌, Bool, true, false, cond, List, ◌++◌, ◌∙◌, append_assoc, pow-suc, add-one, arith, lit<, pow_mono}
use Rattle.conformance.specs.Lines.{each, letter_set}

pub each_more : (write : ℕ → List ℕ) (n : ℕ) (was item joined : List ℕ) → was ≡ each write n → item ≡ write n → joined ≡ was ++ item → joined ≡ each write (n + 1)
each_more write n was item joined before one both = rw add-one (cc)

pub letter_set_more : (test : ℕ → Bool) (a set letter : ℕ) → set ≡ letter_set test a → letter ≡ cond (test a) (2 ^ a) 0 → set + letter ≡ letter_set test (a + 1)
letter_set_more test a set letter before one = rw add-one (cc)

pub letter_set_below : (test : ℕ → Bool) (n : ℕ) → letter_set test n < 2 ^ n
letter_set_below test zero = lit< tt
letter_set_below test (suc n) =
    let below = letter_set_below test n in
    let double = pow-suc 2 n in
    elim (test n) as (λ yes. letter_set test n + cond yes (2 ^ n) 0 < 2 ^ suc n) [ true ↦ omega (arith, double, below) | false ↦ omega (arith, double, below) ]

-- at most 16 letters make a number of 16 bits
pub letter_set_few : (test : ℕ → Bool) (n : ℕ) → n ≤ 16 → letter_set test n < 65536
letter_set_few test n few = omega (arith, letter_set_below test n, pow_mono {i = n} {j = 16} few)
