-- Bits of numbers: of a union, of a power of two, of the low digits, and above the highest one. And masks and powers of two by shifts.
use Rattle.std.proofs.Common.{◌≡◌, ℕ, zero, suc, ◌+◌, ◌-◌, ◌*◌, ◌/◌, ◌%◌, ◌^◌, ◌<◌, ◌≤◌, false, ◌&&◌, ◌||◌, eqb, max, ltb, sym, refl, ap, ◌∙◌, ⊎_elim, arith, pow_mono}
use lib.Bits.{bit_or}
use lib.Pow.{mod-mod-pow}
use Rattle.std.proofs.lemmas.Nat.{pow_pos, field_of, mod_below, one_shl}
use Rattle.std.proofs.lemmas.Nat.Bits.{bit_at_above, bit_at_or, bit_at-pow_same, bit_at-pow_other, ones_shr}
use Rattle.std.proofs.lemmas.Bool.{cases_eq, cases_lt, lt-ltb, le-ltb, eq-eqb, ne_eqb}
use Rattle.omega.specs.Signals.{bit}

-- a number below 2 ^ n has no bit from n on
pub bit_past : (k n x : ℕ) → x < 2 ^ n → n ≤ k → bit k x ≡ false
bit_past k n x small past = ne_eqb (x / 2 ^ k % 2) 1 (λ on. omega (arith, bit_at_above x n k small past))

-- from n on neither the test that a place is below n nor its bit passes
pub neither_past : (k n x : ℕ) → x < 2 ^ n → n ≤ k → ltb k n ≡ bit k x
neither_past k n x small past = le-ltb k n past ∙ sym (bit_past k n x small past)

-- the greater of two digits
digit_max : (x y : ℕ) → x < 2 → y < 2 → eqb (max x y) 1 ≡ (eqb x 1 || eqb y 1)
digit_max zero zero p q = refl
digit_max zero (suc zero) p q = refl
digit_max (suc zero) zero p q = refl
digit_max (suc zero) (suc zero) p q = refl
digit_max (suc (suc x)) y p q = absurd (omega arith)
digit_max zero (suc (suc y)) p q = absurd (omega arith)
digit_max (suc zero) (suc (suc y)) p q = absurd (omega arith)

-- a union has the bits of both
pub bit-or : (k x y : ℕ) → bit k (bit_or x y) ≡ (bit k x || bit k y)
bit-or k x y = ap (λ (z : ℕ). eqb z 1) (bit_at_or x y k) ∙ digit_max (x / 2 ^ k % 2) (y / 2 ^ k % 2) (omega arith) (omega arith)

-- 2 ^ s has no bit but s
pub bit_power : (k s : ℕ) → bit k (2 ^ s) ≡ eqb k s
bit_power k s =
    ⊎_elim
    (λ same. rw same (eq-eqb (2 ^ s / 2 ^ s % 2) 1 (bit_at-pow_same s) ∙ sym (eq-eqb s s refl)))
    (λ other. ne_eqb (2 ^ s / 2 ^ k % 2) 1 (λ on. omega (arith, bit_at-pow_other s k other)) ∙ sym (ne_eqb k s other))
    (cases_eq k s)

-- the n low digits have the bits below n
pub bit_low : (k n x : ℕ) → bit k (x % 2 ^ n) ≡ (ltb k n && bit k x)
bit_low k n x =
    ⊎_elim
    (λ below.
    let j : ℕ = n - k - 1 in
    let e : n ≡ (j + 1) + k = omega arith in
    rw (lt-ltb k n below, e, field_of x (j + 1) k) (ap (λ (z : ℕ). eqb z 1) (mod-mod-pow (x / 2 ^ k) j 1)))
    (λ past. rw (le-ltb k n past) (bit_past k n (x % 2 ^ n) (mod_below x (2 ^ n) (pow_pos n)) past))
    (cases_lt k n)

-- the n lowest of 64 ones, by a shift of all of them
pub low_ones : (n : ℕ) → n ≤ 64 → 18446744073709551615 / 2 ^ (64 - n) ≡ 2 ^ n - 1
low_ones n few =
    let e : 64 - (64 - n) ≡ n = omega arith in
    ones_shr 64 (64 - n) (omega arith) ∙ ap (λ (k : ℕ). 2 ^ k - 1) e

-- 2 ^ p by a shift of 32 bits, for at most 16 letters
pub letter_count : (p : ℕ) → p ≤ 4 → ((1 * 2 ^ p) % 2 ^ 32 ≡ 2 ^ p) × (2 ^ p ≤ 16)
letter_count p narrow = (one_shl p 32 (omega arith), pow_mono {i = p} {j = 4} narrow)

-- 2 ^ (2 ^ p) by two shifts, for sets of at most 16 letters
pub letter_set_count : (p : ℕ) → p ≤ 4 → ((1 * 2 ^ ((1 * 2 ^ p) % 2 ^ 32)) % 2 ^ 32 ≡ 2 ^ (2 ^ p)) × (2 ^ (2 ^ p) ≤ 2 ^ 16)
letter_set_count p narrow =
    let (count, few) = letter_count p narrow in
    (rw count (one_shl (2 ^ p) 32 (omega arith)), pow_mono {i = 2 ^ p} {j = 16} few)
