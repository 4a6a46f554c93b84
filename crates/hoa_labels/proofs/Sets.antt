-- Which letters are in a set of letters: in one made by a test, and in the intersection, union and complement of others.
use Rattle.std.proofs.Common.{◌≡◌, ℕ, zero, suc, ◌+◌, ◌*◌, ◌/◌, ◌%◌, ◌^◌, ◌<◌, ◌≤◌, min, max, Bool, true, false, cond, not, ◌&&◌, ◌||◌, eqb, sym, ap, ◌∙◌, arith, pow_pos, pow_mono}
use Prim.Native.Nat.{differ}
use native.Mathlib.Nat.{zero-div, div-div-eq-div-mul, pow-succ'}
use lib.Bits.{bit_and, bit_or, bit_xor, and_step, or_step, xor_step, and_shr, or_shr, xor_shr, and_le_l, or_lt, xor_lt}
use Rattle.std.proofs.lemmas.Bool.Decides.{nat_tests}
use Rattle.hoa_grammar.specs.Labels.{on}
use Rattle.hoa_labels.specs.Letters.{Means}
use Rattle.hoa_labels.specs.Sets.{set_of}

-- tests of two bits, with more bits above the one that is made of them
module _ (more u v : ℕ) (u-bit : u < 2) (v-bit : v < 2) where
  both : eqb ((more * 2 + min u v) % 2) 1 ≡ (eqb u 1 && eqb v 1)
  both = grind (arith, nat_tests)

  either : eqb ((more * 2 + max u v) % 2) 1 ≡ (eqb u 1 || eqb v 1)
  either = grind (arith, nat_tests)

  other : eqb v 1 ≡ true → eqb ((more * 2 + differ u v) % 2) 1 ≡ not (eqb u 1)
  other all = grind (arith, nat_tests)

-- a letter in sets that are made of two others
module _ (a x y : ℕ) where
  on_and : on a (bit_and x y) ≡ (on a x && on a y)
  on_and = ap (λ n. eqb (n % 2) 1) (and_shr x y a ∙ and_step (x / 2 ^ a) (y / 2 ^ a)) ∙ both (bit_and (x / 2 ^ a / 2) (y / 2 ^ a / 2)) (x / 2 ^ a % 2) (y / 2 ^ a % 2) (omega arith) (omega arith)

  on_or : on a (bit_or x y) ≡ (on a x || on a y)
  on_or = ap (λ n. eqb (n % 2) 1) (or_shr x y a ∙ or_step (x / 2 ^ a) (y / 2 ^ a)) ∙ either (bit_or (x / 2 ^ a / 2) (y / 2 ^ a / 2)) (x / 2 ^ a % 2) (y / 2 ^ a % 2) (omega arith) (omega arith)

  on_xor : on a y ≡ true → on a (bit_xor x y) ≡ not (on a x)
  on_xor all = ap (λ n. eqb (n % 2) 1) (xor_shr x y a ∙ xor_step (x / 2 ^ a) (y / 2 ^ a)) ∙ other (bit_xor (x / 2 ^ a / 2) (y / 2 ^ a / 2)) (x / 2 ^ a % 2) (y / 2 ^ a % 2) (omega arith) (omega arith) all

-- the lowest bit of a set, and the bits above it
lowest : (b : Bool) (s : ℕ) → on 0 (cond b 1 0 + 2 * s) ≡ b
lowest b s = grind (arith, nat_tests)

below_two : (b : Bool) → cond b 1 0 < 2
below_two true = omega arith
below_two false = omega arith

above : (b : Bool) (s : ℕ) → (cond b 1 0 + 2 * s) / 2 ≡ s
above b s = omega (arith, below_two b)

set_small : (n : ℕ) (test : ℕ → Bool) → set_of test n < 2 ^ n
set_small zero test = omega arith
set_small (suc n) test = omega (arith, below_two (test 0), set_small n (λ a. test (suc a)), pow-succ' 2 n)

set_on : (n : ℕ) (test : ℕ → Bool) (a : ℕ) → a < n → on a (set_of test n) ≡ test a
set_on zero test a h = absurd (omega arith)
set_on (suc n) test zero h = lowest (test 0) (set_of (λ a. test (suc a)) n)
set_on (suc n) test (suc a) h =
    let x = set_of test (suc n) in
    ap (λ k. eqb (x / k % 2) 1) (pow-succ' 2 a) ∙ ap (λ k. eqb (k % 2) 1) (sym (div-div-eq-div-mul x 2 (2 ^ a))) ∙ ap (on a) (above (test 0) (set_of (λ b. test (suc b)) n)) ∙ set_on n (λ b. test (suc b)) a (omega arith)

pub means_set : (p : ℕ) (test : ℕ → Bool) → Means p test (set_of test (2 ^ p))
means_set p test = record { small = set_small (2 ^ p) test; holds = set_on (2 ^ p) test }

pub means_none : (p : ℕ) → Means p (λ a. false) 0
means_none p = record { small = pow_pos (2 ^ p); holds = λ a h. ap (λ n. eqb (n % 2) 1) (zero-div (2 ^ a)) }

module _ (p x y : ℕ) (f g : ℕ → Bool) (x-means : Means p f x) where
  -- the second set may be one of more letters
  pub means_and : (q : ℕ) → p ≤ q → Means q g y → Means p (λ a. f a && g a) (bit_and x y)
  means_and q more y-means = record {
    small = omega (arith, x-means.small, and_le_l x y);
    holds = λ a h. on_and a x y ∙ ap (λ b. b && on a y) (x-means.holds a h) ∙ ap (λ b. f a && b) (y-means.holds a (omega (arith, pow_mono {i = p} {j = q} more)));
  }

  pub means_or : Means p g y → Means p (λ a. f a || g a) (bit_or x y)
  means_or y-means = record {
    small = or_lt (2 ^ p) x y x-means.small y-means.small;
    holds = λ a h. on_or a x y ∙ ap (λ b. b || on a y) (x-means.holds a h) ∙ ap (λ b. f a || b) (y-means.holds a h);
  }

  pub means_not : Means p (λ a. true) y → Means p (λ a. not (f a)) (bit_xor x y)
  means_not y-means = record {
    small = xor_lt (2 ^ p) x y x-means.small y-means.small;
    holds = λ a h. on_xor a x y (y-means.holds a h) ∙ ap not (x-means.holds a h);
  }
