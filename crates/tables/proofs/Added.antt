-- What a draft begins with, and what each addition changes: a state or a set of them added to a set of states, and letters added to one cell.
use Rattle.std.proofs.Common.{◌≡◌, ℕ, zero, suc, ◌+◌, ◌-◌, ◌*◌, ◌/◌, ◌%◌, ◌^◌, ◌<◌, ◌≤◌, ◌&&◌, ◌||◌, eqb, ltb, List, length, get_or, set, replicate, sym, refl, ⊎_elim, arith, length-set}
use mathlib.Core.Bool.{and-true, and_comm, or-false}
use lib.Arith.{digits_lt}
use lib.Bits.{bit_and, bit_or}
use Rattle.std.proofs.lemmas.Nat.{one_shl, or_lt, pow_pos, pow_below, and_mask, mod_below, mul-le}
use Rattle.std.proofs.lemmas.List.{get_or-set_same, get_or-set_other}
use Rattle.std.proofs.lemmas.Bool.{cases_eq, lt-ltb, eq-eqb, ne_eqb}
use Rattle.omega.specs.Signals.{bit}
use Rattle.tables.specs.Cells.{StateAdded, StatesAdded, StepsAdded}
use Rattle.tables.proofs.Bits.{bit-or, bit_power, bit_low, low_ones}

-- the set of states with s
pub state_added : (n s old : ℕ) → n ≤ 64 → s < n → StateAdded n s old (bit_or old ((1 * 2 ^ s) % 2 ^ 64))
state_added n s old few inside k =
    let single = one_shl s 64 (omega arith) in
    rw (single, lt-ltb s n inside, bit-or k old (2 ^ s), bit_power k s, and-true (eqb k s))

-- it is still a set of states below n
pub state_added_in : (n s old : ℕ) → n ≤ 64 → s < n → old < 2 ^ n → bit_or old ((1 * 2 ^ s) % 2 ^ 64) < 2 ^ n
state_added_in n s old few inside small =
    rw (one_shl s 64 (omega arith)) (or_lt n old (2 ^ s) small (pow_below s n inside))

-- the states below n of a set are what a shifted mask leaves of it
module _ (n set old : ℕ) (few : n ≤ 64) where
  low_states : bit_and set (18446744073709551615 / 2 ^ (64 - n)) ≡ set % 2 ^ n
  low_states = rw (low_ones n few) (and_mask set n)

  -- the set of states with those of another set
  pub states_added : StatesAdded n set old (bit_or old (bit_and set (18446744073709551615 / 2 ^ (64 - n))))
  states_added k = rw (low_states, bit-or k old (set % 2 ^ n), bit_low k n set, and_comm (ltb k n) (bit k set))

  -- it is still a set of states below n
  pub states_added_in : old < 2 ^ n → bit_or old (bit_and set (18446744073709551615 / 2 ^ (64 - n))) < 2 ^ n
  states_added_in small = rw low_states (or_lt n old (set % 2 ^ n) small (mod_below set (2 ^ n) (pow_pos n)))

-- a list of zeros has a zero at every place, also past its end
pub zero_everywhere : (n k : ℕ) → get_or {A = ℕ} (replicate n 0) k 0 ≡ 0
zero_everywhere zero k = refl
zero_everywhere (suc n) zero = refl
zero_everywhere (suc n) (suc k) = zero_everywhere n k

-- what is said of the new cell i, and of each other cell as it was, holds of every cell after the write
pub after_write : (P : ℕ → ℕ → Type 0) (cells : List ℕ) (i x : ℕ) → i < length cells → P i x → ((k : ℕ) → (k ≡ i → ⊥) → P k (get_or cells k 0)) → (k : ℕ) → P k (get_or (set cells i x) k 0)
after_write P cells i x inside here others k =
    ⊎_elim
    (λ e. rw e (rw (get_or-set_same cells i x 0 inside) here))
    (λ ne. rw (get_or-set_other cells i k x 0 ne) (others k ne))
    (cases_eq k i)

-- in a table of at most 64 states every step has a cell
pub cell_inside : (n s t : ℕ) → n ≤ 64 → s < n → t < n → s * n + t < 4096
cell_inside n s t few from to = omega (arith, digits_lt from to, mul-le n n 64 64 few few)

-- the cell of the steps from s to t is united with the letters of a set that are below 2 ^ p
module _ (n p s letters t all : ℕ) (cells : List ℕ) (full : length cells ≡ 4096) (few : n ≤ 64) (from : s < n) (to : t < n) (masks : all ≡ 2 ^ (2 ^ p) - 1) where
  abbrev cell : ℕ
  cell = s * n + t

  abbrev united : List ℕ
  united = set cells cell (bit_or (get_or cells cell 0) (bit_and letters all))

  inside : cell < length cells
  inside = omega (arith, cell_inside n s t few from to)

  low_letters : bit_and letters all ≡ letters % 2 ^ (2 ^ p)
  low_letters = rw masks (and_mask letters (2 ^ p))

  pub steps_added : StepsAdded n p s letters t cells united
  steps_added = (
    length-set cells cell _,
    after_write
        (λ k x. (a : ℕ) → bit a x ≡ (bit a (get_or cells k 0) || ((ltb s n && ltb t n && eqb k cell) && (ltb a (2 ^ p) && bit a letters))))
        cells cell _ inside
        (λ a. rw (lt-ltb s n from, lt-ltb t n to, eq-eqb cell cell refl, low_letters, bit-or a (get_or cells cell 0) _, bit_low a (2 ^ p) letters))
        (λ k other a. rw (lt-ltb s n from, lt-ltb t n to, ne_eqb k cell other) (sym (or-false (bit a (get_or cells k 0))))),
  )

  -- every letter is still below 2 ^ p
  pub steps_added_in : ((k : ℕ) → get_or cells k 0 < 2 ^ (2 ^ p)) → (k : ℕ) → get_or united k 0 < 2 ^ (2 ^ p)
  steps_added_in small =
      after_write (λ k x. x < 2 ^ (2 ^ p)) cells cell _ inside
      (or_lt (2 ^ p) (get_or cells cell 0) _ (small cell) (rw low_letters (mod_below letters (2 ^ (2 ^ p)) (pow_pos (2 ^ p)))))
      (λ k other. small k)

  -- the cells from n * n on are still empty
  pub steps_added_rest : ((k : ℕ) → n * n ≤ k → get_or cells k 0 ≡ 0) → (k : ℕ) → n * n ≤ k → get_or united k 0 ≡ 0
  steps_added_rest empty =
      after_write (λ k x. n * n ≤ k → x ≡ 0) cells cell _ inside (λ past. absurd (omega (arith, digits_lt from to))) (λ k other. empty k)
