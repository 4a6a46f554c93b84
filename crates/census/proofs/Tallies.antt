-- Counts are within bounds: a count of numbers within their number, and a sum within that many times the greatest part.
use Rattle.std.proofs.Common.{ℕ, ◌*◌, ◌^◌, ◌≤◌, Bool, subst, pow_mono, mul-le-mul_right, arith}
use Rattle.std.specs.List.{range_with_len}
use Rattle.std.proofs.lemmas.List.Sums.{count_by-le-length, sum_by-le}
use Rattle.std.proofs.lemmas.List.FromFn.{length-range_with_len}
use Rattle.omega.specs.Automata.{Meaning, Sound, most_states}
use Rattle.census.specs.Counts.{tally, total, steps_by, steps_from, steps_of}

pub tally_within : (test : ℕ → Bool) (n : ℕ) → tally test n ≤ n
tally_within test n = omega (arith, count_by-le-length test (range_with_len 0 n), length-range_with_len 0 n)

pub steps_by_few : (A : Meaning) → Sound A → (s a : ℕ) → steps_by A s a ≤ most_states
steps_by_few A sound s a = omega (arith, tally_within (A.step s a) A.states, sound.few)

pub total_within : (count : ℕ → ℕ) (most n : ℕ) → ((k : ℕ) → count k ≤ most) → total count n ≤ n * most
total_within count most n few =
    subst (λ l. total count n ≤ l * most) (length-range_with_len 0 n) (sum_by-le count most (range_with_len 0 n) (λ k d inside. few _))

pub steps_from_few : (A : Meaning) → Sound A → (s : ℕ) → steps_from A s ≤ most_states * 16
steps_from_few A sound s =
    let letters : 2 ^ A.signals ≤ 16 = pow_mono {j = 4} sound.narrow in
    let total = total_within (steps_by A s) most_states (2 ^ A.signals) (steps_by_few A sound s) in
    omega (arith, total, mul-le-mul_right most_states letters)

pub steps_of_few : (A : Meaning) → Sound A → steps_of A ≤ most_states * (most_states * 16)
steps_of_few A sound =
    let total = total_within (steps_from A) (most_states * 16) A.states (steps_from_few A sound) in
    omega (arith, total, mul-le-mul_right (most_states * 16) sound.few)
