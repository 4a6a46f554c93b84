-- The limits that every automaton keeps hold of the pair, of the two that watch a signal, and of the automaton of a table.
use Rattle.std.proofs.Common.{ℕ, ◌+◌, ◌*◌, ◌/◌, ◌%◌, ◌^◌, ◌<◌, ◌≤◌, Bool, ◌&&◌, T, ltb, List, get_or, ⊎_elim, arith, eqb→eq, pow_mono, rules}
use lib.Arith.{digits_lt}
use Rattle.std.proofs.lemmas.Nat.{pow_pos, div_below}
use Rattle.std.proofs.lemmas.Bool.{cases_lt}
use Rattle.omega.specs.Automata.{Meaning, Sound, most_states, most_signals}
use Rattle.omega.specs.Pairs.{numbered, pair}
use Rattle.omega.specs.Signals.{bit, watching}
use Rattle.omega.specs.Tables.{table}
use Rattle.omega.proofs.Tests.{parts_pass}

pub numbered_sound : (n w : ℕ) (A B : Meaning) → n ≤ most_states → Sound A → Sound (numbered n w A B)
numbered_sound n w A B few S = search rules

pub pair_sound : (A B : Meaning) → A.states * B.states * 2 ≤ most_states → Sound A → Sound (pair A B)
pair_sound A B few S = numbered_sound (A.states * B.states * 2) B.states A B few S

pub watching_sound : (leads : Bool → ℕ → ℕ → Bool) (i p : ℕ) → p ≤ most_signals → ((on : Bool) (s t : ℕ) → T (leads on s t) → t < 2) → Sound (watching leads i p)
watching_sound leads i p narrow enters = search rules

-- a number below 2 ^ n has its bits below n
pub bit_below : (k n x : ℕ) → x < 2 ^ n → T (bit k x) → k < n
bit_below k n x small on =
    ⊎_elim (λ h. h)
    (λ high.
    let d : x / 2 ^ k < 1 = div_below x (2 ^ k) 1 (pow_pos k) (omega (arith, pow_mono {i = n} {j = k} high)) in
    absurd (omega (arith, eqb→eq (x / 2 ^ k % 2) 1 on)))
    (cases_lt k n)

pub table_sound : (n p starts goods : ℕ) (cells : List ℕ) → n ≤ 64 → p ≤ most_signals → starts < 2 ^ n → goods < 2 ^ n → ((k : ℕ) → k < n * n → get_or cells k 0 < 2 ^ (2 ^ p)) → Sound (table n p starts goods cells)
table_sound n p starts goods cells few narrow starts-small goods-small cells-small = record {
  few = omega arith;
  narrow = narrow;
  starts = λ s. bit_below s n starts starts-small;
  goods = λ s. bit_below s n goods goods-small;
  leaves = search rules;
  letters = λ s a t step.
      let h : s < n = search rules in
      let k : t < n = search rules in
      bit_below a (2 ^ p) (get_or cells (s * n + t) 0) (cells-small (s * n + t) (digits_lt h k)) (parts_pass (ltb s n && ltb t n) _ step).1;
  enters = search rules;
}
