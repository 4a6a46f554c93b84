-- The automaton of a ring of stations, as a user of the library would write it: every letter leads on to the next station, the first is the start, and the last is good.
use Rattle.std.specs.Prelude.{ℕ, ◌+◌, ◌^◌, ◌≤◌, Bool, cond, ◌&&◌, ◌==◌, nat_lt}
use Rattle.std.proofs.Common.{ltb→lt}
use Rattle.omega.specs.Automata.{Meaning, Sound, most_states, most_signals}
use Rattle.omega.proofs.Tests.{parts_pass}

-- the station behind s
abbrev pub behind : ℕ → ℕ → ℕ
behind n s = cond (nat_lt (s + 1) n) (s + 1) 0

-- the first and the last of n stations
abbrev pub is_first : ℕ → ℕ → Bool
is_first n s = nat_lt s n && s == 0

abbrev pub is_last : ℕ → ℕ → Bool
is_last n s = nat_lt s n && s + 1 == n

abbrev pub ring_step : ℕ → ℕ → ℕ → ℕ → ℕ → Bool
ring_step n p s a t = nat_lt s n && (nat_lt a (2 ^ p) && (nat_lt t n && t == behind n s))

abbrev pub ring : ℕ → ℕ → Meaning
ring n p = record { states = n; signals = p; start = is_first n; good = is_last n; step = ring_step n p }

pub ring_sound : (n p : ℕ) → n ≤ most_states → p ≤ most_signals → Sound (ring n p)
ring_sound n p few narrow = record {
  few = few;
  narrow = narrow;
  starts = λ s h. ltb→lt s n (parts_pass (nat_lt s n) _ h).0;
  goods = λ s h. ltb→lt s n (parts_pass (nat_lt s n) _ h).0;
  leaves = λ s a t h. ltb→lt s n (parts_pass (nat_lt s n) _ h).0;
  letters = λ s a t h. ltb→lt a (2 ^ p) (parts_pass (nat_lt a (2 ^ p)) _ (parts_pass (nat_lt s n) _ h).1).0;
  enters = λ s a t h. ltb→lt t n (parts_pass (nat_lt t n) _ (parts_pass (nat_lt a (2 ^ p)) _ (parts_pass (nat_lt s n) _ h).1).1).0;
}
