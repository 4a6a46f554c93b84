-- Promise. Two small automata that watch one signal.
use Rattle.std.specs.Prelude.{ℕ, ◌/◌, ◌%◌, ◌^◌, Bool, not, ◌&&◌, ◌||◌, ◌==◌, nat_lt}
use Rattle.omega.specs.Automata.{Meaning}

-- bit i of a number is 1: signal i is on in the letter a
abbrev pub bit : ℕ → ℕ → Bool
bit i a = a / 2 ^ i % 2 == 1

-- two states over p signals, of which state 0 is the start and state 1 is good: a letter leads from s to t as `leads` says of whether signal i is on
abbrev pub watching : (Bool → ℕ → ℕ → Bool) → ℕ → ℕ → Meaning
watching leads i p = record {
  states = 2;
  signals = p;
  start = λ s. (s == 0);
  good = λ s. (s == 1);
  step = λ s a t. (nat_lt s 2 && nat_lt a (2 ^ p)) && leads (bit i a) s t;
}

-- letters with the signal on lead to state 1, all others to state 0, from both states
abbrev pub again_leads : Bool → ℕ → ℕ → Bool
again_leads on s t = (t == 1 && on) || (t == 0 && not on)

-- state 0 leads to itself by every letter, and both states lead to 1 by letters with the signal off
abbrev pub settles_leads : Bool → ℕ → ℕ → Bool
settles_leads on s t = (s == 0 && t == 0) || (t == 1 && not on)

abbrev pub again : ℕ → ℕ → Meaning
again = watching again_leads

abbrev pub settles : ℕ → ℕ → Meaning
settles = watching settles_leads
