-- Promise. The pair of two automata, which run side by side on one word and take turns in being waited for.
use Rattle.std.specs.Prelude.{ℕ, ◌+◌, ◌*◌, ◌/◌, ◌%◌, Bool, true, false, not, ◌&&◌, ◌==◌, nat_lt}
use Rattle.std.specs.Bool.{beq}
use Rattle.omega.specs.Automata.{Meaning}

-- the number of the pair's state (u, v, c), where the second part has w states and c is 1 while that part is waited for
abbrev pub code : ℕ → ℕ → ℕ → ℕ → ℕ
code w u v c = (u * w + v) * 2 + c

-- the parts of a pair's state, from its number
abbrev pub left : ℕ → ℕ → ℕ
left w x = x / 2 / w

abbrev pub right : ℕ → ℕ → ℕ
right w x = x / 2 % w

abbrev pub turn : ℕ → Bool
turn x = x % 2 == 1

-- the turn after a step: it passes on if the state left, of the part that is waited for, is good
abbrev pub turned : Bool → Bool → Bool → Bool
turned false u_good v_good = u_good
turned true u_good v_good = not v_good

-- the pair with n states, of which a second part has w
abbrev pub numbered : ℕ → ℕ → Meaning → Meaning → Meaning
numbered n w A B = record {
  states = n;
  signals = A.signals;
  start = λ x. nat_lt x n && (not (turn x) && (A.start (left w x) && B.start (right w x)));
  good = λ x. nat_lt x n && (turn x && B.good (right w x));
  step = λ x a y. (nat_lt x n && nat_lt y n) && (beq (turn y) (turned (turn x) (A.good (left w x)) (B.good (right w x))) && (A.step (left w x) a (left w y) && B.step (right w x) a (right w y)));
}

-- the pair of two automata
abbrev pub pair : Meaning → Meaning → Meaning
pair A B = numbered (A.states * B.states * 2) B.states A B
