-- Promise. The automaton of a table: a list of cells, whose cell s * n + t has bit a exactly for a step (s, a, t).
use Rattle.std.specs.Prelude.{ℕ, ◌+◌, ◌*◌, ◌&&◌, List, nat_lt, slice_index}
use Rattle.omega.specs.Automata.{Meaning}
use Rattle.omega.specs.Signals.{bit}

-- bit s of `starts` and of `goods` says whether s is a start and whether it is good
abbrev pub table : ℕ → ℕ → ℕ → ℕ → List ℕ → Meaning
table n p starts goods cells = record {
  states = n;
  signals = p;
  start = λ s. bit s starts;
  good = λ s. bit s goods;
  step = λ s a t. (nat_lt s n && nat_lt t n) && bit a (slice_index cells (s * n + t));
}
