use Rattle.std.proofs.Common.{◌≡◌, ℕ, ◌<◌, get_or}
use Rattle.relaxing.specs.Rounds.{rank_at_first}
use Rattle.rankings.proofs.raising.place_starts.Given as goal

abbrev pub invariant-loop-s : goal.invariant-loop-s
invariant-loop-s g l = (s : ℕ) → s < l.s → get_or l.ranks s 0 ≡ rank_at_first ((g.A.Automaton.meaning l.automaton).start s)
