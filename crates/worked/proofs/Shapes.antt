-- A shape that passes its tests keeps the limits.
use Rattle.std.proofs.Common.{ℕ, ◌*◌, ◌^◌, ◌<◌, Bool, T, eqb, ltb, leb, List, [], ◌∷◌, get_or, ltb→lt, leb→le, rules}
use Rattle.omega.specs.Automata.{Sound, most_states, most_signals}
use Rattle.omega.specs.Signals.{again_leads, settles_leads}
use Rattle.omega.proofs.Soundness.{pair_sound, watching_sound, table_sound}
use Rattle.worked.specs.Cases.{Shape, table, again, settles, pair, meaning}
use Rattle.worked.proofs.Tests.{every, each_passes, below, below_passes}

abbrev tests : Shape → List Bool
tests (table n p starts goods cells) = leb n 64 ∷ leb p most_signals ∷ ltb starts (2 ^ n) ∷ ltb goods (2 ^ n) ∷ below (n * n) (λ k. ltb (get_or cells k 0) (2 ^ (2 ^ p))) ∷ []
tests (again i p) = leb p most_signals ∷ []
tests (settles i p) = leb p most_signals ∷ []
tests (pair a b) = every (tests a) ∷ every (tests b) ∷ eqb (meaning a).signals (meaning b).signals ∷ leb ((meaning a).states * (meaning b).states * 2) most_states ∷ []

-- the limits are kept, and the parts of a pair have as many signals
abbrev pub keeps : Shape → Bool
keeps shape = every (tests shape)

pub parts_keep : (a b : Shape) → T (keeps (pair a b)) → T (keeps a) × T (keeps b)
parts_keep a b h = let (first, (second, _)) = each_passes (tests (pair a b)) h in (first, second)

again_enters : (on : Bool) (s t : ℕ) → T (again_leads on s t) → t < 2
again_enters on s t h = search rules

settles_enters : (on : Bool) (s t : ℕ) → T (settles_leads on s t) → t < 2
settles_enters on s t h = search rules

pub keeps_sound : (shape : Shape) → T (keeps shape) → Sound (meaning shape)
keeps_sound (table n p starts goods cells) h =
    let (few, (narrow, (low, (lower, (small, _))))) = each_passes (tests (table n p starts goods cells)) h in
    table_sound n p starts goods cells (leb→le n 64 few) (leb→le p most_signals narrow) (ltb→lt starts (2 ^ n) low) (ltb→lt goods (2 ^ n) lower)
    (λ k inside. ltb→lt (get_or cells k 0) (2 ^ (2 ^ p)) (below_passes (n * n) _ small k inside))
keeps_sound (again i p) h = watching_sound again_leads i p (leb→le p most_signals (each_passes (tests (again i p)) h).0) again_enters
keeps_sound (settles i p) h = watching_sound settles_leads i p (leb→le p most_signals (each_passes (tests (settles i p)) h).0) settles_enters
keeps_sound (pair a b) h =
    pair_sound (meaning a) (meaning b) (leb→le _ most_states (each_passes (tests (pair a b)) h).1.1.1.0) (keeps_sound a (parts_keep a b h).0)
