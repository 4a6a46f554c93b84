-- A climb leaves good states a number of times. Accepted words climb without end, a ranking bounds every climb,
-- and a climb of more than `states` good states gives a lasso.
use Rattle.omega.specs.Automata.{Meaning, Sound}
use Rattle.omega.specs.Words.{Word, Run, Accepted}
use Rattle.omega.specs.Lassos.{SomeLasso}
use Rattle.omega.specs.Rankings.{Ranking, Least}
use Rattle.omega.proofs.Pigeonhole.{pigeonhole}
use Rattle.omega.proofs.Paths.{Path, Reachable, path_join, reachable_on, lasso-of-paths}
use Rattle.std.proofs.Common.{ℕ, zero, suc, ◌+◌, ◌<◌, ◌≤◌, Bool, T, sym, refl, ap, subst, add-one, arith}
use native.Mathlib.Decide.{le_ind}

-- some way from s leaves good states k times
abbrev pub Climb : Meaning → ℕ → ℕ → Type 0
Climb A zero s = Unit {0}
Climb A (suc k) s = (l g a t : ℕ) × Path A l s g × T (A.good g) × T (A.step g a t) × Climb A k t

-- what a state climbs, those a step before it climb too
pub climb_before : (A : Meaning) (k s a t : ℕ) → T (A.step s a t) → Climb A k t → Climb A k s
climb_before A zero s a t st c = tt
climb_before A (suc k) s a t st (l, g, b, u, p, good, sg, c) = (suc l, g, b, u, (a, t, st, p), good, sg, c)

-- a run's states lead to its later ones
run_path : (A : Meaning) (w : Word) (r : ℕ → ℕ) → Run A w r → (i j : ℕ) → i ≤ j → (k : ℕ) × Path A k (r i) (r j)
run_path A w r run i j =
    le_ind (λ j. (k : ℕ) × Path A k (r i) (r j)) (0, refl)
    (λ j _ h. let (k, p) = h in (k + 1, path_join A k 1 (r i) (r j) (r (suc j)) p (w j, r (suc j), rw add-one at (run.goes j), refl))) j

-- a run that accepts climbs as often as one likes
pub accepted_climbs : (A : Meaning) (w : Word) (accepted : Accepted A w) (k i : ℕ) → Climb A k (accepted.path i)
accepted_climbs A w accepted zero i = tt
accepted_climbs A w accepted (suc k) i =
    let (j, late, good) = accepted.often i in
    let (l, p) = run_path A w accepted.path accepted.run i j late in
    (l, accepted.path j, w j, accepted.path (j + 1), p, good, accepted.run.goes j, accepted_climbs A w accepted k (j + 1))

-- the good states that a climb leaves, in order
visited : (A : Meaning) (k s : ℕ) → Climb A k s → ℕ → ℕ
visited A zero s c i = s
visited A (suc k) s (l, g, a, t, p, good, st, c) zero = g
visited A (suc k) s (l, g, a, t, p, good, st, c) (suc i) = visited A k t c i

-- each of them is good, and a path leads to it
visited-good :
    (A : Meaning) (k s : ℕ) (c : Climb A k s) (i : ℕ) → i < k →
    T (A.good (visited A k s c i)) × ((n : ℕ) × Path A n s (visited A k s c i))
unfolding visited
visited-good A zero s c i b = absurd (omega arith)
visited-good A (suc k) s (l, g, a, t, p, good, st, c) zero b = (good, (l, p))
visited-good A (suc k) s (l, g, a, t, p, good, st, c) (suc i) b =
    let (h, (n, q)) = visited-good A k t c i (omega arith) in
    (h, (l + suc n, path_join A l (suc n) s g (visited A k t c i) p (a, t, st, q)))

-- and from each a path of one step or more leads to the later ones
visited-later :
    (A : Meaning) (k s : ℕ) (c : Climb A k s) (i j : ℕ) → i < j → j < k →
    (n : ℕ) × Path A (suc n) (visited A k s c i) (visited A k s c j)
unfolding visited
visited-later A zero s c i j before b = absurd (omega arith)
visited-later A (suc k) s (l, g, a, t, p, good, st, c) i zero before b = absurd (omega arith)
visited-later A (suc k) s (l, g, a, t, p, good, st, c) zero (suc j) before b =
    let (_, (n, q)) = visited-good A k t c j (omega arith) in (n, (a, t, st, q))
visited-later A (suc k) s (l, g, a, t, p, good, st, c) (suc i) (suc j) before b = visited-later A k t c i j (omega arith) (omega arith)

-- without a lasso no way from a reachable state leaves good states more than `states` times
pub climb_bound : (A : Meaning) → Sound A → (s k : ℕ) → Reachable A s → Climb A k s → A.states < k → SomeLasso A
climb_bound A sound s k reach c many =
    let f : ℕ → ℕ = visited A k s c in
    let (i, j, before, b, same) = pigeonhole A.states f (λ i b. sound.goods (f i) (visited-good A k s c i (omega arith)).0) in
    let (good, (n, p)) = visited-good A k s c i (omega arith) in
    let (q, around) = visited-later A k s c i j before (omega arith) in
    let (x, m, st, there) = reachable_on A n s (f i) reach p in
    let (state, letter, lasso) = lasso-of-paths A m q x (f i) st there good (subst (Path A (suc q) (f i)) (sym same) around) in
    (m, suc q, state, letter, lasso)

module _ (A : Meaning) (inside : ℕ → Bool) (rank : ℕ → ℕ) (R : Ranking A inside rank) where
  -- along a path a ranking's states stay inside, and its numbers do not grow
  path_falls : (k s t : ℕ) → T (inside s) → Path A k s t → T (inside t) × (rank t ≤ rank s)
  path_falls zero s t h e = (subst (λ x. T (inside x)) e h, let r = ap rank e in omega arith)
  path_falls (suc k) s t h (a, u, st, p) =
      let (h', r) = path_falls k u t (R.stays s a u h st) p in (h', omega (arith, R.falls s a u h st))

  -- the number of a state inside is at least what it climbs
  pub climb_below : (k s : ℕ) → T (inside s) → Climb A k s → k ≤ rank s
  climb_below zero s h c = omega arith
  climb_below (suc k) s h (l, g, a, t, p, good, st, c) =
      let (h', r) = path_falls l s g h p in
      omega (arith, R.drops g a t h' st good, climb_below k t (R.stays g a t h' st) c)

  pub reachable_inside : (s : ℕ) → Reachable A s → T (inside s)
  reachable_inside s (x, k, st, p) = (path_falls k x s (R.starts x st) p).0

-- a ranking whose states inside are all reachable, and whose numbers are all climbed, is the least
pub climbed-least :
    (A : Meaning) (inside : ℕ → Bool) (rank : ℕ → ℕ) → Ranking A inside rank →
    ((s : ℕ) → T (inside s) → Reachable A s) → ((s : ℕ) → T (inside s) → Climb A (rank s) s) → Least A inside rank
climbed-least A inside rank R reach climbs =
    record {
      ranking = R;
      within = λ inside' rank' R' s h. reachable_inside A inside' rank' R' s (reach s h);
      below = λ inside' rank' R' s h.
          climb_below A inside' rank' R' (rank s) s (reachable_inside A inside' rank' R' s (reach s h)) (climbs s h);
    }
