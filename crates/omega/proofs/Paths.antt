-- Paths of steps: they join, and a path from a start to a good state with a path from there back make a lasso.
use Rattle.omega.specs.Automata.{Meaning, Sound}
use Rattle.omega.specs.Lassos.{Lasso}
use Rattle.std.proofs.Common.{◌≡◌, ℕ, zero, suc, ◌+◌, ◌<◌, T, sym, refl, ap, ◌∙◌, subst, add-one, arith}

-- k steps lead from s to t
abbrev pub Path : Meaning → ℕ → ℕ → ℕ → Type 0
Path A zero s t = s ≡ t
Path A (suc k) s t = (a u : ℕ) × T (A.step s a u) × Path A k u t

-- some steps lead from a start to t
abbrev pub Reachable : Meaning → ℕ → Type 0
Reachable A t = (s k : ℕ) × T (A.start s) × Path A k s t

pub path_join : (A : Meaning) (k l s t u : ℕ) → Path A k s t → Path A l t u → Path A (k + l) s u
path_join A zero l s t u e p = let z : 0 + l ≡ l = omega arith in rw z (subst (λ x. Path A l x u) (sym e) p)
path_join A (suc k) l s t u (a, v, st, p) q = let z : suc k + l ≡ suc (k + l) = omega arith in rw z (a, v, st, path_join A k l v t u p q)

pub reachable_on : (A : Meaning) (l s t : ℕ) → Reachable A s → Path A l s t → Reachable A t
reachable_on A l s t (x, k, st, p) q = (x, k + l, st, path_join A k l x s t p q)

path_below : (A : Meaning) → Sound A → (k s t : ℕ) → s < A.states → Path A k s t → t < A.states
path_below A sound zero s t b e = omega arith
path_below A sound (suc k) s t b (a, u, st, p) = path_below A sound k u t (sound.enters s a u st) p

pub reachable_below : (A : Meaning) → Sound A → (s : ℕ) → Reachable A s → s < A.states
reachable_below A sound s (x, k, st, p) = path_below A sound k x s (sound.starts x st) p

-- x, then the values of f
cons : ℕ → (ℕ → ℕ) → ℕ → ℕ
cons x f zero = x
cons x f (suc i) = f i

-- n steps along a sequence of states and one of letters
abbrev Chain : Meaning → ℕ → (ℕ → ℕ) → (ℕ → ℕ) → Type 0
Chain A n state letter = (i : ℕ) → i < n → T (A.step (state i) (letter i) (state (suc i)))

chain-cons :
    (A : Meaning) (n s a : ℕ) (state letter : ℕ → ℕ) →
    T (A.step s a (state 0)) → Chain A n state letter → Chain A (suc n) (cons s state) (cons a letter)
unfolding cons
chain-cons A n s a state letter st c zero b = st
chain-cons A n s a state letter st c (suc i) b = c i (omega arith)

-- two sequences with k states and letters more in front, the first of them s
record Extended (A : Meaning) (k s : ℕ) (state letter : ℕ → ℕ) : Type 0 where
  states : ℕ → ℕ
  letters : ℕ → ℕ
  first : states 0 ≡ s
  later : (i : ℕ) → states (k + i) ≡ state i
  goes : (n : ℕ) → Chain A n state letter → Chain A (k + n) states letters

extended : (A : Meaning) (k s t : ℕ) (state letter : ℕ → ℕ) → state 0 ≡ t → Path A k s t → Extended A k s state letter
unfolding cons
extended A zero s t state letter b e =
    record { states = state; letters = letter; first = b ∙ sym e; later = λ i. ap state (omega arith); goes = λ n c i l. c i (omega arith) }
extended A (suc k) s t state letter b (a, u, st, p) =
    let x = extended A k u t state letter b p in
    let more : (n : ℕ) → suc k + n ≡ suc (k + n) = λ n. omega arith in
    record {
      states = cons s x.states;
      letters = cons a x.letters;
      first = refl;
      later = λ i. rw (more i) (x.later i);
      goes = λ n c. rw (more n) (chain-cons A (k + n) s a x.states x.letters (rw x.first st) (x.goes n c));
    }

pub lasso-of-paths :
    (A : Meaning) (m q s g : ℕ) → T (A.start s) → Path A m s g → T (A.good g) → Path A (suc q) g g →
    (state letter : ℕ → ℕ) × Lasso A m (suc q) state letter
lasso-of-paths A m q s g st p good r =
    let around = extended A (suc q) g g (λ _. g) (λ _. 0) refl r in
    let whole = extended A m s g around.states around.letters around.first p in
    let middle : whole.states m ≡ g = ap whole.states (omega arith) ∙ whole.later 0 ∙ around.first in
    let end : whole.states (m + suc q) ≡ g = whole.later (suc q) ∙ ap around.states (omega arith) ∙ around.later 0 in (
      whole.states,
      whole.letters,
      record {
        loops = omega arith;
        begins = rw whole.first st;
        goes = λ i b. rw add-one (whole.goes (suc q) (λ j c. around.goes 0 (λ _ z. absurd (omega arith)) j (omega arith)) i b);
        good = rw middle good;
        closes = end ∙ sym middle;
      },
    )
