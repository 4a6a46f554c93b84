-- A pair that keeps the numbers of fitting parts means the pair of these parts.
use Rattle.std.proofs.Common.{◌≡◌, ℕ, ◌*◌, ◌<◌, ◌≤◌, min, Bool, true, false, cond, eqb, sym, refl, ap, ◌∙◌, subst, mul-zero, arith, eqb-true}
use borrow.Author.Tests.{eqb-false}
use Rattle.omega.specs.Automata.{Meaning, Sound, most_states}
use Rattle.omega.specs.Words.{AcceptsBoth}
use Rattle.omega.specs.Pairs.{numbered, pair}
use Rattle.omega.specs.Cached.{usable, cached}
use Rattle.omega.proofs.Soundness.{numbered_sound}
use Rattle.omega.proofs.Pairing.{pair_accepts_both}

pub usable_few : (n w : ℕ) → usable n w ≤ most_states
usable_few n w = few (eqb w 0)
  where
    few : (b : Bool) → cond b 0 (min n most_states) ≤ most_states
    few true = omega arith
    few false = omega arith

-- a pair with a state has a column
pub usable_wide : (n w x : ℕ) → x < usable n w → 0 < w
usable_wide n w x below = wide (eqb w 0) refl below
  where
    wide : (b : Bool) → eqb w 0 ≡ b → x < cond b 0 (min n most_states) → 0 < w
    wide true e h = absurd (omega arith)
    wide false e h = omega (arith, eqb-false w 0 e)

pub cached_sound : (n w : ℕ) (A B : Meaning) → Sound A → Sound (cached n w A B)
cached_sound n w A B sound = numbered_sound (usable n w) w A B (usable_few n w) sound

usable_fit : (m w : ℕ) → m * w * 2 ≤ most_states → usable (m * w * 2) w ≡ m * w * 2
usable_fit m w fit = go (eqb w 0) refl
  where
    go : (b : Bool) → eqb w 0 ≡ b → cond b 0 (min (m * w * 2) most_states) ≡ m * w * 2
    go true e = omega (arith, ap (λ v. m * v * 2) (eqb-true w 0 e), mul-zero m)
    go false e = omega arith

module _ (A B : Meaning) (n w : ℕ) (states : n ≡ A.states * B.states * 2) (columns : w ≡ B.states) (fit : A.states * B.states * 2 ≤ most_states) where
  pub cached_pair : cached n w A B ≡ pair A B
  cached_pair =
      ap (λ k. cached k w A B) states ∙ ap (λ v. cached (A.states * B.states * 2) v A B) columns
      ∙ ap (λ k. numbered k B.states A B) (usable_fit A.states B.states fit)

  pub cached_accepts : Sound A → Sound B → AcceptsBoth (cached n w A B) A B
  cached_accepts sa sb = subst (λ M. AcceptsBoth M A B) (sym cached_pair) (pair_accepts_both A B sa sb)
