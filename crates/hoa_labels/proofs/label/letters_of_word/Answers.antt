-- A word that is neither `t` nor `f` is empty, has one byte, another than theirs, or is longer.
use Rattle.std.proofs.Common.{◌≡◌, ◌<◌, ◌≤◌, ◌≢◌, ℕ, false, List, [], ◌∷◌, length, get_or, refl, arith, rules}
use Rattle.std.proofs.lemmas.Bool.Decides.{nat_tests}
use Rattle.hoa_grammar.specs.Documents.{alike}
use Rattle.hoa_labels.proofs.label.letters_of_word.Goals as goal
use Rattle.hoa_labels.proofs.label.letters_of_word.Goals.{in_default-via-then-word-lt1, in_default-via-else-word-lt1+then-word-lt2+in_default-1, in_default-via-else-word-lt1+else-word-lt2}

unlike : (w : List ℕ) (b : ℕ) → (length w ≡ 1 → get_or w 0 0 ≢ b) → alike w (b ∷ []) ≡ false
unlike [] b other = refl
unlike (x ∷ []) b other = let differ : x ≢ b = other refl in grind (arith, nat_tests)
unlike (x ∷ y ∷ w) b other = search rules

pub returns-in_default : goal.returns-in_default
returns-in_default c =
    let w = c.args.word.now in
    let neither : length w ≡ 1 → (get_or w 0 0 ≢ 116) × (get_or w 0 0 ≢ 102) =
    elim c.in_default.branch [ in_default-via-then-word-lt1 k ↦ (λ one. let none : length w < 1 = search rules in absurd (omega arith)) | in_default-via-else-word-lt1+then-word-lt2+in_default-1 k ↦ (λ one. search rules) | in_default-via-else-word-lt1+else-word-lt2 k ↦ (λ one. let more : 2 ≤ length w = search rules in absurd (omega arith)) ] in
    (unlike w 116 (λ one. (neither one).0), unlike w 102 (λ one. (neither one).1), c.at.ensures)
