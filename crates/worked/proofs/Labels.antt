-- A label that passes its tests is written by the tokens, breaks no limit, and holds for the listed letters only.
use Rattle.std.proofs.Common.{◌≡◌, ℕ, ◌^◌, Bool, true, false, ◌&&◌, ◌||◌, T, eqb, ◌↔◌, List, [], ◌∷◌, refl, ap, ◌∙◌, subst, ⊎_elim, eqb→eq}
use mathlib.Core.Bool.{beq}
use mathlib.Core.List.Memᴰ
use mathlib.Core.List.{Memᴰ}
use lib.Dec.{eqb_refl}
use Rattle.hoa_tokens.specs.Scanning.{Lexeme}
use Rattle.hoa_grammar.specs.Marking.{Limit, kept, broken, Marked, tokens_of, AllKept}
use Rattle.hoa_grammar.specs.Labels.{Label, spell_label, label_holds}
use Rattle.hoa_grammar.specs.Machine.{is_token}
use Rattle.hoa_grammar.proofs.Tests.{is_token_true}
use Rattle.omega.proofs.Tests.{parts_pass, one_passes, first_passes, second_passes, agree_equal}
use Rattle.worked.specs.Cases.{HoldsFor}
use Rattle.worked.proofs.Tests.{every, each_passes, below, below_passes, passes_true}

-- the tokens are words, numbers and marks, and the same
abbrev alike : List Lexeme → List Lexeme → Bool
alike [] [] = true
alike [] (y ∷ ys) = false
alike (x ∷ xs) [] = false
alike (x ∷ xs) (y ∷ ys) = is_token y x && alike xs ys

alike_equal : (xs ys : List Lexeme) → T (alike xs ys) → xs ≡ ys
alike_equal [] [] h = refl
alike_equal [] (y ∷ ys) h = absurd h
alike_equal (x ∷ xs) [] h = absurd h
alike_equal (x ∷ xs) (y ∷ ys) h =
    let (here, rest) = parts_pass (is_token y x) (alike xs ys) h in
    ap (λ z. z ∷ xs) (is_token_true y x (passes_true (is_token y x) here)) ∙ ap (λ zs. y ∷ zs) (alike_equal xs ys rest)

abbrev is_kept : Limit → Bool
is_kept kept = true
is_kept (broken r) = false

is_kept_lem : (l : Limit) → T (is_kept l) → l ≡ kept
is_kept_lem kept h = refl
is_kept_lem (broken r) h = absurd h

abbrev all_kept : List Marked → Bool
all_kept [] = true
all_kept (z ∷ zs) = is_kept z.limit && all_kept zs

all_kept_lem : (zs : List Marked) → T (all_kept zs) → AllKept zs
all_kept_lem [] h = tt
all_kept_lem (z ∷ zs) h = let (here, rest) = parts_pass (is_kept z.limit) (all_kept zs) h in (is_kept_lem z.limit here, all_kept_lem zs rest)

abbrev listed : ℕ → List ℕ → Bool
listed a [] = false
listed a (b ∷ bs) = eqb a b || listed a bs

listed_member : (a : ℕ) (bs : List ℕ) → T (listed a bs) ↔ Memᴰ a bs
listed_member a [] = (λ h. absurd h, λ m. Memᴰ.not-nil m)
listed_member a (b ∷ bs) =
    let (there, back) = listed_member a bs in (
      λ h. ⊎_elim (λ here. Memᴰ.head (eqb→eq a b here)) (λ rest. Memᴰ.tail (there rest)) (one_passes (eqb a b) (listed a bs) h),
      λ m.
          ⊎_elim (λ here. first_passes (eqb a b) (listed a bs) (subst (λ x. T (eqb a x)) here (eqb_refl a))) (λ rest. second_passes (eqb a b) (listed a bs) (back rest))
          (Memᴰ.cases_cons m),
    )

module _ (p : ℕ) (label : Label) (tokens : List Lexeme) (letters : List ℕ) where
  abbrev agrees : ℕ → Bool
  agrees a = beq (listed a letters) (label_holds label a)

  abbrev tests : List Bool
  tests = alike (tokens_of (spell_label p 0 label)) tokens ∷ all_kept (spell_label p 0 label) ∷ below (2 ^ p) agrees ∷ []

  abbrev pub labelled : Bool
  labelled = every tests

  pub labelled_holds : T labelled → HoldsFor p label tokens letters
  labelled_holds h =
      let (spelled, (none, (agreed, _))) = each_passes tests h in
      record {
        spelled = alike_equal _ tokens spelled;
        kept = all_kept_lem (spell_label p 0 label) none;
        exactly = λ a low. subst (λ b. T b ↔ Memᴰ a letters) (agree_equal (listed a letters) (label_holds label a) (below_passes (2 ^ p) agrees agreed a low)) (listed_member a letters);
      }
