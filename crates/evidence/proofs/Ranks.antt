-- The ranks in a strip make a ranking exactly if each state's rank is one that a ranking may give it.
use Rattle.std.proofs.Common.{◌≡◌, ℕ, ◌+◌, ◌-◌, ◌<◌, ◌≤◌, not, T, eqb, ltb, ◌≢◌, ◌↔◌, List, length, get_or, take, drop, sym, ◌∙◌, subst, arith, eqb→eq, ltb→lt, lt→ltb, T_not}
use lib.Dec.{not_T, eqb_refl}
use Rattle.std.proofs.lemmas.List.Edits.{get_or-between, length-between}
use Rattle.omega.specs.Automata.{Meaning, Sound}
use Rattle.omega.specs.Rankings.{Ranking}
use Rattle.omega.proofs.Tests.{both_pass, parts_pass}
use Rattle.evidence.specs.Strips.{rank_at, inside_at, outside}
use Rattle.evidence.specs.Asking.{Allowed, Ranked}

module _ (n : ℕ) (strip : List ℕ) (s : ℕ) where
  pub ranked_inside : s < n → rank_at strip s ≢ outside → T (inside_at n strip s)
  ranked_inside below there = both_pass _ _ (lt→ltb s n below) (not_T _ (λ same. there (eqb→eq (rank_at strip s) outside same)))

  pub inside_ranked : T (inside_at n strip s) → (s < n) × (rank_at strip s ≢ outside)
  inside_ranked inside =
      let (below, there) = parts_pass (ltb s n) (not (eqb (rank_at strip s) outside)) inside in
      (ltb→lt s n below, λ same. T_not (eqb (rank_at strip s) outside) there (subst (λ x. T (eqb (rank_at strip s) x)) same (eqb_refl (rank_at strip s))))

-- the strip's ranks as a list of their own
module _ (A : Meaning) (sound : Sound A) (strip ranks : List ℕ) (same : (s : ℕ) → s < A.states → get_or ranks s 0 ≡ rank_at strip s) where
  step_allowed : ((s : ℕ) → s < A.states → Ranked A ranks s) → (s a t : ℕ) → T (inside_at A.states strip s) → T (A.step s a t) → Allowed (A.good s) (rank_at strip s) (rank_at strip t)
  step_allowed ranked s a t inside step =
      let (below, there) = inside_ranked A.states strip s inside in
      let e = same s below in
      let f = same t (sound.enters s a t step) in
      let (x, y, z) = (ranked s below).allowed (λ out. there (sym e ∙ out)) a t step in
      (λ out. x (f ∙ out), omega arith, λ good. omega (arith, z good))

  pub ranked_ranking : ((s : ℕ) → s < A.states → Ranked A ranks s) → Ranking A (inside_at A.states strip) (rank_at strip)
  ranked_ranking ranked =
      record {
        small = λ s inside.
            let (below, there) = inside_ranked A.states strip s inside in
            let e = same s below in
            omega (arith, (ranked s below).small (λ out. there (sym e ∙ out)));
        starts = λ s start.
            let below = sound.starts s start in
            ranked_inside A.states strip s below (λ out. (ranked s below).starts start (same s below ∙ out));
        stays = λ s a t inside step.
            ranked_inside A.states strip t (sound.enters s a t step) (step_allowed ranked s a t inside step).0;
        falls = λ s a t inside step. (step_allowed ranked s a t inside step).1;
        drops = λ s a t inside step. (step_allowed ranked s a t inside step).2;
      }

  ranking_ranked : Ranking A (inside_at A.states strip) (rank_at strip) → (s : ℕ) → s < A.states → Ranked A ranks s
  ranking_ranked ranking s below =
      let e = same s below in
      let inside : get_or ranks s 0 ≢ outside → T (inside_at A.states strip s) =
      λ there. ranked_inside A.states strip s below (λ out. there (e ∙ out)) in
      record {
        small = λ there. omega (arith, ranking.small s (inside there));
        starts = λ start out. (inside_ranked A.states strip s (ranking.starts s start)).1 (sym e ∙ out);
        allowed = λ there a t step.
            let f = same t (sound.enters s a t step) in (
              λ out. (inside_ranked A.states strip t (ranking.stays s a t (inside there) step)).1 (sym f ∙ out),
              omega (arith, ranking.falls s a t (inside there) step),
              λ good. omega (arith, ranking.drops s a t (inside there) step good),
            );
      }

-- the part of a strip that holds the ranks of n states
abbrev pub ranks_of : ℕ → List ℕ → List ℕ
ranks_of n strip = take ((3 + n) - 3) (drop 3 strip)

module _ (A : Meaning) (sound : Sound A) (strip : List ℕ) (n : ℕ) (count : n ≡ A.states) (long : 3 + n ≤ length strip) where
  part_length : length (ranks_of n strip) ≡ A.states
  part_length = omega (arith, length-between strip 3 (3 + n) long)

  part_rank : (s : ℕ) → s < A.states → get_or (ranks_of n strip) s 0 ≡ rank_at strip s
  part_rank s below = get_or-between strip 3 (3 + n) s 0 (omega arith)

  pub part_ranking : ((s : ℕ) → s < length (ranks_of n strip) → Ranked A (ranks_of n strip) s) ↔ Ranking A (inside_at A.states strip) (rank_at strip)
  part_ranking = (
    λ ranked. ranked_ranking A sound strip (ranks_of n strip) part_rank (λ s below. ranked s (omega (arith, part_length))),
    λ ranking s below. ranking_ranked A sound strip (ranks_of n strip) part_rank ranking s (omega (arith, part_length)),
  )
