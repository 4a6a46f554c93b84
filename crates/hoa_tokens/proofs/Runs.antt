-- The bytes in front of a rest of the text that pass a test are a run, if the test leaves out 0, the byte that stands past the text's end.
use Rattle.std.proofs.Common.{◌≡◌, ℕ, ◌+◌, ◌-◌, ◌≤◌, Bool, true, false, List, length, get_or, drop, sym, ap, ◌∙◌, ⊎_elim, subst, arith, length-drop}
use Rattle.std.specs.List.{prefix_len}
use Rattle.std.proofs.lemmas.Bool.{cases_lt}
use Rattle.std.proofs.lemmas.List.{get_or_past, get_or-drop}
use Rattle.std.proofs.lemmas.List.Sums.{prefix_len-le-length, prefix_len_passes, prefix_len_stops}
use Rattle.hoa_tokens.specs.Items.{Run}

pub run_by_prefix : (test : ℕ → Bool) → test 0 ≡ false → (text : List ℕ) (from : ℕ) → from ≤ length text → Run test text from (from + prefix_len test (drop from text))
run_by_prefix test none text from inside =
    let rest = drop from text in
    let n = prefix_len test rest in
    let most : n ≤ length rest = prefix_len-le-length test rest in
    record {
      forward = omega arith;
      within = omega (arith, most, length-drop from text);
      each = λ i low high. subst (λ j. test (get_or text j 0) ≡ true) {x = from + (i - from)} {y = i} (omega arith) (ap test (sym (get_or-drop from text (i - from) 0)) ∙ prefix_len_passes test rest (i - from) 0 (omega arith));
      stops = ⊎_elim (λ more. ap test (sym (get_or-drop from text n 0)) ∙ prefix_len_stops test rest 0 more) (λ all. ap test (get_or_past text (from + n) 0 (omega (arith, length-drop from text))) ∙ none) (cases_lt n (length rest));
    }
