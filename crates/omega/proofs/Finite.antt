-- A finite search: one of the numbers below n has what is looked for, or all of them fail.
use Rattle.std.proofs.lemmas.Bool.{cases_eq}
use Rattle.std.proofs.Common.{ℕ, zero, suc, ◌<◌, ◌⊎◌, inl, inr, arith}

pub found-or-all :
    {Found : Type 0} {Fails : ℕ → Type 0} (n : ℕ) → ((i : ℕ) → i < n → Found ⊎ Fails i) → Found ⊎ ((i : ℕ) → i < n → Fails i)
found-or-all zero test = inr (λ i b. absurd (omega arith))
found-or-all {Found} {Fails} (suc n) test = last (found-or-all n (λ i b. test i (omega arith))) (test n (omega arith))
  where
    last : Found ⊎ ((i : ℕ) → i < n → Fails i) → Found ⊎ Fails n → Found ⊎ ((i : ℕ) → i < suc n → Fails i)
    last (inl found) t = inl found
    last (inr all) (inl found) = inl found
    last (inr all) (inr fails) = inr (λ i b. elim (cases_eq i n) [ inl e ↦ rw e fails | inr d ↦ all i (omega arith) ])
