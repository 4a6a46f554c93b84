-- Promise. The worked examples.
use Rattle.std.specs.Prelude.{ℕ, List, [], ◌∷◌, ◌++◌, replicate, codes}
use Rattle.hoa_tokens.specs.declared.fault.Refusal.TheVariants.{TooDeep}
use Rattle.hoa_tokens.specs.declared.token.Mark.TheVariants.{OpenParen, CloseParen, Not, And, Or}
use Rattle.hoa_tokens.specs.Bytes.{sign}
use Rattle.hoa_tokens.specs.Scanning.{number, mark}
use Rattle.hoa_grammar.specs.Labels.{signal, negated, factor, and, term, or}
use Rattle.hoa_grammar.specs.Verdicts.{fault_at}
use Rattle.evidence.specs.Strips.{outside}
use Rattle.worked.specs.Cases.{table, again, settles, pair, Case, judges, labels, reads, refuses}

-- a text whose label is the signal 0 inside so many parentheses
abbrev pub nested : ℕ → List ℕ
nested depth =
    codes "HOA: v1 States: 1 Start: 0 AP: 1 \"a\" Acceptance: 1 Inf(0) --BODY-- State: 0 ["
    ++ (replicate depth (sign OpenParen) ++ (codes "0" ++ (replicate depth (sign CloseParen) ++ codes "] 0 --END--")))

-- the cases, each below the words that it stands for
abbrev pub examples : List Case
examples =
    -- no states: the empty ranking
    judges (table 0 0 0 0 []) (2 ∷ 0 ∷ 0 ∷ [])
    -- one good start without steps: the number 0 ranks it, and there is no lasso
    ∷ judges (table 1 0 1 1 (0 ∷ [])) (2 ∷ 1 ∷ 0 ∷ 0 ∷ [])
    -- one good start with a step to itself: a lasso with m = 0 and q = 1, and no ranking exists
    ∷ judges (table 1 0 1 1 (1 ∷ [])) (1 ∷ 0 ∷ 1 ∷ 0 ∷ 0 ∷ 0 ∷ [])
    -- two automata that go to and fro between 0 and 1, one good in 0 and the other in 1: a lasso of the pair
    ∷ judges (pair (table 2 0 1 1 (0 ∷ 1 ∷ 1 ∷ 0 ∷ [])) (table 2 0 1 2 (0 ∷ 1 ∷ 1 ∷ 0 ∷ []))) (1 ∷ 1 ∷ 2 ∷ 0 ∷ 0 ∷ 7 ∷ 0 ∷ 0 ∷ 0 ∷ 7 ∷ [])
    -- one good start with every letter to itself beside settles 0: a lasso of the pair
    ∷ judges (pair (table 1 1 1 1 (3 ∷ [])) (settles 0 1)) (1 ∷ 1 ∷ 2 ∷ 0 ∷ 0 ∷ 3 ∷ 0 ∷ 2 ∷ 0 ∷ 3 ∷ [])
    -- again 0 beside settles 0: no word has the signal on infinitely often and only finitely often
    ∷ judges (pair (again 0 1) (settles 0 1)) (2 ∷ 8 ∷ 0 ∷ 1 ∷ 1 ∷ 0 ∷ 1 ∷ 1 ∷ 1 ∷ outside ∷ outside ∷ [])
    -- !0&1 is letter 2
    ∷ labels 2 (term (and (factor (negated (signal 0))) (signal 1))) (mark Not ∷ number 0 ∷ mark And ∷ number 1 ∷ []) (2 ∷ [])
    -- 0|1&!0 is letters 1, 2 and 3
    ∷ labels 2 (or (term (factor (signal 0))) (and (factor (signal 1)) (negated (signal 0)))) (number 0 ∷ mark Or ∷ number 1 ∷ mark And ∷ mark Not ∷ number 0 ∷ []) (1 ∷ 2 ∷ 3 ∷ [])
    -- sixteen open parentheses pass
    ∷ reads (nested 16)
    -- seventeen are too deep, refusal 17, at the place of the seventeenth: behind 77 bytes and 16 others
    ∷ refuses (nested 17) (fault_at TooDeep 93)
    ∷ []
