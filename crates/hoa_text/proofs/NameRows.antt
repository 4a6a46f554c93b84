-- The names that an array holds, one by one.
use Rattle.std.proofs.Common.{◌≡◌, ℕ, zero, suc, ◌<◌, ◌≤◌, Bool, true, List, [], ◌∷◌, ◌++◌, length, take, IsTrue, ◌↔◌, sym, refl, ap, ◌∙◌, inl, inr, subst, ⊎_elim, rules, arith, Bor, Result, Ok, Err, is_ok, IfOk, MatchResult}
use Rattle.std.specs.Str.{bytes_eq}
use Rattle.std.proofs.Math.Seq.{take-suc}
use Rattle.std.proofs.lemmas.Bool.{cases_eq, true≢false}
use Rattle.std.proofs.lemmas.Slice.Eq.{bytes_eq-Decides}
use Rattle.hoa_tokens.specs.declared.fault.Fault.{Fault}
use Rattle.hoa_grammar.specs.Documents.{most_signals}
use Rattle.hoa_grammar.specs.Rows.{Row, none, more, size}
use Rattle.hoa_document.specs.declared.names.Names.{Names}
use Rattle.hoa_document.specs.Denoting.{TextNames, TextRefused}
use Rattle.hoa_document.specs.Naming.{name_at, first_names, row_of}
use Rattle.hoa_document.proofs.HeldNames.{size_first, all_held}
use Rattle.hoa_text.specs.Naming.{IsName, same_names}

-- each of the first m names is the one at its place
pub name_at_lem : (held : List (Bor (List ℕ))) (i m : ℕ) → i < m → IsName i (name_at held i) (first_names held m)
name_at_lem held i zero inside = absurd (omega arith)
name_at_lem held i (suc m) inside =
    ⊎_elim
    (λ same. inl (size_first held m ∙ sym same, ap (name_at held) same))
    (λ other. inr (name_at_lem held i m (omega arith)))
    (cases_eq i m)

-- a row with the names of a list behind it
abbrev behind : Row (List ℕ) → List (Bor (List ℕ)) → Row (List ℕ)
behind ws [] = ws
behind ws (v ∷ vs) = behind (more ws v.now) vs

behind-append : (ws : Row (List ℕ)) (vs : List (Bor (List ℕ))) (v : Bor (List ℕ)) → behind ws (vs ++ v ∷ []) ≡ more (behind ws vs) v.now
behind-append ws [] v = refl
behind-append ws (u ∷ us) v = behind-append (more ws u.now) us v

-- the first m names are those of the first m elements
first_behind : (held : List (Bor (List ℕ))) (m : ℕ) → m ≤ length held → first_names held m ≡ behind none (take m held)
first_behind held zero inside = refl
first_behind held (suc m) inside =
    rw (take-suc held m (record { ref_ptr = (0, 0); now = [] }) (omega arith), behind-append) (ap (λ ws. more ws (name_at held m)) (first_behind held m (omega arith)))

-- rows are alike where the lists behind them are
behind_alike : (ws : Row (List ℕ)) (us vs : List (Bor (List ℕ))) → same_names us vs ≡ true → behind ws us ≡ behind ws vs
behind_alike ws [] [] e = refl
behind_alike ws [] (v ∷ vs) e = absurd (true≢false (sym e))
behind_alike ws (u ∷ us) [] e = absurd (true≢false (sym e))
behind_alike ws (u ∷ us) (v ∷ vs) e =
    let first : bytes_eq u.now v.now ≡ true = search (rules, e) in
    let others : same_names us vs ≡ true = search (rules, e) in
    rw ((bytes_eq-Decides u.now v.now).0 first) (behind_alike (more ws v.now) us vs others)

-- and only there
alike_behind : (ws xs : Row (List ℕ)) (us vs : List (Bor (List ℕ))) → length us ≡ length vs → behind ws us ≡ behind xs vs → (ws ≡ xs) × (same_names us vs ≡ true)
alike_behind ws xs [] [] n e = (e, refl)
alike_behind ws xs [] (v ∷ vs) n e = absurd (omega arith)
alike_behind ws xs (u ∷ us) [] n e = absurd (omega arith)
alike_behind ws xs (u ∷ us) (v ∷ vs) n e =
    let rest = alike_behind (more ws u.now) (more xs v.now) us vs (omega arith) e in
    let before : ws ≡ xs = cc in
    let last : u.now ≡ v.now = cc in
    (before, rw ((bytes_eq-Decides u.now v.now).1 last) rest.1)

-- so two lists of names are alike exactly where their rows are
pub names_alike : (a b : Names) (xs ys : List (Bor (List ℕ))) (r : Bool) → r ≡ same_names xs ys → xs ≡ take a.count a.list → length xs ≡ a.count → ys ≡ take b.count b.list → length ys ≡ b.count → IsTrue r ↔ (row_of a ≡ row_of b)
names_alike a b xs ys r is part long other wide =
    let left : row_of a ≡ behind none xs = rw part (first_behind a.list a.count (all_held a part long)) in
    let right : row_of b ≡ behind none ys = rw other (first_behind b.list b.count (all_held b other wide)) in (
      λ e. left ∙ behind_alike none xs ys (sym is ∙ e) ∙ sym right,
      λ same.
          let many : a.count ≡ b.count = sym (size_first a.list a.count) ∙ ap size same ∙ size_first b.list b.count in
          is ∙ (alike_behind none none xs ys (long ∙ many ∙ sym wide) (sym left ∙ same ∙ right)).1,
    )

-- names that were read, past the map of a fault
pub names_read : (E : Type 0) (text : List ℕ) (x : Names) (r : Result Names Fault) (Q : Fault → Type 0) → MatchResult r (λ v. ◌≡◌ {A = Result Names E} (Ok x) (Ok v)) Q → true ≡ is_ok r → MatchResult r (TextNames text) (TextRefused text) → TextNames text x
names_read E text x (Ok v) Q is ok t = let same : x ≡ v = cc in subst (TextNames text) (sym same) t
names_read E text x (Err f) Q is ok t = absurd (true≢false ok)

-- they are few
pub names_few : (E : Type 0) (x : Names) (r : Result Names Fault) (Q : Fault → Type 0) → MatchResult r (λ v. ◌≡◌ {A = Result Names E} (Ok x) (Ok v)) Q → true ≡ is_ok r → IfOk r (λ v. v.count ≤ most_signals) → x.count ≤ most_signals
names_few E x (Ok v) Q is ok few = let same : x ≡ v = cc in subst (λ w. w.count ≤ most_signals) (sym same) few
names_few E x (Err f) Q is ok few = absurd (true≢false ok)

-- names of two texts, held in two lists
module _ (first second : List ℕ) (x y : Names) (l : TextNames first x) (r : TextNames second y) where
  -- are as many as in the lists
  pub as_many : size l.0.header.names ≡ size r.0.header.names → x.count ≡ y.count
  as_many e = sym (size_first x.list x.count) ∙ sym (ap size l.2) ∙ e ∙ ap size r.2 ∙ size_first y.list y.count

  pub same_size : x.count ≡ y.count → size l.0.header.names ≡ size r.0.header.names
  same_size e = ap size l.2 ∙ size_first x.list x.count ∙ e ∙ sym (size_first y.list y.count) ∙ sym (ap size r.2)
