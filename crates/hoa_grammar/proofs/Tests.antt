-- What a passed test says of a token, and that what holds for each kind of token, or for each way of a test, holds of the result.
use Rattle.std.proofs.Common.{◌≡◌, ℕ, true, false, cond, ◌&&◌, eqb, List, [], ◌∷◌, sym, refl, ap, ◌∙◌, subst}
use Rattle.std.proofs.lemmas.Bool.{false≢true, eqb-true, eq-eqb, and_parts, cond_both}
use Rattle.hoa_tokens.specs.declared.token.Mark.{Mark}
use Rattle.hoa_tokens.specs.Bytes.{sign}
use Rattle.hoa_tokens.specs.Items.{Kind}
use Rattle.hoa_tokens.specs.Scanning.{Lexeme, word, number, name, mark, end}
use Rattle.hoa_tokens.proofs.FirstBytes.{kind_at, kind_at_lem}
use Rattle.hoa_grammar.specs.Documents.{alike}
use Rattle.hoa_grammar.specs.Machine.{by_kind, is_mark, is_token}

never : {A : Type 0} → false ≡ true → A
never e = absurd (false≢true e)

pub alike_true : (v w : List ℕ) → alike v w ≡ true → v ≡ w
alike_true [] [] e = refl
alike_true [] (y ∷ ys) e = never e
alike_true (x ∷ xs) [] e = never e
alike_true (x ∷ xs) (y ∷ ys) e =
    let parts = and_parts (eqb x y) (alike xs ys) e in
    ap (λ z. z ∷ xs) (eqb-true x y parts.0) ∙ ap (λ zs. y ∷ zs) (alike_true xs ys parts.1)

pub alike_refl : (w : List ℕ) → alike w w ≡ true
alike_refl [] = refl
alike_refl (x ∷ xs) = ap (λ b. b && alike xs xs) (eq-eqb x x refl) ∙ alike_refl xs

-- a mark is known by its byte
kind_of_sign : (m : Mark) → kind_at (sign m) ≡ Kind.mark m
kind_of_sign m = kind_at_lem (Kind.mark m) (sign m ∷ []) 0 1 (refl, refl)

same_mark : (m n : Mark) → Kind.mark m ≡ Kind.mark n → m ≡ n
same_mark m n e = cc

pub is_mark_true : (m n : Mark) → is_mark m n ≡ true → m ≡ n
is_mark_true m n e = same_mark m n (sym (kind_of_sign m) ∙ ap kind_at (eqb-true (sign m) (sign n) e) ∙ kind_of_sign n)

-- what holds for each kind of token holds of the result for a token
pub by_kind_lem : {A : Type 0} (P : Lexeme → A → Type 0) (f : List ℕ → A) (g : ℕ → A) (h : List ℕ → A) (j : Mark → A) (e : A) → ((w : List ℕ) → P (word w) (f w)) → ((n : ℕ) → P (number n) (g n)) → ((w : List ℕ) → P (name w) (h w)) → ((m : Mark) → P (mark m) (j m)) → P end e → (x : Lexeme) → P x (by_kind f g h j e x)
by_kind_lem P f g h j e on_word on_number on_name on_mark at_end (word w) = on_word w
by_kind_lem P f g h j e on_word on_number on_name on_mark at_end (number n) = on_number n
by_kind_lem P f g h j e on_word on_number on_name on_mark at_end (name w) = on_name w
by_kind_lem P f g h j e on_word on_number on_name on_mark at_end (mark m) = on_mark m
by_kind_lem P f g h j e on_word on_number on_name on_mark at_end end = at_end

pub by_word : {A : Type 0} (P : Lexeme → A → Type 0) (w v : List ℕ) (y z : A) → P (word v) y → P (word w) z → P (word w) (cond (alike w v) y z)
by_word P w v y z g h = cond_both (alike w v) y z (P (word w)) (λ e. subst (λ u. P (word u) y) (sym (alike_true w v e)) g) (λ e. h)

pub by_mark : {A : Type 0} (P : Lexeme → A → Type 0) (m n : Mark) (y z : A) → P (mark n) y → P (mark m) z → P (mark m) (cond (is_mark m n) y z)
by_mark P m n y z g h = cond_both (is_mark m n) y z (P (mark m)) (λ e. subst (λ k. P (mark k) y) (sym (is_mark_true m n e)) g) (λ e. h)

pub is_token_true : (w x : Lexeme) → is_token w x ≡ true → x ≡ w
is_token_true (word v) x = by_kind_lem (λ y b. b ≡ true → y ≡ word v) (λ w. alike w v) (λ n. false) (λ w. false) (λ m. false) false (λ w e. ap word (alike_true w v e)) (λ n. never) (λ w. never) (λ m. never) never x
is_token_true (number k) x = by_kind_lem (λ y b. b ≡ true → y ≡ number k) (λ w. false) (λ n. eqb n k) (λ w. false) (λ m. false) false (λ w. never) (λ n e. ap number (eqb-true n k e)) (λ w. never) (λ m. never) never x
is_token_true (name v) x = never
is_token_true (mark k) x = by_kind_lem (λ y b. b ≡ true → y ≡ mark k) (λ w. false) (λ n. false) (λ w. false) (λ m. is_mark m k) false (λ w. never) (λ n. never) (λ w. never) (λ m e. ap mark (is_mark_true m k e)) never x
is_token_true end x = never
