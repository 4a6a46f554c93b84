-- A text has one cut, and a cut grows token by token.
use Rattle.std.proofs.Common.{◌≡◌, ℕ, ◌<◌, ◌≤◌, List, [], ◌∷◌, ◌++◌, length, Ok, Err, Result, sym, refl, ap, ◌∙◌, subst, append_assoc, arith}
use Rattle.hoa_tokens.specs.declared.fault.Fault.{Fault}
use Rattle.hoa_tokens.specs.declared.token.Token.{Token}
use Rattle.hoa_tokens.specs.declared.token.Token.TheVariants as case
use Rattle.hoa_tokens.specs.Scanning.{Found, token, fault, word, number, name, mark, end, lexeme, Scanned, Ahead, clipped}
use Rattle.hoa_tokens.specs.Cuts.{Behind, Cut, Ends, Counted}
use Rattle.hoa_tokens.proofs.Once.{one_scan}

-- the rests behind one find are alike if those behind a token are
one_rest : (text : List ℕ) (x : Found) (xs ys : List Found) → ((next : ℕ) → Cut text next xs → Cut text next ys → ys ≡ xs) → Behind (λ next. Cut text next xs) (xs ≡ []) x → Behind (λ next. Cut text next ys) (ys ≡ []) x → ys ≡ xs
one_rest text (token (word w) place next) xs ys rest c d = rest next c d
one_rest text (token (number n) place next) xs ys rest c d = rest next c d
one_rest text (token (name w) place next) xs ys rest c d = rest next c d
one_rest text (token (mark m) place next) xs ys rest c d = rest next c d
one_rest text (token end place next) xs ys rest c d = d ∙ sym c
one_rest text (fault f) xs ys rest c d = d ∙ sym c

pub one_cut : (text : List ℕ) (xs ys : List Found) (from : ℕ) → Cut text from xs → Cut text from ys → ys ≡ xs
one_cut text [] ys from c d = absurd c
one_cut text (x ∷ xs) [] from c d = absurd d
one_cut text (x ∷ xs) (y ∷ ys) from c d =
    let same : y ≡ x = one_scan text from y x d.0 c.0 in
    let rest : ys ≡ xs = one_rest text x xs ys (λ next e f. one_cut text xs ys next e f) c.1 (subst (λ z. Behind (λ next. Cut text next ys) (ys ≡ []) z) same d.1) in
    ap (λ z. z ∷ ys) same ∙ ap (λ zs. x ∷ zs) rest

-- these are the tokens between two positions: a cut from the later one completes them to one from the earlier
abbrev pub Grown : List ℕ → ℕ → ℕ → List Found → Type 0
Grown text start from tokens = (rest : List Found) → Cut text from rest → Cut text start (tokens ++ rest)

-- a token that is not the end is one more, and the text goes on behind it
on : (t : Token) (place next : ℕ) (more : ℕ → Type 0) (none : Type 0) → (t ≡ case.End → ⊥) → more next → Behind more none (token (lexeme t) place next)
on (case.Word w) place next more none go h = h
on (case.Number n) place next more none go h = h
on (case.Name w) place next more none go h = h
on (case.Mark m) place next more none go h = h
on case.End place next more none go h = absurd (go refl)

pub ahead_of : (t : Token) (text : List ℕ) (from place next : ℕ) → (t ≡ case.End → ⊥) → Ahead text from (token (lexeme t) place next) → (from < next) × (next ≤ length text)
ahead_of (case.Word w) text from place next go h = h
ahead_of (case.Number n) text from place next go h = h
ahead_of (case.Name w) text from place next go h = h
ahead_of (case.Mark m) text from place next go h = h
ahead_of case.End text from place next go h = absurd (go refl)

pub grown_more : (t : Token) (text : List ℕ) (start from place next : ℕ) (tokens : List Found) → Grown text start from tokens → (t ≡ case.End → ⊥) → Scanned text from (token (lexeme t) place next) → Grown text start next (tokens ++ token (lexeme t) place next ∷ [])
grown_more t text start from place next tokens g go s rest c =
    let x : Found = token (lexeme t) place next in
    subst (Cut text start) (sym (append_assoc tokens (x ∷ []) rest)) (g (x ∷ rest) (s, on t place next (λ i. Cut text i rest) (rest ≡ []) go c))

-- the end, or a fault, ends the cut
pub grown_end : (t : Token) (text : List ℕ) (start from place next : ℕ) (tokens : List Found) → Grown text start from tokens → t ≡ case.End → Scanned text from (token (lexeme t) place next) → Cut text start (tokens ++ token (lexeme t) place next ∷ [])
grown_end t text start from place next tokens g is s =
    g (token (lexeme t) place next ∷ []) (s, subst (λ k. Behind (λ i. Cut text i []) (◌≡◌ {A = List Found} [] []) (token (lexeme k) place next)) (sym is) refl)

pub grown_fault : (text : List ℕ) (start from : ℕ) (f : Fault) (tokens : List Found) → Grown text start from tokens → Scanned text from (fault f) → Cut text start (tokens ++ fault f ∷ [])
grown_fault text start from f tokens g s = g (fault f ∷ []) (s, refl)

counted : (text : List ℕ) (start : ℕ) (finds : List Found) (r : Result ℕ Fault) → Cut text start finds → Ends text finds r → Counted text start r
counted text start finds r c e = record { finds = finds; cut = c; one = λ others d. one_cut text finds others start c d; ends = e }

pub counted_end : (text : List ℕ) (start from place next : ℕ) (tokens : List Found) (n : ℕ) → Grown text start from tokens → length tokens ≡ n → Ahead text from (token end place next) → Scanned text from (token end place next) → Counted text start (Ok n)
counted_end text start from place next tokens n g long a s =
    let is : token end place next ≡ token end (length text) (length text) = ap (λ i. token end i next) a.0 ∙ ap (token end (length text)) a.1 in
    counted text start (tokens ++ token end place next ∷ []) (Ok n) (g (token end place next ∷ []) (s, refl)) (tokens, ap (λ x. tokens ++ x ∷ []) is, long)

pub counted_fault : (text : List ℕ) (start from : ℕ) (f : Fault) (tokens : List Found) → Grown text start from tokens → Scanned text from (fault f) → Counted text start (Err f)
counted_fault text start from f tokens g s = counted text start (tokens ++ fault f ∷ []) (Err f) (grown_fault text start from f tokens g s) (tokens, refl)

-- a position within the text is not clipped
pub unclipped : (P : ℕ → Type 0) (text : List ℕ) (from : ℕ) → from ≤ length text → P (clipped text from) → P from
unclipped P text from inside h = let is : clipped text from ≡ from = omega arith in subst P is h
