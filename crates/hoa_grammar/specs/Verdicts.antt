-- Promise. What the finds of a text are: a document that keeps every limit, or a first fault.
use Rattle.std.specs.Prelude.{◌≡◌, ℕ, List, [], ◌∷◌, ◌++◌}
use Rattle.hoa_tokens.specs.declared.fault.Fault.{Fault}
use Rattle.hoa_tokens.specs.declared.fault.Refusal.{Refusal}
use Rattle.hoa_tokens.specs.declared.fault.Refusal.TheVariants.{Unexpected}
pub use Rattle.hoa_tokens.specs.Faults.{layer_of, fault_at}
use Rattle.hoa_tokens.specs.Scanning.{Lexeme, Found, token, fault}
use Rattle.hoa_grammar.specs.Marking.{Limit, broken, Marked, marked, tokens_of, AllKept}
use Rattle.hoa_grammar.specs.Documents.{Document, spell}

-- the finds are these tokens, at whatever places
abbrev pub Reads : List Found → List Lexeme → Type 0
Reads [] [] = Unit {0}
Reads [] (x ∷ xs) = ⊥
Reads (token x place next ∷ ts) [] = ⊥
Reads (token x place next ∷ ts) (y ∷ ys) = (x ≡ y) × Reads ts ys
Reads (fault f ∷ ts) ys = ⊥

-- the finds write this document, and none of its tokens breaks a limit
pub record Writes (finds : List Found) (d : Document) : Type 0 where
  pub reads : Reads finds (tokens_of (spell d))
  pub kept : AllKept (spell d)

-- some document begins with these tokens, and none of them breaks a limit there
pub record Begins (ws : List Lexeme) : Type 0 where
  pub document : Document
  pub front : List Marked
  pub back : List Marked
  pub spelled : spell document ≡ front ++ back
  pub tokens : tokens_of front ≡ ws
  pub kept : AllKept front

-- some document begins with the tokens ws and then x, to which this happens there
pub record GoesOn (ws : List Lexeme) (x : Lexeme) (limit : Limit) : Type 0 where
  pub document : Document
  pub front : List Marked
  pub back : List Marked
  pub spelled : spell document ≡ front ++ marked x limit ∷ back
  pub tokens : tokens_of front ≡ ws

-- why what is found behind the tokens ws is at fault
pub data Faulty (ws : List Lexeme) : Found → Fault → Type 0 where
  -- its bytes are no token
  no_token : {f : Fault} → Faulty ws (fault f) f
  -- no document goes on with it
  not_allowed : {x : Lexeme} {place next : ℕ} → ((limit : Limit) → GoesOn ws x limit → ⊥) → Faulty ws (token x place next) (fault_at Unexpected place)
  -- documents go on with it, and in every one of them it breaks this limit
  over_limit : {x : Lexeme} {place next : ℕ} {r : Refusal} → GoesOn ws x (broken r) → ((limit : Limit) → GoesOn ws x limit → limit ≡ broken r) → Faulty ws (token x place next) (fault_at r place)

-- the first fault among the finds: up to there some document goes, with every limit kept
pub record FirstFault (finds : List Found) (f : Fault) : Type 0 where
  pub before : List Found
  pub at : Found
  pub behind : List Found
  pub splits : finds ≡ before ++ at ∷ behind
  pub tokens : List Lexeme
  pub reads : Reads before tokens
  pub begun : Begins tokens
  pub faulty : Faulty tokens at f
