-- The names of a text's document are parts of the text.
use Rattle.std.proofs.Common.{◌≡◌, ℕ, ◌+◌, ◌-◌, Bool, true, false, cond, List, [], ◌∷◌, ◌++◌, codes, sym, ap, ◌∙◌, inl, inr, arith}
use Rattle.hoa_tokens.specs.Bytes.{value, plain}
use Rattle.hoa_tokens.specs.declared.fault.Refusal.TheVariants.{BadNumber}
use Rattle.hoa_tokens.specs.Items.{span, Kind}
use Rattle.hoa_tokens.specs.Scanning.{Lexeme, word, number, name, mark, end, Found, token, fault, bytes_fault, item_found, Stands, ended, item, nothing}
use Rattle.hoa_tokens.specs.Cuts.{Behind, Cut}
use Rattle.hoa_grammar.specs.Rows.{Row, none, more, size}
use Rattle.hoa_grammar.specs.Marking.{kept, Marked, marked, tokens_of}
use Rattle.hoa_grammar.specs.Documents.{Document, signals_limit, spell, spell_front, spell_names}
use Rattle.hoa_grammar.specs.Verdicts.{Reads}
use Rattle.hoa_document.specs.Denoting.{TextWrites}
use Rattle.hoa_text.specs.Naming.{IsName, NameGiven}

-- a token is among those that are written
data Written (x : Lexeme) : List Marked → Type 0 where
  first : {z : Marked} {zs : List Marked} → z.token ≡ x → Written x (z ∷ zs)
  later : {z : Marked} {zs : List Marked} → Written x zs → Written x (z ∷ zs)

written_left : {x : Lexeme} {zs : List Marked} (ys : List Marked) → Written x zs → Written x (zs ++ ys)
written_left ys (first e) = first e
written_left ys (later h) = later (written_left ys h)

written_right : {x : Lexeme} {ys : List Marked} (zs : List Marked) → Written x ys → Written x (zs ++ ys)
written_right [] h = h
written_right (z ∷ zs) h = later (written_right zs h)

-- a document's names are written
name_written : (i : ℕ) (w : List ℕ) (ws : Row (List ℕ)) → IsName i w ws → Written (name w) (spell_names ws)
name_written i w none h = absurd h
name_written i w (more ws v) (inl e) = written_right (spell_names ws) (first (ap name (sym e.1)))
name_written i w (more ws v) (inr h) = written_left _ (name_written i w ws h)

document_written : (i : ℕ) (w : List ℕ) (d : Document) → IsName i w d.header.names → Written (name w) (spell d)
document_written i w d h =
    let p = size d.header.names in
    let front : List Marked = spell_front d.header.states d.header.starts ++ marked (word (codes "AP:")) kept ∷ marked (number p) (signals_limit p) ∷ [] in
    written_left _ (written_left _ (written_left _ (written_right front (name_written i w d.header.names h))))

-- a name that stands somewhere is a part of the text
abbrev Part : List ℕ → List ℕ → Type 0
Part text w = (from to : ℕ) × (w ≡ span text from to)

standing_name : (text : List ℕ) (place : ℕ) (x : Found) (w : List ℕ) (p n : ℕ) → Stands text place x → x ≡ token (name w) p n → Part text w
standing_name text place x w p n (ended here) e = absurd (let z : ◌≡◌ {A = ℕ} 0 1 = cc in omega arith)
standing_name text place x w p n (item kind to longest) e = by_kind_lem kind e
  where
    not_number : (b : Bool) → cond b (token (number (value (span text place to))) place to) (fault (bytes_fault BadNumber place)) ≡ token (name w) p n → Part text w
    not_number true e = absurd (let z : ◌≡◌ {A = ℕ} 0 1 = cc in omega arith)
    not_number false e = absurd (let z : ◌≡◌ {A = ℕ} 0 1 = cc in omega arith)

    by_kind_lem : (kind : Kind) → item_found kind text place to ≡ token (name w) p n → Part text w
    by_kind_lem Kind.word e = absurd (let z : ◌≡◌ {A = ℕ} 0 1 = cc in omega arith)
    by_kind_lem Kind.digits e = not_number (plain (span text place to)) e
    by_kind_lem Kind.name e = (place + 1, to - 1, let same : w ≡ span text (place + 1) (to - 1) = cc in same)
    by_kind_lem (Kind.mark m) e = absurd (let z : ◌≡◌ {A = ℕ} 0 1 = cc in omega arith)
standing_name text place x w p n (nothing inside bare) e = absurd (let z : ◌≡◌ {A = ℕ} 0 1 = cc in omega arith)

-- a name that is read is a part of the text
read_name : (text : List ℕ) (from : ℕ) (finds : List Found) (zs : List Marked) (w : List ℕ) → Cut text from finds → Reads finds (tokens_of zs) → Written (name w) zs → Part text w
read_name text from [] zs w cut reads h = absurd cut
read_name text from (fault f ∷ ts) zs w cut reads h = absurd reads
read_name text from (token x place next ∷ ts) [] w cut reads h = absurd reads
read_name text from (token x place next ∷ ts) (z ∷ zs) w cut reads (first e) =
    standing_name text cut.0.place (token x place next) w place next cut.0.stands (ap (λ y. token y place next) (reads.0 ∙ e))
read_name text from (token x place next ∷ ts) (z ∷ zs) w cut reads (later h) = behind x cut.1 (λ c. read_name text next ts zs w c reads.1 h)
  where
    nothing_behind : (ts : List Found) (zs : List Marked) → ts ≡ [] → Reads ts (tokens_of zs) → Written (name w) zs → ⊥
    nothing_behind ts [] e reads h = elim h [ ]
    nothing_behind [] (z ∷ zs) e reads h = reads
    nothing_behind (t ∷ ts) (z ∷ zs) e reads h = let z : ◌≡◌ {A = ℕ} 0 1 = cc in omega arith

    behind : (x : Lexeme) → Behind (λ n. Cut text n ts) (ts ≡ []) (token x place next) → (Cut text next ts → Part text w) → Part text w
    behind (word v) cut go = go cut
    behind (number v) cut go = go cut
    behind (name v) cut go = go cut
    behind (mark v) cut go = go cut
    behind end cut go = absurd (nothing_behind ts zs cut reads.1 h)

-- so it can be handed out
pub name_given : (text : List ℕ) (i : ℕ) (w : List ℕ) (d : Document) → TextWrites text d → IsName i w d.header.names → NameGiven text i w
name_given text i w d t h =
    let part = read_name text 0 t.finds (spell d) w t.cut t.writes.reads (document_written i w d h) in
    record { document = d; writes = t; name = h; from = part.0; to = part.1; part = part.2 }
