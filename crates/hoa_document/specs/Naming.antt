-- Promise. The names of a text's signals.
use Rattle.std.specs.Prelude.{ℕ, zero, suc, List, [], slice_index_or}
use Rattle.std.specs.Borrow.{Bor}
use Rattle.hoa_grammar.specs.Rows.{Row, none, more}
use Rattle.hoa_document.specs.declared.names.Names.{Names}

-- the name at a place of the array, and nothing past its end
abbrev pub name_at : List (Bor (List ℕ)) → ℕ → List ℕ
name_at names i = (slice_index_or names i (record { ref_ptr = (0, 0); now = [] })).now

-- the first so many names of the array, in their order
abbrev pub first_names : List (Bor (List ℕ)) → ℕ → Row (List ℕ)
first_names names zero = none
first_names names (suc i) = more (first_names names i) (name_at names i)

-- the names, in their order
abbrev pub row_of : Names → Row (List ℕ)
row_of x = first_names x.list x.count
