-- Promise. The numbers of refusals that the lender of memory causes.
use Rattle.std.specs.Prelude.{ℕ}
use Rattle.tables.specs.declared.refusal.LenderRefusal.{LenderRefusal}
use Rattle.tables.specs.declared.refusal.LenderRefusal.TheVariants.{TooFewCells, ShortStrip, ShortWork}

-- the number that is printed for a refusal
abbrev pub lender_number : LenderRefusal → ℕ
lender_number TooFewCells = 21
lender_number ShortStrip = 22
lender_number ShortWork = 23
