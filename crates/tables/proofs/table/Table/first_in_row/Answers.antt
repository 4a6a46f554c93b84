-- The cells of the row of `s` are asked in their order.
use Rattle.std.proofs.Common.{ℕ, ◌+◌, ◌*◌, ◌<◌, length, arith, rules, tests}
use lib.Arith.{digits_lt}
use Rattle.std.proofs.lemmas.Iterator.{first_from_Range, serves_from_Range}
use Rattle.tables.proofs.Bits.{letter_count}
use Rattle.tables.proofs.Steps.{Has, first_is_lowest}
use Rattle.tables.proofs.table.Table.first_in_row.Goals as goal

pub find-requires-clause-callable : goal.find-requires-clause-callable
find-requires-clause-callable c =
    let x = c.args.self.now in
    let f = x.frame in
    let letter : c.args.a < 16 = omega (arith, letter_count f.signals x.within.narrow) in
    serves_from_Range
    (λ t q k. search (rules, tests))
    (λ t low high.
    let inside : c.args.s * f.states + t < length x.cells.now = omega (arith, x.room, digits_lt c.requires.state high) in
    search rules)

pub returns-clause-is : goal.returns-clause-is
returns-clause-is c =
    let x = c.args.self.now in
    let f = x.frame in
    let Has : ℕ → Type 0 = Has f.states f.signals f.starts f.goods x.cells.now c.args.s c.args.a c.args.f c.requires.state in
    first_is_lowest f.states f.signals f.starts f.goods x.cells.now c.args.s c.args.a c.args.f c.requires.state c.find.result
    (first_from_Range _ _ _ _ Has (λ t. Has t → ⊥) c.find.ensures.ran (λ t q k. search (rules, tests)) (λ t q k. (search rules, search (rules, tests))))
