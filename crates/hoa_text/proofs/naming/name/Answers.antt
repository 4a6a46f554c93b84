-- The name is the one at its place, or there is none.
use Rattle.std.proofs.Common.{◌≡◌, ◌≤◌, None, sym, ap, subst, arith}
use Rattle.std.proofs.lemmas.Result.{err_from_is_err_and}
use Rattle.std.proofs.lemmas.Option.{MatchOption-at_some, MatchOption-at_none}
use Rattle.automaton.specs.declared.refusal.PartsRefusal.TheVariants.{NoSuchSignal}
use Rattle.hoa_grammar.specs.Rows.{size}
use Rattle.hoa_document.specs.Naming.{name_at}
use Rattle.hoa_document.proofs.HeldNames.{size_first}
use Rattle.hoa_text.specs.Naming.{IsName, NameGiven}
use Rattle.hoa_text.proofs.NameRows.{name_at_lem}
use Rattle.hoa_text.proofs.Parts.{name_given}
use Rattle.hoa_text.proofs.naming.name.Goals as goal

pub returns-in_err-name : goal.returns-in_err-name
returns-in_err-name c =
    let p = err_from_is_err_and c.from_residual-in_err-name.result c.from_residual-in_err-name.ensures.1 in
    let x = c.in_ok-names.names in
    let t = c.in_ok-names.ensures.names in
    let none : c.name_at.result ≡ None = grind arith in
    let which : c.in_err-name.field-0.0 ≡ NoSuchSignal = grind arith in
    let past : x.count ≤ c.args.i = MatchOption-at_none _ _ none c.name_at.ensures in
    rw (p.1, p.2) (which, (t.0, t.1, omega (arith, past, ap size t.2, size_first x.list x.count)))

pub returns : goal.returns
returns c =
    let x = c.in_ok-names.names in
    let t = c.in_ok-names.ensures.names in
    let here = MatchOption-at_some _ _ _ c.in_ok-name.ensures.ok_part c.name_at.ensures in
    let is = subst (IsName c.args.i (name_at x.list c.args.i)) (sym t.2) (name_at_lem x.list c.args.i x.count here.0) in
    subst (NameGiven c.args.bytes.now c.args.i) (sym here.1) (name_given c.args.bytes.now c.args.i (name_at x.list c.args.i) t.0 t.1 is)
