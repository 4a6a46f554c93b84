use Rattle.std.proofs.Common.{arith}
use Rattle.emptiness.proofs.LassosTold.{searches-tell-lasso}
use Rattle.emptiness.proofs.telling.tell_lasso.Goals as goal

pub returns-clause-tells : goal.returns-clause-tells
returns-clause-tells g c =
    let near = c.requires.found.traced.near c.args.g in
    let around = c.requires.back.traced.near c.args.t in
    let room = c.requires.room in
    let kept = c.tell_path.auto.strip in
    let kept-2 = c.tell_path-2.auto.strip in
    searches-tell-lasso c.letter_of-letter.result c.requires.found c.requires.back c.requires.reached c.requires.good c.letter_of-letter.ensures c.tell_path.ensures c.tell_path-2.ensures (omega arith) c.close.ensures
