-- The first words of a text are due, and then the number of its states.
use Rattle.std.proofs.Common.{Ok, Err, refl}
use Rattle.hoa_tokens.proofs.Returning.{passes_error}
use Rattle.hoa_grammar.specs.Rows.{none}
use Rattle.hoa_grammar.specs.Documents.{most_states, states_limit}
use Rattle.hoa_grammar.specs.Machine.{at, states, starts}
use Rattle.hoa_document.proofs.Leading.{stands_there}
use Rattle.hoa_document.proofs.Slots.{first_token, count_within}
use Rattle.hoa_document.proofs.header.read_states.Goals as goal

pub returns-in_err-head : goal.returns-in_err-head
returns-in_err-head c =
    rw (passes_error _ c.from_residual.ensures.1) (first_token c.args.text.bytes.now (Err _) c.in_err-head.ensures.scanned)

pub returns-in_err-head-2 : goal.returns-in_err-head-2
returns-in_err-head-2 c =
    rw (passes_error _ c.from_residual-in_err-head-2.ensures.1) (c.in_err-head-2.ensures states (first_token c.args.text.bytes.now (Ok c.in_ok-head.head) c.in_ok-head.ensures.scanned))

pub returns : goal.returns
returns c =
    let first = first_token c.args.text.bytes.now (Ok c.in_ok-head.head) c.in_ok-head.ensures.scanned in
    let due-number = c.in_ok-head-2.ensures states first in
    count_within c.args.text.bytes.now most_states states_limit (λ n. at (starts n none)) c.count.result c.count.ensures.below (c.count.ensures.read (at states) (λ n. at (starts n none)) refl (stands_there due-number))
