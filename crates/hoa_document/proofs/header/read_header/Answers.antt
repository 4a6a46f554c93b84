-- Each part of the header leads on to the next, or refuses the text.
use Rattle.std.proofs.Common.{arith}
use Rattle.hoa_tokens.proofs.Returning.{passes_error}
use Rattle.hoa_document.specs.Naming.{row_of}
use Rattle.hoa_document.proofs.header.read_header.Goals as goal

pub returns-in_err-signals : goal.returns-in_err-signals
returns-in_err-signals c =
    let starts = c.in_ok-starts.ensures in
    rw (passes_error _ c.from_residual-in_err-signals.ensures.1) (c.in_err-signals.ensures c.in_ok-states.states.value starts.0 starts.1)

pub read_names-requires : goal.read_names-requires
read_names-requires c =
    let starts = c.in_ok-starts.ensures in
    (c.in_ok-signals.ensures c.in_ok-states.states.value starts.0 starts.1).0

pub returns-in_err-names : goal.returns-in_err-names
returns-in_err-names c =
    let starts = c.in_ok-starts.ensures in
    let signals = c.in_ok-signals.ensures c.in_ok-states.states.value starts.0 starts.1 in
    rw (passes_error _ c.from_residual-in_err-names.ensures.1) (c.in_err-names.ensures c.in_ok-states.states.value starts.0 signals.1)

pub returns-in_err-head : goal.returns-in_err-head
returns-in_err-head c =
    let starts = c.in_ok-starts.ensures in
    let signals = c.in_ok-signals.ensures c.in_ok-states.states.value starts.0 starts.1 in
    let names = c.in_ok-names.ensures c.in_ok-states.states.value starts.0 signals.1 in
    rw (passes_error _ c.from_residual-in_err-head.ensures.1) (c.in_err-head.ensures c.in_ok-states.states.value starts.0 (row_of c.in_ok-names.names.value) names.1)

pub returns : goal.returns
returns c =
    let starts = c.in_ok-starts.ensures in
    let signals = c.in_ok-signals.ensures c.in_ok-states.states.value starts.0 starts.1 in
    let names = c.in_ok-names.ensures c.in_ok-states.states.value starts.0 signals.1 in
    let body = c.in_ok-head.ensures c.in_ok-states.states.value starts.0 (row_of c.in_ok-names.names.value) names.1 in
    record {
      few = c.in_ok-states.ensures.0;
      narrow = omega (arith, names.0, signals.0);
      row = starts.0;
      started = starts.2;
      within = starts.3;
      told = body.0;
      reached = body.1;
    }
