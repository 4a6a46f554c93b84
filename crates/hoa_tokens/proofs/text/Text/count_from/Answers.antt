use Rattle.std.proofs.Common.{◌≡◌, ◌+◌, ◌<◌, ◌≤◌, [], ◌∷◌, ◌++◌, length, Ok, Err, subst, arith, length-append}
use Rattle.hoa_tokens.specs.Scanning.{token, lexeme, found, Scanned, Ahead}
use Rattle.hoa_tokens.proofs.Returning.{passes_error}
use Rattle.hoa_tokens.proofs.Cutting.{grown_more, ahead_of, counted_end, counted_fault, unclipped}
use Rattle.hoa_tokens.proofs.text.Text.count_from.Goals as goal

pub returns-in_err-found : goal.returns-in_err-found
returns-in_err-found c =
    let text = c.args.self.bytes.now in
    let from = c.loop-found.from in
    let f = c.in_err-found.field-0.0 in
    rw (passes_error _ c.from_residual.ensures.1) (counted_fault text c.args.start from f c.loop-found.invariant.2.0 c.loop-found.invariant.2.2 (unclipped (λ i. Scanned text i (found (Err f))) text from c.loop-found.invariant.1 c.in_err-found.ensures.scanned))

pub returns-in-End : goal.returns-in-End
returns-in-End c =
    let text = c.args.self.bytes.now in
    let from = c.loop-found.from in
    let t = c.in_ok-found.found in
    let said : Scanned text from (found (Ok t)) × Ahead text from (found (Ok t)) = (unclipped (λ i. Scanned text i (found (Ok t))) text from c.loop-found.invariant.1 c.in_ok-found.ensures.scanned, unclipped (λ i. Ahead text i (found (Ok t))) text from c.loop-found.invariant.1 c.in_ok-found.ensures.ahead) in
    let at-end = subst (λ k. Scanned text from (token (lexeme k) t.place t.next) × Ahead text from (token (lexeme k) t.place t.next)) c.in-End.is said in
    counted_end text c.args.start from t.place t.next c.loop-found.invariant.2.0 c.loop-found.tokens c.loop-found.invariant.2.2 c.loop-found.invariant.2.1 at-end.1 at-end.0

pub overflow_add-tokens : goal.overflow_add-tokens
overflow_add-tokens c = omega (arith, c.loop-found.invariant.0, c.loop-found.invariant.1)

-- the scan went on, within the text
ahead : (c : goal.In_default) → (c.loop-found.from < c.in_ok-found.found.next) × (c.in_ok-found.found.next ≤ length c.args.self.bytes.now)
ahead c =
    let text = c.args.self.bytes.now in
    let t = c.in_ok-found.found in
    ahead_of t.token text c.loop-found.from t.place t.next c.in_default.not-End (unclipped (λ i. Ahead text i (found (Ok t))) text c.loop-found.from c.loop-found.invariant.1 c.in_ok-found.ensures.ahead)

pub loop-found-preserved : goal.loop-found-preserved
loop-found-preserved c =
    let text = c.args.self.bytes.now in
    let t = c.in_ok-found.found in
    let sofar = c.loop-found.invariant.2 in
    let h = ahead c in
    let longer : length (sofar.0 ++ token (lexeme t.token) t.place t.next ∷ []) ≡ c.loop-found.tokens + 1 = simp (length-append, sofar.1) in
    (omega (arith, c.loop-found.invariant.0), h.1, (_, longer, grown_more t.token text c.args.start c.loop-found.from t.place t.next sofar.0 sofar.2 c.in_default.not-End (unclipped (λ i. Scanned text i (found (Ok t))) text c.loop-found.from c.loop-found.invariant.1 c.in_ok-found.ensures.scanned)))
