-- What the loop over the tokens keeps.
use Rattle.std.proofs.Common.{◌≡◌, true, map, drop}
use Rattle.std.specs.List.{list_all}
use Rattle.hoa_tokens.specs.Scanning.{lexeme}
use Rattle.hoa_grammar.specs.Machine.{Slot, due}
use Rattle.hoa_grammar.specs.Reading.{Reached}
use Rattle.hoa_document.specs.Standing.{is_fixed}
use Rattle.hoa_document.proofs.expect.expect_all.Given as goal

-- the tokens from the index on are fixed and due
abbrev pub invariant-loop-token : goal.invariant-loop-token
invariant-loop-token l = (list_all is_fixed (map lexeme (drop l.token-index l.tokens)) ≡ true) × ((k : Slot) → Reached l.text.bytes.now (due (map lexeme l.tokens) k) l.initial.head → Reached l.text.bytes.now (due (map lexeme (drop l.token-index l.tokens)) k) l.head)
