use Rattle.std.proofs.Common.{◌≡◌, ◌≤◌, false, length, refl, ap, ◌∙◌, arith}
use Rattle.std.proofs.lemmas.List.{get_or_past}
use Rattle.hoa_tokens.specs.declared.class.Class.{Class}
use Rattle.hoa_tokens.specs.declared.class.Class.TheVariants.{Blank, Word, Digit, Name}
use Rattle.hoa_tokens.specs.Bytes.{member}
use Rattle.hoa_tokens.proofs.scan.run_end.Goals as goal

-- past a text's end stands a byte of no class
none_past : (class : Class) → member class 0 ≡ false
none_past Blank = refl
none_past Word = refl
none_past Digit = refl
none_past Name = refl

pub returns-after-loop-to : goal.returns-after-loop-to
returns-after-loop-to c =
    let past : length c.args.text.now ≤ c.loop-to.to = omega arith in
    record { forward = c.loop-to.invariant.0; within = c.loop-to.invariant.1; each = c.loop-to.invariant.2; stops = ap (member c.args.class) (get_or_past c.args.text.now c.loop-to.to 0 past) ∙ none_past c.args.class }
