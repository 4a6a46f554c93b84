-- The numbers that a reader of the output sees: those of refusals and layers, and the size limit of a text.
use Rattle.std.specs.Prelude.{ℕ}
use Rattle.hoa_tokens.specs.declared.fault.Refusal.{Refusal}
use Rattle.hoa_tokens.specs.declared.fault.Refusal.TheVariants.{BadByte, BadNumber, Unexpected, TooMany, OutOfRange, Repeated, TooDeep, TooLong, Unreadable}
use Rattle.hoa_tokens.specs.declared.fault.Layer.{Layer}
use Rattle.hoa_tokens.specs.declared.fault.Layer.TheVariants.{Bytes, Grammar, Meaning}

-- a text has at most this many bytes
abbrev pub longest_text : ℕ
longest_text = 61440

abbrev pub refusal_number : Refusal → ℕ
refusal_number BadByte = 11
refusal_number BadNumber = 12
refusal_number Unexpected = 13
refusal_number TooMany = 14
refusal_number OutOfRange = 15
refusal_number Repeated = 16
refusal_number TooDeep = 17
refusal_number TooLong = 18
refusal_number Unreadable = 19

abbrev pub layer_number : Layer → ℕ
layer_number Bytes = 1
layer_number Grammar = 2
layer_number Meaning = 3
