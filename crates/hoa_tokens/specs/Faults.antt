-- The fault of a refusal at a place: its layer follows from the refusal.
use Rattle.std.specs.Prelude.{ℕ}
use Rattle.hoa_tokens.specs.declared.fault.Fault.{Fault}
use Rattle.hoa_tokens.specs.declared.fault.Refusal.{Refusal}
use Rattle.hoa_tokens.specs.declared.fault.Refusal.TheVariants.{BadByte, BadNumber, Unexpected, TooMany, OutOfRange, Repeated, TooDeep, TooLong, Unreadable}
use Rattle.hoa_tokens.specs.declared.fault.Layer.{Layer}
use Rattle.hoa_tokens.specs.declared.fault.Layer.TheVariants.{Bytes, Grammar, Meaning}

-- the layer of a refusal
abbrev pub layer_of : Refusal → Layer
layer_of BadByte = Bytes
layer_of BadNumber = Bytes
layer_of Unexpected = Grammar
layer_of TooMany = Meaning
layer_of OutOfRange = Meaning
layer_of Repeated = Meaning
layer_of TooDeep = Grammar
layer_of TooLong = Bytes
layer_of Unreadable = Bytes

abbrev pub fault_at : Refusal → ℕ → Fault
fault_at r place = record { refusal = r; place = place; layer = layer_of r }
