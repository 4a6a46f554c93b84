-- Promise. The laws of reading, over the finds of every text.
use Rattle.std.specs.Prelude.{◌≡◌, ℕ, ◌⊎◌, List}
use Rattle.hoa_tokens.specs.declared.fault.Fault.{Fault}
use Rattle.hoa_tokens.specs.Scanning.{Found}
use Rattle.hoa_tokens.specs.Cuts.{Cut}
use Rattle.hoa_grammar.specs.Marking.{tokens_of}
use Rattle.hoa_grammar.specs.Documents.{Document, spell}
use Rattle.hoa_grammar.specs.Verdicts.{Writes, FirstFault}

-- every text is a document that keeps the limits, or has a first fault
abbrev pub EveryTextRead : Type 0
EveryTextRead = (text : List ℕ) (finds : List Found) → Cut text 0 finds → ((d : Document) × Writes finds d) ⊎ ((f : Fault) × FirstFault finds f)

-- tokens write one document only
abbrev pub OneDocument : Type 0
OneDocument = (d e : Document) → tokens_of (spell d) ≡ tokens_of (spell e) → d ≡ e

-- a text has one first fault only
abbrev pub OneFault : Type 0
OneFault = (finds : List Found) (f g : Fault) → FirstFault finds f → FirstFault finds g → f ≡ g

-- a text with a first fault writes no document
abbrev pub FaultExcludesDocument : Type 0
FaultExcludesDocument = (finds : List Found) (f : Fault) (d : Document) → FirstFault finds f → Writes finds d → ⊥
