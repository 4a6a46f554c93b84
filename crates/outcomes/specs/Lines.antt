-- Promise. The lines that the program prints.
use Rattle.std.specs.Prelude.{ℕ, List, ◌++◌, Ok, Err, codes, decimal, Result}
use Rattle.automaton.specs.declared.refusal.PartsRefusal.{PartsRefusal}
use Rattle.automaton.specs.Parts.{parts_number}
use Rattle.census.specs.declared.census.Census.{Census}
use Rattle.report.specs.declared.source.Source.{Source}
use Rattle.report.specs.declared.source.Source.TheVariants as source
use Rattle.report.specs.Lines.{name_of_source, line_of_refusal}
use Rattle.hoa_text.specs.declared.refusal.MatchRefusal.{MatchRefusal}
use Rattle.hoa_text.specs.declared.refusal.MatchRefusal.TheVariants.{First, Second, Parts}

-- the pair is refused: number
abbrev pub line_of_pair_refusal : PartsRefusal → List ℕ
line_of_pair_refusal e = codes "refused pair " ++ (decimal (parts_number e) ++ codes "\n")

-- a text is read: how many states, signals, starts, good states and steps it has
abbrev pub line_of_census : Source → Census → List ℕ
line_of_census source x = name_of_source source ++ (codes " states " ++ (decimal x.states ++ (codes " signals " ++ (decimal x.signals ++ (codes " starts " ++ (decimal x.starts ++ (codes " good " ++ (decimal x.goods ++ (codes " steps " ++ (decimal x.steps ++ codes "\n"))))))))))

-- what is printed of two files
abbrev pub outcome_text : Result (Census × Census) MatchRefusal → List ℕ
outcome_text (Err (First f)) = line_of_refusal source.Sheet f
outcome_text (Err (Second f)) = line_of_refusal source.Rule f
outcome_text (Err (Parts e)) = line_of_pair_refusal e
outcome_text (Ok (x, y)) = line_of_census source.Sheet x ++ line_of_census source.Rule y
