-- The lines that the program prints of a text.
use Rattle.std.specs.Prelude.{◌≡◌, ℕ, ◌<◌, ◌≤◌, Bool, true, false, ◌⊎◌, List, [], ◌∷◌, ◌++◌, length, Some, None, Ok, Err, codes, decimal, Option, Result}
use Rattle.hoa_tokens.specs.declared.fault.Fault.{Fault}
use Rattle.hoa_tokens.specs.declared.fault.Refusal.{Refusal}
use Rattle.hoa_tokens.specs.declared.fault.Refusal.TheVariants.{BadByte, BadNumber, Unexpected, TooMany, OutOfRange, Repeated, TooDeep, TooLong, Unreadable}
use Rattle.hoa_tokens.specs.Bytes.{sign}
use Rattle.hoa_tokens.specs.Cuts.{Cut, Counted}
use Rattle.hoa_tokens.specs.Numbers.{refusal_number, layer_number, longest_text}
use Rattle.hoa_tokens.specs.Scanning.{Found, token, fault, word, number, name, mark, end, bytes_fault}
use Rattle.report.specs.declared.source.Source.{Source}
use Rattle.report.specs.declared.source.Source.TheVariants.{Sheet, Rule}

-- the word by which the program speaks of a text
abbrev pub name_of_source : Source → List ℕ
name_of_source Sheet = codes "sheet"
name_of_source Rule = codes "rule"

-- a text is refused: number, place and layer
abbrev pub line_of_refusal : Source → Fault → List ℕ
line_of_refusal source f = codes "refused " ++ (name_of_source source ++ (codes " " ++ (decimal (refusal_number f.refusal) ++ (codes " " ++ (decimal f.place ++ (codes " " ++ (decimal (layer_number f.layer) ++ codes "\n")))))))

-- a token or a fault, on a line of its own
abbrev pub found_line : Found → List ℕ
found_line (token (word w) place next) = (decimal place ++ codes " word ") ++ (w ++ codes "\n")
found_line (token (number n) place next) = (decimal place ++ (codes " number " ++ decimal n)) ++ codes "\n"
found_line (token (name w) place next) = (decimal place ++ codes " name ") ++ (w ++ codes "\n")
found_line (token (mark m) place next) = (decimal place ++ codes " mark ") ++ (sign m ∷ codes "\n")
found_line (token end place next) = (decimal place ++ codes " end") ++ codes "\n"
found_line (fault f) = []

-- the lines of all that a cut finds
abbrev pub found_lines : List Found → List ℕ
found_lines [] = []
found_lines (x ∷ xs) = found_line x ++ found_lines xs

-- the lines of the tokens of a text, up to its end or its first fault of the tokens' layer
abbrev pub Listing : List ℕ → List ℕ → Type 0
Listing text lines = (finds : List Found) × Cut text 0 finds × (lines ≡ found_lines finds)

-- how many tokens a text has
abbrev pub count_line : Source → ℕ → List ℕ
count_line source n = name_of_source source ++ (codes " " ++ (decimal n ++ codes " tokens\n"))

-- what is wrong with a byte of a text
abbrev pub complaint : Refusal → List ℕ
complaint BadByte = codes "begins no token"
complaint BadNumber = codes "begins a number above 9999 or with a needless 0"
complaint Unexpected = codes "begins what is not allowed there"
complaint TooMany = codes "begins a number that is too great"
complaint OutOfRange = codes "begins what there is not"
complaint Repeated = codes "begins what was given before"
complaint TooDeep = codes "is nested too deep"
complaint TooLong = codes "is one too many"
complaint Unreadable = codes "cannot be read"

-- which byte of a text begins no token; the first fault of the text may still lie before it
abbrev pub line_of_no_token : Source → Fault → List ℕ
line_of_no_token source f = name_of_source source ++ (codes " byte " ++ (decimal f.place ++ (codes " " ++ (complaint f.refusal ++ codes "\n"))))

-- what is said of a text that is not too long, and whether all of it is tokens
abbrev pub TextLines : Source → List ℕ → Result ℕ Fault → List ℕ → Bool → Type 0
TextLines source text (Ok n) lines sound = (listed : List ℕ) × Listing text listed × (lines ≡ count_line source n ++ listed) × (sound ≡ true)
TextLines source text (Err f) lines sound = (lines ≡ line_of_no_token source f) × (sound ≡ false)

abbrev pub TextReported : Source → List ℕ → List ℕ → Bool → Type 0
TextReported source text lines sound = (r : Result ℕ Fault) × Counted text 0 r × TextLines source text r lines sound

-- what is said of a file, and whether the program goes on: a file that cannot be read is refused, and so is a text that is too long
abbrev pub Reported : Source → Option (List ℕ) → List ℕ → Bool → Type 0
Reported source None lines sound = (lines ≡ line_of_refusal source (bytes_fault Unreadable 0)) × (sound ≡ false)
Reported source (Some text) lines sound = ((longest_text < length text) × (lines ≡ line_of_refusal source (bytes_fault TooLong longest_text)) × (sound ≡ false)) ⊎ ((length text ≤ longest_text) × TextReported source text lines sound)
