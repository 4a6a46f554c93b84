-- A worked example holds if one computed test passes, and all of them pass.
use Rattle.std.proofs.Common.{Bool, T, List, [], ◌∷◌, map}
use Rattle.std.specs.List.{AllByRecursion}
use Rattle.omega.proofs.Tests.{parts_pass}
use Rattle.worked.specs.Cases.{Case, judges, labels, reads, refuses, Holds}
use Rattle.worked.specs.Examples.{examples}
use Rattle.worked.proofs.Tests.{every}
use Rattle.worked.proofs.Strips.{judged, judged_holds}
use Rattle.worked.proofs.Labels.{labelled, labelled_holds}
use Rattle.worked.proofs.Texts.{readable, readable_holds, refusable, refusable_holds}

abbrev passes : Case → Bool
passes (judges shape strip) = judged shape strip
passes (labels p label tokens letters) = labelled p label tokens letters
passes (reads text) = readable text
passes (refuses text f) = refusable text f

passes_holds : (c : Case) → T (passes c) → Holds c
passes_holds (judges shape strip) h = judged_holds shape strip h
passes_holds (labels p label tokens letters) h = labelled_holds p label tokens letters h
passes_holds (reads text) h = readable_holds text h
passes_holds (refuses text f) h = refusable_holds text f h

every_holds : (cs : List Case) → T (every (map passes cs)) → AllByRecursion Holds cs
every_holds [] h = tt
every_holds (c ∷ cs) h = let (here, rest) = parts_pass (passes c) (every (map passes cs)) h in (passes_holds c here, every_holds cs rest)

pub all_hold : AllByRecursion Holds examples
all_hold = every_holds examples tt
