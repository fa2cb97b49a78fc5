-- Which commits are void where they come.
use Rattle.std.specs.Prelude.{◌≡◌, Bool, true, false, List, [], ◌∷◌, if◌then◌else◌}
use Rattle.st_ids.specs.declared.names.Rev.{Rev}
use Rattle.st_marks.specs.declared.intents.Intent.{Intent}
use Rattle.st_marks.specs.declared.verdicts.Verdict.{Verdict}
use Rattle.st_marks.specs.Document.{Document}
use Rattle.st_marks.specs.Verdict.{IsVerdict, carried_document}

-- whether a verdict says that the commit is void
abbrev pub is_void : Verdict → Bool
is_void Verdict.Sound = false
is_void (Verdict.Need n) = true
is_void (Verdict.Cycle n) = true
is_void (Verdict.Schema u) = true

-- the revisions of the commits that are void, where they come one after the other
abbrev pub AreVoid : Document → List Intent → List Rev → Type 0
AreVoid D [] revs = revs ≡ []
AreVoid D (N ∷ Ns) revs = (v : Verdict) × (rest : List Rev) × IsVerdict D N v × AreVoid (carried_document v D N) Ns rest
    × (revs ≡ (if is_void v then N.rev ∷ rest else rest))
