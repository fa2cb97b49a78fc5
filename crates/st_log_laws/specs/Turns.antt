-- Lists of intents that are carried out one after the other.
use Rattle.std.specs.Prelude.{◌≡◌, ◌<◌, ◌^◌, ℕ, ◌+◌, List, [], ◌∷◌, length}
use Rattle.st_ids.specs.declared.names.NodeId.{NodeId}
use Rattle.st_marks.specs.declared.intents.Intent.{Intent}
use Rattle.st_marks.specs.declared.verdicts.Verdict.{Verdict}
use Rattle.st_marks.specs.Document.{Document, HasShortRows}
use Rattle.st_marks.specs.Extends.{GainsItems}
use Rattle.st_marks.specs.Intent.{Fits, group_cells}
use Rattle.st_marks.specs.CarryOut.{full}
use Rattle.st_marks.specs.Verdict.{IsVerdict, carried_document}

-- each fits where it comes, and rows stay short enough
abbrev pub FitInTurn : Document → List Intent → Type 0
FitInTurn D [] = Unit {0}
FitInTurn D (N ∷ Ns) = Fits D N × HasShortRows (full D N) × ((v : Verdict) → IsVerdict D N v → FitInTurn (carried_document v D N) Ns)

-- Bs has each of As, in the same order, and more may stand between
abbrev pub IsSublist : List Intent → List Intent → Type 0
IsSublist As Bs = GainsItems (λ (N M : Intent). N ≡ M) As Bs

-- how many cells intents make
abbrev pub cells_made : List Intent → ℕ
cells_made [] = 0
cells_made (N ∷ Ns) = length (group_cells N) + cells_made Ns

-- each row stays short enough, even if all cells that the intents make come into it
abbrev pub HasRoom : Document → List Intent → Type 0
HasRoom D Ns = (n : NodeId) → length (D.rows n) + cells_made Ns < 2 ^ 32
