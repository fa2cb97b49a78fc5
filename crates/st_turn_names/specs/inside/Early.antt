-- Cells that one step finds with an owner that another step makes, though that one doesn't make the cell.
use Rattle.std.specs.Prelude.{Bool, ◌&&◌, not, List, [], ◌∷◌, if◌then◌else◌}
use Rattle.std.specs.List.{flat_map}
use Rattle.st_ids.specs.declared.names.CellId.{CellId}
use Rattle.st_ids.specs.declared.names.NodeId.{NodeId}
use Rattle.st_kind.specs.Named.{Nodes}
use Rattle.st_marks.specs.declared.marks.Mark.{Mark}
use Rattle.st_marks.specs.declared.marks.RowMarks.{RowMarks}

-- the cell, if its owner is made and it isn't
abbrev pub if_early : Nodes → (CellId → Bool) → CellId → NodeId → List CellId
if_early made cells c n = if made n && not (cells c) then c ∷ [] else []

-- the cell that a mark finds, if it is owned too early
abbrev pub early_by : Nodes → (CellId → Bool) → Mark → List CellId
early_by made cells (Mark.Skip k) = []
early_by made cells (Mark.Gap c) = []
early_by made cells (Mark.Touch c n h) = if_early made cells c n
early_by made cells (Mark.Make c n b) = []
early_by made cells (Mark.Fill c n) = if_early made cells c n

-- the cells that rows find owned too early
abbrev pub early_in : Nodes → (CellId → Bool) → List RowMarks → List CellId
early_in made cells rows = flat_map (λ (r : RowMarks). flat_map (early_by made cells) r.marks) rows
