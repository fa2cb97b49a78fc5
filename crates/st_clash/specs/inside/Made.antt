-- The cells that marks name, and those that they make.
use Rattle.std.specs.Prelude.{Bool, List, [], ◌∷◌, if◌then◌else◌}
use Rattle.std.specs.List.{flat_map}
use Rattle.st_ids.specs.Order.{same_rev}
use Rattle.st_ids.specs.declared.names.CellId.{CellId}
use Rattle.st_ids.specs.declared.names.Rev.{Rev}
use Rattle.st_marks.specs.declared.marks.Mark.{Mark}
use Rattle.st_marks.specs.declared.marks.RowMarks.{RowMarks}
use Rattle.st_marks.specs.Listings.{cells_in, cells_made}
use Rattle.st_marks.specs.Row.{spread}

-- the cell in a mark
abbrev pub cell_of_mark : Mark → List CellId
cell_of_mark (Mark.Skip k) = []
cell_of_mark (Mark.Gap c) = c ∷ []
cell_of_mark (Mark.Touch c n h) = c ∷ []
cell_of_mark (Mark.Make c n b) = c ∷ []
cell_of_mark (Mark.Fill c n) = c ∷ []

-- the cell that a mark makes
abbrev pub cell_made_by : Mark → List CellId
cell_made_by (Mark.Skip k) = []
cell_made_by (Mark.Gap c) = []
cell_made_by (Mark.Touch c n h) = []
cell_made_by (Mark.Make c n b) = c ∷ []
cell_made_by (Mark.Fill c n) = []

-- the cells that rows name
abbrev pub named_in_rows : List RowMarks → List CellId
named_in_rows rows = flat_map (λ (r : RowMarks). cells_in (spread r.marks)) rows

-- the cells that rows make
abbrev pub made_in_rows : List RowMarks → List CellId
made_in_rows rows = flat_map (λ (r : RowMarks). cells_made (spread r.marks)) rows

-- the cell, if it passes a test
abbrev pub only_if : (CellId → Bool) → CellId → List CellId
only_if p c = if p c then c ∷ [] else []

-- whether a cell is of a revision
abbrev pub is_of : Rev → CellId → Bool
is_of v c = same_rev c.0.rev v
