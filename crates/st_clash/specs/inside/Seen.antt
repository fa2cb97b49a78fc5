-- The cells that rows show by name.
use Rattle.std.specs.Prelude.{◌≡◌, ◌≢◌, ℕ, ◌+◌, ◌==◌, Bool, ◌&&◌, List, [], ◌∷◌, ◌++◌, Option, Some, None, MatchOption, if◌then◌else◌}
use Rattle.st_ids.specs.Listing.{Has}
use Rattle.st_ids.specs.Order.{same_node}
use Rattle.st_ids.specs.declared.names.CellId.{CellId}
use Rattle.st_ids.specs.declared.names.NodeId.{NodeId}
use Rattle.st_marks.specs.declared.marks.Mark.{Mark}
use Rattle.st_marks.specs.declared.marks.RowMarks.{RowMarks}
use Rattle.st_clash.specs.declared.seen.Seen.{Seen}
use Rattle.st_clash.specs.Owners.{same_if_told}

-- the cell that a mark at a place of a row shows by name
abbrev pub seen_by : NodeId → ℕ → Mark → List Seen
seen_by r k (Mark.Skip j) = []
seen_by r k (Mark.Gap c) = record { cell = c; row = r; place = k; owner = None } ∷ []
seen_by r k (Mark.Touch c n h) = record { cell = c; row = r; place = k; owner = Some n } ∷ []
seen_by r k (Mark.Make c n b) = []
seen_by r k (Mark.Fill c n) = record { cell = c; row = r; place = k; owner = Some n } ∷ []

-- how many cells a mark shows
abbrev pub shown_by : Mark → ℕ
shown_by (Mark.Skip j) = j
shown_by (Mark.Gap c) = 1
shown_by (Mark.Touch c n h) = 1
shown_by (Mark.Make c n b) = 0
shown_by (Mark.Fill c n) = 1

-- the cells that marks show by name, from a place of a row on
abbrev pub seen_from : NodeId → ℕ → List Mark → List Seen
seen_from r k [] = []
seen_from r k (m ∷ ms) = seen_by r k m ++ seen_from r (k + shown_by m) ms

-- the cells that a row shows by name
abbrev pub row_seen : RowMarks → List Seen
row_seen r = seen_from r.node 0 r.marks

-- what is seen of each cell that is seen
abbrev pub IsTable : List Seen → (CellId → Option Seen) → Type 0
IsTable xs at = (c : CellId) → MatchOption (at c) ((s : Seen) → Has xs s → s.cell ≢ c) (λ s. Has xs s × (s.cell ≡ c))

-- whether a cell is seen at one place, and with one owner where both tell it
abbrev pub same_seen : Seen → Seen → Bool
same_seen s t = same_node s.row t.row && (s.place == t.place) && same_if_told same_node s.owner t.owner

-- the cell, if it is seen otherwise
abbrev pub apart_from : Seen → Option Seen → List CellId
apart_from s None = []
apart_from s (Some t) = if same_seen s t then [] else s.cell ∷ []

-- the cell, if a table tells otherwise of it
abbrev pub apart_cell : (CellId → Option Seen) → Seen → List CellId
apart_cell at s = apart_from s (at s.cell)
