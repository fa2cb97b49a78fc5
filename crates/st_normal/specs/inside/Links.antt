-- Which nodes stand in the rows and registers of which, before and after.
use Rattle.std.specs.Prelude.{◌&&◌, Bool, List, [], ◌∷◌, map, Option, option_map, if◌then◌else◌}
use Rattle.std.specs.List.{find, flat_map}
use Rattle.st_ids.specs.declared.names.FieldId.{FieldId}
use Rattle.st_ids.specs.declared.names.NodeId.{NodeId}
use Rattle.st_normal.specs.declared.entries.Link.{Link}
use Rattle.st_marks.specs.declared.marks.RowMarks.{RowMarks}
use Rattle.st_marks.specs.Embedding.{is_among}
use Rattle.st_normal.specs.inside.Naming.{is_named}
use Rattle.st_marks.specs.Row.{CellMark, Counted, Gap, Touch, Make, Fill, spread}
use Rattle.st_marks.specs.Listings.{one_or_none}
use Rattle.st_marks.specs.How.{is_leave}

-- the node that stands in a cell before
abbrev pub standing_before_in : CellMark → List NodeId
standing_before_in Counted = []
standing_before_in (Gap c) = []
standing_before_in (Touch c n h) = n ∷ []
standing_before_in (Make c n b) = []
standing_before_in (Fill c n) = []

-- the nodes that stand in a row's cells before
abbrev pub stands_before : List CellMark → List NodeId
stands_before = flat_map standing_before_in

-- the node that stands in a cell after
abbrev pub standing_after_in : CellMark → List NodeId
standing_after_in Counted = []
standing_after_in (Gap c) = []
standing_after_in (Touch c n h) = if is_leave h then [] else n ∷ []
standing_after_in (Make c n b) = if b then n ∷ [] else []
standing_after_in (Fill c n) = n ∷ []

-- the nodes that stand in a row's cells after
abbrev pub stands_after : List CellMark → List NodeId
stands_after = flat_map standing_after_in

-- a node in the row or a register of another
abbrev pub link : NodeId → NodeId → Link
link p n = record { node = n; up = p }

-- in rows
abbrev pub links_in : (List CellMark → List NodeId) → List RowMarks → List Link
links_in stands rows = flat_map (λ (r : RowMarks). map (link r.node) (stands (spread r.marks))) rows

-- in registers
abbrev pub links_at : {R : Type 0} → (R → FieldId) → (R → Option NodeId) → List R → List Link
links_at field held regs = flat_map (λ r. map (link (field r).node) (one_or_none (held r))) regs

-- the node above, where a link leads to it first
abbrev pub up_by : List Link → NodeId → Option NodeId
up_by links n = option_map (λ (l : Link). l.up) (find (is_named (λ (l : Link). l.node.0) n.0) links)

-- a new node in the row or a register of a new node
abbrev pub are_new : List NodeId → Link → Bool
are_new new l = is_among new l.node && is_among new l.up
