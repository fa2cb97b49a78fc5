-- What the second of two parts of a commit finds, pulled back before the first: what it finds of that of which the first says
-- nothing. A document that has what the first finds and this is one in which both can be carried out, one after the other.
use Rattle.std.specs.Prelude.{◌++◌, false, not, List, [], ◌∷◌, map, Option, None}
use Rattle.std.specs.List.{filter, list_any}
use Rattle.std.specs.Option.{option_map_or}
use Rattle.st_ids.specs.Listing.{item_of}
use Rattle.st_ids.specs.Order.{node_cmp, same_field}
use Rattle.st_ids.specs.declared.names.NodeId.{NodeId}
use Rattle.st_marks.specs.declared.changes.Change.{Change}
use Rattle.st_marks.specs.declared.marks.RegMark.{RegMark}
use Rattle.st_marks.specs.declared.marks.RowMarks.{RowMarks}
use Rattle.st_marks.specs.declared.schemas.SchemaEntry.{SchemaEntry}
use Rattle.st_marks.specs.Embedding.{is_among}
use Rattle.st_marks.specs.Listings.{CellView, cells_before, counted_view, nodes_new}
use Rattle.st_marks.specs.Row.{CellMark, Counted, Gap, Touch, Make, Fill, spread}
use Rattle.st_normal_laws.specs.Seed.{Finds, FoundRow}
use Rattle.st_normal_laws.specs.inside.One.{found_reg, nodes_of_found}

-- an empty cell of which no name is told
abbrev pub blank_view : Option NodeId → CellView
blank_view owner = record { cell = None; node = owner; full = false }

-- a cell that the second sees, before the first's mark: all of it where the first only counts it, its owner where the first leaves
-- that open, and else no name, since the first tells them
abbrev pub back_cell : CellMark → CellView → List CellView
back_cell Counted y = y ∷ []
back_cell (Gap c) y = blank_view y.node ∷ []
back_cell (Touch c n h) y = counted_view ∷ []
back_cell (Make c n b) y = []
back_cell (Fill c n) y = blank_view None ∷ []

-- a row that the second sees, before the first's marks
abbrev pub back_cells : List CellMark → List CellView → List CellView
back_cells [] ys = []
back_cells (x ∷ xs) [] = []
back_cells (x ∷ xs) (y ∷ ys) = back_cell x y ++ back_cells xs ys

-- a row that the second lists, where these are the first's rows; as it is found, where the first doesn't list it
abbrev pub back_row : List RowMarks → RowMarks → FoundRow
back_row rows r = record {
  node = r.node;
  cells = option_map_or (λ (q : RowMarks). back_cells (spread q.marks) (cells_before (spread r.marks)))
      (item_of node_cmp (λ (q : RowMarks). q.node) rows r.node) (cells_before (spread r.marks));
}

-- the second's registers, but for those of the first
abbrev pub back_regs : List RegMark → List RegMark → List RegMark
back_regs regs = filter (λ (r : RegMark). not (list_any (λ (q : RegMark). same_field q.field r.field) regs))

-- the nodes that the second finds, but for those that the first makes
abbrev pub back_known : Change → Change → List NodeId
back_known C K = filter (λ n. not (is_among (nodes_new C.new) n)) (nodes_of_found K)

-- what the second finds, before the first, where these entries are in effect
abbrev pub back_finds : Change → Change → List SchemaEntry → Finds
back_finds C K entries = record {
  rows = map (back_row C.rows) K.rows;
  held = map found_reg (back_regs C.regs K.regs);
  known = back_known C K;
  schemas = entries;
}
