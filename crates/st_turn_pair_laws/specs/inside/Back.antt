-- What the second of two steps finds, pulled back before the first: what it finds of that of which the first says nothing. A
-- document that has what the first finds and this is one from which the two can lead in turn.
use Rattle.std.specs.Prelude.{◌++◌, false, not, List, [], ◌∷◌, map, Option, None}
use Rattle.std.specs.List.{filter, list_any}
use Rattle.std.specs.Option.{option_map_or}
use Rattle.st_ids.specs.Listing.{item_of}
use Rattle.st_ids.specs.Order.{node_cmp, same_field}
use Rattle.st_ids.specs.declared.names.NodeId.{NodeId}
use Rattle.st_marks.specs.declared.marks.RegStep.{RegStep}
use Rattle.st_marks.specs.declared.marks.RowMarks.{RowMarks}
use Rattle.st_marks.specs.declared.schemas.SchemaEntry.{SchemaEntry}
use Rattle.st_marks.specs.declared.steps.Step.{Step}
use Rattle.st_marks.specs.Embedding.{is_among}
use Rattle.st_marks.specs.Listings.{CellView, cells_before, counted_view, nodes_new}
use Rattle.st_marks.specs.Row.{CellMark, Counted, Gap, Touch, Make, Fill, spread}
use Rattle.st_normal_laws.specs.Seed.{Finds, FoundRow}
use Rattle.st_normal_step_laws.specs.inside.SeedOfStep.{found_before, nodes_found_by, old_holes}

-- an empty cell of which no name is told
abbrev pub blank_view : Option NodeId → CellView
blank_view owner = record { cell = None; node = owner; full = false }

-- a cell that the second sees, before the first's mark: all of it where the first only counts it, its owner where the first leaves
-- that open, and else no name, since the first tells them
abbrev pub back_cell : CellMark → CellView → List CellView
back_cell Counted y = y ∷ []
back_cell (Gap c) y = blank_view y.node ∷ []
back_cell (Touch c n h) y = counted_view ∷ []
back_cell (Make c n b) y = []
back_cell (Fill c n) y = blank_view None ∷ []

-- a row that the second sees, before the first's marks
abbrev pub back_cells : List CellMark → List CellView → List CellView
back_cells [] ys = []
back_cells (x ∷ xs) [] = []
back_cells (x ∷ xs) (y ∷ ys) = back_cell x y ++ back_cells xs ys

-- a row that the second lists, where these are the first's rows; as it is found, where the first doesn't list it
abbrev pub back_row : List RowMarks → RowMarks → FoundRow
back_row rows r = record {
  node = r.node;
  cells = option_map_or (λ (q : RowMarks). back_cells (spread q.marks) (cells_before (spread r.marks)))
      (item_of node_cmp (λ (q : RowMarks). q.node) rows r.node) (cells_before (spread r.marks));
}

-- the second's registers, but for those of the first
abbrev pub back_regs : List RegStep → List RegStep → List RegStep
back_regs regs = filter (λ (r : RegStep). not (list_any (λ (q : RegStep). same_field q.field r.field) regs))

-- the nodes of which the second says that they are there, but for those that the first makes
abbrev pub back_known : Step → Step → List NodeId
back_known S T = filter (λ n. not (is_among (nodes_new S.new) n)) (nodes_found_by T ++ old_holes T)

-- what the second finds, before the first, where these entries are in effect
abbrev pub back_finds : Step → Step → List SchemaEntry → Finds
back_finds S T entries = record {
  rows = map (back_row S.rows) T.rows;
  held = map found_before (back_regs S.regs T.regs);
  known = back_known S T;
  schemas = entries;
}
