-- Rows that one step leaves and another finds.
use Rattle.std.specs.Prelude.{Bool, not, ◌&&◌, List, [], ◌∷◌, Option, Some, None, if◌then◌else◌}
use Rattle.st_ids.specs.Listing.{item_of}
use Rattle.st_ids.specs.Order.{node_cmp}
use Rattle.st_ids.specs.declared.names.FieldId.{FieldId}
use Rattle.st_kind.specs.Named.{Nodes}
use Rattle.st_clash.specs.Views.{same_views}
use Rattle.st_marks.specs.declared.marks.RowMarks.{RowMarks}
use Rattle.st_marks.specs.Agree.{row_field}
use Rattle.st_marks.specs.Listings.{CellView, cells_before}
use Rattle.st_marks.specs.Row.{spread}

-- whether a row that is found so was left otherwise; one of a node that was made, and isn't listed, was left empty
abbrev pub is_otherwise : Option RowMarks → Bool → List CellView → Bool
is_otherwise None made vs = made && not (same_views [] vs)
is_otherwise (Some r) made vs = not (same_views (cells_before (spread r.marks)) vs)

-- the field of a row that was left otherwise than it is found
abbrev pub row_apart : List RowMarks → Nodes → RowMarks → List FieldId
row_apart lefts made r = if is_otherwise (item_of node_cmp (λ (l : RowMarks). l.node) lefts r.node) (made r.node) (cells_before (spread r.marks)) then row_field r.node ∷ [] else []
