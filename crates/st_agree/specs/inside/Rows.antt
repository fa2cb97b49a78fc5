-- Rows and registers that a change and a step both list.
use Rattle.std.specs.Prelude.{Bool, false, not, List, [], ◌∷◌, Option, Some, None, if◌then◌else◌}
use Rattle.st_ids.specs.Listing.{item_of}
use Rattle.st_ids.specs.Order.{field_cmp, node_cmp, same_node}
use Rattle.st_ids.specs.declared.names.FieldId.{FieldId}
use Rattle.st_ids.specs.declared.names.NodeId.{NodeId}
use Rattle.st_marks.specs.declared.marks.RegMark.{RegMark}
use Rattle.st_marks.specs.declared.marks.RegStep.{RegStep}
use Rattle.st_marks.specs.declared.marks.RowMarks.{RowMarks}
use Rattle.st_marks.specs.Agree.{row_field}
use Rattle.st_marks.specs.Intent.{same_option}
use Rattle.st_marks.specs.Listings.{CellView, cells_before}
use Rattle.st_marks.specs.Row.{spread}
use Rattle.st_clash.specs.Views.{same_views}

-- whether a row that shows these cells is listed otherwise
abbrev pub differs_from : List CellView → Option RowMarks → Bool
differs_from vs None = false
differs_from vs (Some o) = not (same_views vs (cells_before (spread o.marks)))

-- the field of a row that others list otherwise
abbrev pub row_apart : List RowMarks → RowMarks → List FieldId
row_apart others r = if differs_from (cells_before (spread r.marks)) (item_of node_cmp (λ (o : RowMarks). o.node) others r.node) then row_field r.node ∷ [] else []

-- whether a register that shows this occupant is listed with another
abbrev pub holds_other : Option NodeId → Option RegStep → Bool
holds_other held None = false
holds_other held (Some o) = not (same_option same_node held o.before)

-- the register, if others list it with another occupant
abbrev pub register_apart : List RegStep → RegMark → List FieldId
register_apart others r = if holds_other r.held (item_of field_cmp (λ (o : RegStep). o.field) others r.field) then r.field ∷ [] else []
