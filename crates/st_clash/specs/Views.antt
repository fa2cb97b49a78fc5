-- Two listings of one row, view by view.
use Rattle.std.specs.Prelude.{Bool, true, false, ◌&&◌, List, [], ◌∷◌}
use Rattle.std.specs.Bool.{beq}
use Rattle.st_ids.specs.Order.{same_cell, same_node}
use Rattle.st_marks.specs.Listings.{CellView}
use Rattle.st_clash.specs.Owners.{same_if_told}

-- whether two views are of the same cell
abbrev pub same_view : CellView → CellView → Bool
same_view s t = beq s.full t.full && same_if_told same_cell s.cell t.cell && same_if_told same_node s.node t.node

-- whether two rows show the same cells, place by place
abbrev pub same_views : List CellView → List CellView → Bool
same_views [] [] = true
same_views [] (t ∷ ts) = false
same_views (s ∷ ss) [] = false
same_views (s ∷ ss) (t ∷ ts) = same_view s t && same_views ss ts
