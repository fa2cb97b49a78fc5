-- Rows of a change over a step's rows, where there is room.
use Rattle.std.specs.Prelude.{◌<◌, ◌^◌, ◌&&◌, nat_lt, Bool, List, Option, IfSome}
use Rattle.st_ids.specs.Listing.{item_of}
use Rattle.st_ids.specs.Order.{node_cmp}
use Rattle.st_ids.specs.declared.names.NodeId.{NodeId}
use Rattle.st_ids.specs.declared.names.Rev.{Rev}
use Rattle.st_kind.specs.Named.{Nodes}
use Rattle.st_marks.specs.declared.marks.RowMarks.{RowMarks}
use Rattle.st_marks.specs.Row.{CellMark, spread}
use Rattle.st_rows.specs.Changes.{may_list}
use Rattle.st_rows.specs.Merged.{IsMerged}
use Rattle.st_rebase.specs.Exchanged.{AreExchanged}
use Rattle.st_rebase.specs.Rows.{RowBecomes}

-- the step's row, if it is listed, is in its normal form, and what the change lists after it is fewer than 2^32 cells
abbrev pub HasRoomOver : RowMarks → Option RowMarks → Type 0
HasRoomOver r step = IfSome step (λ s. IsMerged s.marks × (may_list (spread r.marks) (spread s.marks) < 2 ^ 32))

-- where there is room, a row becomes another over what is left of the step's
abbrev pub IsRowOver : Nodes → Option RowMarks → RowMarks → RowMarks → Type 0
IsRowOver m step r t = (rev : Rev) (new : List NodeId) → HasRoomOver r step → RowBecomes rev new m step r t

-- each row is exchanged for what it becomes over the step's row of its node
abbrev pub AreRowsOver : Nodes → List RowMarks → List RowMarks → List RowMarks → Type 0
AreRowsOver m step rs ts = AreExchanged (λ (r : RowMarks). r.node) (λ r t. IsRowOver m (item_of node_cmp (λ (s : RowMarks). s.node) step r.node) r t) rs ts

-- of two rows, what both make and what either finds are fewer than 2^32 cells
abbrev pub has_room_at : List CellMark → List CellMark → Bool
has_room_at xs ys = nat_lt (may_list xs ys) (2 ^ 32) && nat_lt (may_list ys xs) (2 ^ 32)
