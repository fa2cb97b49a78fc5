-- The rows of two changes of one commit in turn, told together.
use Rattle.std.specs.Prelude.{Option, Some, None}
use Rattle.st_ids.specs.declared.names.NodeId.{NodeId}
use Rattle.st_marks.specs.declared.marks.RowMarks.{RowMarks}
use Rattle.st_marks.specs.Row.{merge, spread}
use Rattle.st_rows.specs.Cells.{join_row}

-- the row of a node: what both say together, or what the one says that lists it
abbrev pub row_joined : NodeId → Option RowMarks → Option RowMarks → Option RowMarks
row_joined n None None = None
row_joined n (Some s) None = Some s
row_joined n None (Some t) = Some t
row_joined n (Some s) (Some t) = Some (record { node = n; marks = merge (join_row (spread s.marks) (spread t.marks)) })
