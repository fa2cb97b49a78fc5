use Rattle.std.proofs.Common.{◌≡◌, Option, take}
use Rattle.std.specs.List.{flat_map}
use Rattle.st_doc.specs.Doc.{document_of}
use Rattle.st_ids.specs.declared.names.CellId.{CellId}
use Rattle.st_ids.specs.declared.names.NodeId.{NodeId}
use Rattle.st_meaning.specs.inside.Made.{cells_at, made_in_row}
use Rattle.st_meaning.proofs.groups.made_in_rows.Given as goal

abbrev pub invariant-loop-row : goal.invariant-loop-row
invariant-loop-row l = (n : NodeId) (a : Option CellId) → cells_at l.cells n a ≡ flat_map (made_in_row (document_of l.doc) n a) (take l.row-index l.rows)
