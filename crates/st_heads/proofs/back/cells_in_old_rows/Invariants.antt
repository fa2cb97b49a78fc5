use Rattle.std.proofs.Common.{◌≡◌, take}
use Rattle.std.specs.BTreeSet.{contains}
use Rattle.st_ids.specs.Order.{cell_cmp}
use Rattle.st_ids.specs.declared.names.CellId.{CellId}
use Rattle.st_doc.specs.Doc.{document_of}
use Rattle.st_heads.specs.inside.GoingBack.{in_old_row}
use Rattle.st_heads.proofs.back.cells_in_old_rows.Given as goal

abbrev pub invariant-loop-group : goal.invariant-loop-group
invariant-loop-group l = (c : CellId) → contains cell_cmp l.names c ≡ in_old_row (document_of l.doc) (take l.group-index l.group-items) c
