use Rattle.std.proofs.Common.{◌≡◌, take}
use Rattle.std.specs.BTreeMap.{get}
use Rattle.st_ids.specs.Order.{cell_cmp}
use Rattle.st_ids.specs.declared.names.CellId.{CellId}
use Rattle.st_doc.specs.Doc.{document_of}
use Rattle.st_embed.specs.inside.Rows.{row_among}
use Rattle.st_embed.proofs.targets.rows_by_cell.Given as goal

abbrev pub invariant-loop-node : goal.invariant-loop-node
invariant-loop-node l = (c : CellId) → get cell_cmp l.rows c ≡ row_among (document_of l.doc) (take l.node-index l.nodes) c
