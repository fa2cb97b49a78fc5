use Rattle.std.proofs.Common.{◌≡◌, map, take}
use Rattle.std.specs.BTreeSet.{contains}
use Rattle.st_ids.specs.Order.{node_cmp}
use Rattle.st_marks.specs.Document.{slot}
use Rattle.st_marks.specs.Row.{embed_row, merge}
use Rattle.st_doc.specs.Doc.{document_of}
use Rattle.st_embed.specs.inside.Wants.{part_in_row}
use Rattle.st_embed.proofs.rows.push_row.Given as goal

abbrev pub invariant-loop-owned : goal.invariant-loop-owned
invariant-loop-owned l = l.marks ≡ merge (embed_row (part_in_row l.wants (contains node_cmp l.mentioned) l.node) (map (slot (document_of l.doc)) (take l.owned-index l.owned-items)))
