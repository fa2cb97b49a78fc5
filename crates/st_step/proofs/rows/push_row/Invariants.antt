use Rattle.std.proofs.Common.{◌≡◌, map, take}
use Rattle.std.specs.BTreeSet.{contains}
use Rattle.st_ids.specs.Order.{node_cmp}
use Rattle.st_marks.specs.Row.{merge}
use Rattle.st_doc.specs.Doc.{document_of}
use Rattle.st_step.specs.inside.Marks.{step_mark}
use Rattle.st_step.proofs.rows.push_row.Given as goal

abbrev pub invariant-loop-owned : goal.invariant-loop-owned
invariant-loop-owned l = l.marks ≡ merge (map (step_mark (contains node_cmp l.mentioned) (document_of l.doc) (document_of l.later)) (take l.owned-index l.owned-items))
