use Rattle.std.proofs.Common.{◌≡◌, [], map, take, unwrap_or}
use Rattle.std.specs.BTreeMap.{get}
use Rattle.st_ids.specs.Order.{node_cmp}
use Rattle.st_marks.specs.declared.marks.RowMarks.{RowMarks}
use Rattle.st_listed.specs.inside.Rows.{change_row}
use Rattle.st_listed.proofs.listed.change_rows.Given as goal

abbrev pub invariant-loop-row : goal.invariant-loop-row
invariant-loop-row l = l.listed ≡ map (λ (r : RowMarks). change_row (unwrap_or (get node_cmp l.forest.rows r.node) []) r) (take l.row-index l.rows)
