use Rattle.std.proofs.Common.{[], List, map, ap, ◌∙◌, unwrap_or}
use Rattle.std.specs.BTreeMap.{get}
use Rattle.st_ids.specs.Order.{node_cmp}
use Rattle.st_marks.specs.declared.marks.RowMarks.{RowMarks}
use Rattle.st_listed.specs.inside.Rows.{change_row}
use Rattle.st_listed.proofs.WholeNamed.{change_is}
use Rattle.st_listed.proofs.listed.list_change.Goals as goal

pub returns : goal.returns
returns c = λ D N stands short shows.
    let f : RowMarks → RowMarks = λ r. change_row (unwrap_or (get node_cmp c.args.forest.now.rows r.node) []) r in
    change_is c.args.forest.now D N c.args.change.now _
    (ap (λ (l : List RowMarks). record c.args.change.now { rows = l }) (c.in_ok-change.ensures ∙ ap (map f) c.as_slice.ensures)) stands short shows
