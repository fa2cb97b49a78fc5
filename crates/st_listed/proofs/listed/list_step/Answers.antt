use Rattle.std.proofs.Common.{[], List, map, ap, ◌∙◌, unwrap_or}
use Rattle.std.specs.BTreeMap.{get}
use Rattle.st_ids.specs.Order.{node_cmp}
use Rattle.st_marks.specs.declared.marks.RowMarks.{RowMarks}
use Rattle.st_listed.specs.inside.Rows.{step_row}
use Rattle.st_listed.proofs.WholeNamed.{step_is}
use Rattle.st_listed.proofs.listed.list_step.Goals as goal

pub returns : goal.returns
returns c = λ D E stands shows.
    let f : RowMarks → RowMarks = λ r. step_row (unwrap_or (get node_cmp c.args.forest.now.rows r.node) []) r in
    step_is c.args.forest.now D E c.args.step.now _
    (ap (λ (l : List RowMarks). record c.args.step.now { rows = l }) (c.in_ok-step.ensures ∙ ap (map f) c.as_slice.ensures)) stands shows
