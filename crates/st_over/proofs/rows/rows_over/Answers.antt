use Rattle.std.proofs.Common.{refl, sym, ◌∙◌}
use Rattle.std.specs.BTreeMap.{get}
use Rattle.std.specs.BTreeSet.{contains}
use Rattle.std.specs.List.{list_any}
use Rattle.std.specs.Ordering.{is_eq}
use Rattle.st_ids.specs.Order.{node_cmp}
use Rattle.st_ids.proofs.Orders.{node_cmp_exact, node_cmp_total}
use Rattle.st_marks.specs.declared.marks.RowMarks.{RowMarks}
use Rattle.st_over.specs.inside.Rows.{row_beside, row_listed}
use Rattle.st_moves.proofs.Indices.{not_listed}
use Rattle.st_moves.proofs.OrderedNames.{listing}
use Rattle.st_moves.proofs.RowNames.{either_none}
use Rattle.st_over.proofs.ReadRows.{row_named}
use Rattle.st_over.proofs.rows.rows_over.Goals as goal

pub returns : goal.returns
returns g c =
    let P = get node_cmp c.args.aims.now.puts.now in
    let m = contains node_cmp c.args.aims.now.named.now in
    let cs = c.args.change.now in
    let ss = c.args.step.now in
    let key = λ (r : RowMarks). r.node in
    let look = row_beside g.R.Reading.listed P m cs ss in
    listing node_cmp node_cmp_exact key look (row_named g.R.Reading.listed P m cs ss) c.in_ok-nodes.nodes.keys c.in_ok-list.list look c.in_ok-list.ensures.ordered c.in_ok-list.ensures.rows
    (λ q there. refl)
    (λ q e.
    let none = either_none (list_any (λ (r : RowMarks). is_eq (node_cmp r.node q)) cs) (list_any (λ (r : RowMarks). is_eq (node_cmp r.node q)) ss) (sym (c.in_ok-nodes.ensures q) ∙ e) in
    (λ i. row_listed g.R.Reading.listed P m q (not_listed node_cmp node_cmp_total key cs q none.0 i) (not_listed node_cmp node_cmp_total key ss q none.1 i)))
