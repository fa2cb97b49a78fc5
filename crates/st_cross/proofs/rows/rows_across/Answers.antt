use Rattle.std.proofs.Common.{◌||◌, Bool, List, refl, sym, ◌∙◌}
use Rattle.std.specs.BTreeMap.{get}
use Rattle.std.specs.BTreeSet.{contains}
use Rattle.std.specs.List.{list_any}
use Rattle.std.specs.Ordering.{is_eq}
use Rattle.st_ids.specs.Order.{node_cmp}
use Rattle.st_ids.proofs.Orders.{node_cmp_exact, node_cmp_total}
use Rattle.st_ids.specs.declared.names.NodeId.{NodeId}
use Rattle.st_marks.specs.declared.marks.RowMarks.{RowMarks}
use Rattle.st_moves.proofs.Indices.{not_listed}
use Rattle.st_moves.proofs.OrderedNames.{listing}
use Rattle.st_moves.proofs.RowNames.{either_none}
use Rattle.st_over.specs.Across.{row_across}
use Rattle.st_cross.specs.Fields.{placed_in, row_at}
use Rattle.st_cross.proofs.Fields.{row_named}
use Rattle.st_cross.proofs.rows.rows_across.Goals as goal

pub returns : goal.returns
returns g c =
    let l = g.R.Reading.listed in
    let was = c.args.across.now.was in
    let is = c.args.across.now.is in
    let made = contains node_cmp c.args.across.now.made.now in
    let t = get node_cmp c.args.across.now.puts.now in
    let cs = c.args.change.now in
    let ss = c.args.step.now in
    let key = λ (r : RowMarks). r.node in
    let listed : List RowMarks → NodeId → Bool = λ rows q. list_any (λ (r : RowMarks). is_eq (node_cmp r.node q)) rows in
    let look = row_at l was is made t cs ss in
    listing node_cmp node_cmp_exact key look (row_named l was is made t cs ss) c.in_ok-nodes.nodes.keys c.in_ok-list.list look c.in_ok-list.ensures.ordered c.in_ok-list.ensures.rows
    (λ q there. refl)
    (λ q e.
    let none = either_none (listed cs q) (listed ss q) (sym (c.in_ok-nodes.ensures q ∙ (λ i. listed (c.as_slice.ensures i) q || listed (c.as_slice-2.ensures i) q)) ∙ e) in
    (λ i. row_across l was is (placed_in made q) t q (not_listed node_cmp node_cmp_total key cs q none.0 i) (not_listed node_cmp node_cmp_total key ss q none.1 i)))
