use Rattle.std.proofs.Common.{[], ◌++◌, ap, sym, ◌∙◌}
use Rattle.std.specs.BTreeSet.{contains}
use Rattle.std.specs.List.{flat_map}
use Rattle.st_ids.specs.Order.{cell_cmp, node_cmp}
use Rattle.st_marks.specs.declared.marks.RowMarks.{RowMarks}
use Rattle.st_clash.proofs.LeastFields.{flat_more}
use Rattle.st_turn_names.specs.inside.Early.{early_by}
use Rattle.st_turn_names.proofs.owners.early_in_rows.Goals as goal

pub loop-row-preserved : goal.loop-row-preserved
loop-row-preserved c =
    flat_more (λ (r : RowMarks). flat_map (early_by (contains node_cmp c.args.made.now.nodes) (contains cell_cmp c.args.made.now.cells)) r.marks) [] c.loop-row.list c.add_early.new.list c.args.rows.now c.loop-row.row-index
    c.row-item.result c.row-item.result c.loop-row-test.true (sym c.row-item.is) c.loop-row.invariant
    (c.in_ok-add_early.ensures ∙ ap (λ ms. c.loop-row.list ++ flat_map (early_by (contains node_cmp c.args.made.now.nodes) (contains cell_cmp c.args.made.now.cells)) ms) c.as_slice.ensures)
