use Rattle.std.proofs.Common.{ap, get_or, refl, ◌∙◌, ◌++◌}
use Rattle.std.specs.BTreeSet.{contains}
use Rattle.st_ids.specs.Order.{cell_cmp, node_cmp}
use Rattle.st_marks.specs.declared.marks.Mark.{Mark}
use Rattle.st_clash.proofs.LeastFields.{flat_more}
use Rattle.st_turn_names.specs.inside.Early.{early_by}
use Rattle.st_turn_names.proofs.owners.add_early.Goals as goal

pub loop-mark-preserved : goal.loop-mark-preserved
loop-mark-preserved c =
    flat_more (early_by (contains node_cmp c.args.made.now.nodes) (contains cell_cmp c.args.made.now.cells)) c.args.list.now c.loop-mark.list c.push_if_some.new.list c.args.marks.now c.loop-mark.mark-index
    (Mark.Skip 0) (get_or c.args.marks.now c.loop-mark.mark-index (Mark.Skip 0)) c.loop-mark-test.true refl c.loop-mark.invariant
    (c.in_ok-push_if_some.ensures ∙ ap (λ l. c.loop-mark.list ++ l) c.early_of.ensures)
