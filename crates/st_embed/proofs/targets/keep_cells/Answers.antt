use Rattle.std.proofs.Common.{refl}
use Rattle.std.specs.BTreeMap.{get}
use Rattle.st_ids.specs.Order.{same_cell, cell_cmp}
use Rattle.st_marks.specs.declared.intents.Owned.{Owned}
use Rattle.st_doc.proofs.Look.{no_cell, told_more}
use Rattle.st_embed.proofs.targets.keep_cells.Goals as goal

pub loop-owned-preserved : goal.loop-owned-preserved
unfolding same_cell
loop-owned-preserved c = λ d. told_more (λ (o : Owned). same_cell o.cell d) c.args.node (get cell_cmp c.args.rows.now d) (get cell_cmp c.loop-owned.rows d) (get cell_cmp c.keep.new.map d)
    c.args.cells.now c.loop-owned.owned-index no_cell _ c.loop-owned-test.true refl (c.loop-owned.invariant d) (c.in_ok-keep.ensures d)
