use Rattle.std.proofs.Common.{[], ◌++◌, sym, ◌∙◌, unwrap_or}
use Rattle.std.specs.BTreeMap.{get}
use Rattle.st_ids.specs.Order.{node_cmp}
use Rattle.st_edits.specs.New.{groups_under}
use Rattle.st_resolve.proofs.RowGroups.{more_groups, same_cells}
use Rattle.st_resolve.proofs.new_trees.add_groups.Goals as goal

pub loop-flat-preserved : goal.loop-flat-preserved
loop-flat-preserved c =
    let nodes = c.args.nodes.now in
    let x = c.flat-item.result in
    more_groups nodes c.loop-flat.flat-index x (unwrap_or (get node_cmp c.in_ok-rows.rows x.node) []) c.loop-flat.groups c.add_group.new.groups (c.args.groups.now ++ groups_under nodes)
    c.loop-flat-test.true (sym c.flat-item.is) (c.in_ok-rows.ensures x.node ∙ same_cells nodes x.node) c.in_ok-add_group.ensures c.loop-flat.invariant
