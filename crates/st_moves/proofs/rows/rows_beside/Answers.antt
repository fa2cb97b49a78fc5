use Rattle.std.proofs.Common.{◌++◌, ◌∙◌, ap}
use Rattle.std.specs.BTreeMap.{get}
use Rattle.std.specs.BTreeSet.{contains}
use Rattle.std.specs.List.{filter_map}
use Rattle.std.specs.Option.{option_to_list}
use Rattle.st_ids.specs.Order.{node_cmp}
use Rattle.st_moves.specs.inside.Rows.{row_beside}
use Rattle.st_moves.proofs.NamesLeft.{listed_all, listed_left}
use Rattle.st_moves.proofs.rows.rows_beside.Goals as goal

pub loop-node-preserved : goal.loop-node-preserved
loop-node-preserved c =
    let f = row_beside (get node_cmp c.args.puts.now) (contains node_cmp c.args.named.now) c.args.change.now.rows.now c.args.step.now.rows.now in
    listed_left f c.loop-node.list c.push_if_some.new.list (filter_map f c.args.nodes.now.keys) c.loop-node.node-iterator c.next.new.self c.in-Some.node.now c.in-Some.ensures.steps
    (c.in_ok-push_if_some.ensures ∙ ap (λ o. c.loop-node.list ++ option_to_list o) c.in_ok-row.ensures) c.loop-node.invariant

pub returns-clause-rows : goal.returns-clause-rows
returns-clause-rows c =
    let f = row_beside (get node_cmp c.args.puts.now) (contains node_cmp c.args.named.now) c.args.change.now.rows.now c.args.step.now.rows.now in
    listed_all f c.loop-node.list (filter_map f c.args.nodes.now.keys) c.loop-node.node-iterator c.in-None.ensures.steps.0 c.loop-node.invariant
