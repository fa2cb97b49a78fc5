use Rattle.std.proofs.Common.{sym, ap, ◌∙◌, subst}
use Rattle.std.specs.BTreeMap.{is_at}
use Rattle.std.specs.BTreeSet.{contains}
use Rattle.std.specs.List.{list_any}
use Rattle.st_ids.specs.Order.{node_cmp}
use Rattle.st_climb.proofs.NodesAbove.{Gathering, gather_begun, gathered, gathered_all, set_has}
use Rattle.st_climb.proofs.climb.upwards.Goals as goal

pub loop-node-init : goal.loop-node-init
loop-node-init g c =
    subst (λ l. Gathering (g.A.Above.up c.args.places.now) c.args.begins.now.keys l (contains node_cmp c.new-nodes.result)) (sym (c.into_iter-node-iterator.ensures.into_iter_gives ∙ c.iter-node-items.ensures.rest))
    (gather_begun (g.A.Above.up c.args.places.now) c.args.begins.now.keys (contains node_cmp c.new-nodes.result) (λ n. ap (list_any (is_at (node_cmp n))) c.new-nodes.ensures.empty))

pub add_upwards-requires : goal.add_upwards-requires
add_upwards-requires g c = c.loop-node.invariant.closed

pub loop-node-preserved : goal.loop-node-preserved
loop-node-preserved g c =
    gathered (g.A.Above.up c.args.places.now) c.args.begins.now.keys c.loop-node.node-iterator c.next.new.self c.in-Some.node.now (contains node_cmp c.loop-node.nodes) (contains node_cmp c.add_upwards.new.nodes)
    c.in-Some.ensures.steps c.in_ok-add_upwards.ensures c.loop-node.invariant

pub returns : goal.returns
returns g c =
    gathered_all (g.A.Above.up c.args.places.now) c.args.begins.now.keys c.loop-node.node-iterator (contains node_cmp c.args.begins.now) (contains node_cmp c.loop-node.nodes)
    c.in-None.ensures.steps.0 (set_has c.args.begins.now.keys) c.loop-node.invariant
