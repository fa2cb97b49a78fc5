use Rattle.std.proofs.Common.{◌&&◌, ◌||◌, not, ap, ◌∙◌}
use Rattle.std.specs.BTreeSet.{contains}
use Rattle.std.specs.List.{list_any}
use Rattle.st_ids.specs.Order.{node_cmp, same_node}
use Rattle.st_ids.specs.declared.names.NodeId.{NodeId}
use Rattle.st_climb.proofs.GrownSets.{any_without, set_all, set_left}
use Rattle.st_climb.proofs.sets.without.Goals as goal

pub loop-node-preserved : goal.loop-node-preserved
loop-node-preserved c = λ n.
    let p = λ (k : NodeId). same_node k n && not (contains node_cmp c.args.others.now k) in
    set_left p (contains node_cmp c.loop-node.set n) (contains node_cmp c.add_one.new.set n) (list_any p c.args.nodes.now.keys)
    c.loop-node.node-iterator c.next.new.self c.in-Some.node.now c.in-Some.ensures.steps
    (c.in_ok-add_one.ensures n ∙ ap (λ b. contains node_cmp c.loop-node.set n || b) (c.unless_in.ensures n)) (c.loop-node.invariant n)

pub returns : goal.returns
unfolding same_node
returns c = λ n.
    let p = λ (k : NodeId). same_node k n && not (contains node_cmp c.args.others.now k) in
    set_all p (contains node_cmp c.loop-node.set n) (list_any p c.args.nodes.now.keys) c.loop-node.node-iterator c.in-None.ensures.steps.0 (c.loop-node.invariant n)
    ∙ any_without (contains node_cmp c.args.others.now) c.args.nodes.now.keys n
