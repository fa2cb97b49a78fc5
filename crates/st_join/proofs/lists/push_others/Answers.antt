use Rattle.std.proofs.Common.{Bool, not, refl, ◌||◌}
use Rattle.std.specs.BTreeSet.{contains}
use Rattle.std.specs.List.{filter}
use Rattle.std.proofs.lemmas.List.Elements.{filter-append}
use Rattle.st_ids.specs.Order.{node_cmp}
use Rattle.st_ids.specs.Root.{root}
use Rattle.st_ids.specs.declared.names.NodeId.{NodeId}
use Rattle.st_join.proofs.Steps.{list_more}
use Rattle.st_join.proofs.lists.push_others.Goals as goal

pub loop-node-preserved : goal.loop-node-preserved
loop-node-preserved c =
    let p : NodeId → Bool = λ n. not (contains node_cmp c.args.new.now n || contains node_cmp c.args.needed.now n) in
    list_more (filter p) (filter-append p) c.args.list.now c.loop-node.list c.push_other.new.list c.args.nodes.now c.loop-node.node-index root _ c.loop-node-test.true refl
    c.loop-node.invariant c.in_ok-push_other.ensures
