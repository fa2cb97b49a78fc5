use Rattle.std.proofs.Common.{◌∙◌, ap}
use Rattle.std.specs.BTreeMap.{get}
use Rattle.st_ids.specs.Order.{node_cmp, same_node}
use Rattle.st_doc.specs.Nodes.{type_of}
use Rattle.st_doc.proofs.Starting.{added_type}
use Rattle.st_doc.proofs.start.add_node.Goals as goal

pub returns : goal.returns
unfolding same_node
returns c = λ n.
    ap type_of (c.in_ok-add.ensures n)
    ∙ added_type n c.args.flat.now (record { node = c.args.flat.now.node; ty = c.in_ok-ty.ty; leaf = c.in_ok-leaf.leaf }) (get node_cmp c.args.nodes.now n) c.in_ok-ty.ensures c.in_ok-leaf.ensures
