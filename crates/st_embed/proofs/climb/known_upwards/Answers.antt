use Rattle.std.proofs.Common.{refl, get_or, take}
use Rattle.std.specs.BTreeSet.{contains}
use Rattle.st_ids.specs.Order.{node_cmp}
use Rattle.st_ids.specs.Root.{root}
use Rattle.st_doc.specs.Doc.{document_of}
use Rattle.st_embed.proofs.Climbing.{above_closed, above_more}
use Rattle.st_embed.proofs.climb.known_upwards.Goals as goal

pub add_known-requires : goal.add_known-requires
add_known-requires c = above_closed (document_of c.args.doc.now) (take c.loop-node.node-index c.args.names.now) (contains node_cmp c.loop-node.nodes) c.loop-node.invariant

pub loop-node-preserved : goal.loop-node-preserved
loop-node-preserved c =
    above_more (document_of c.args.doc.now) c.args.names.now c.loop-node.node-index root (get_or c.args.names.now c.loop-node.node-index root) (contains node_cmp c.loop-node.nodes) (contains node_cmp c.add_known.new.nodes)
    c.loop-node-test.true refl c.loop-node.invariant c.in_ok-add_known.ensures
