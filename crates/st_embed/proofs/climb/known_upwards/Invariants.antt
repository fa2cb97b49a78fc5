use Rattle.std.proofs.Common.{take}
use Rattle.std.specs.BTreeSet.{contains}
use Rattle.st_ids.specs.Order.{node_cmp}
use Rattle.st_doc.specs.Doc.{document_of}
use Rattle.st_embed.specs.inside.Upwards.{AreAbove}
use Rattle.st_embed.proofs.climb.known_upwards.Given as goal

abbrev pub invariant-loop-node : goal.invariant-loop-node
invariant-loop-node l = AreAbove (document_of l.doc) (take l.node-index l.names) (contains node_cmp l.nodes)
