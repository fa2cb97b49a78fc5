use Rattle.std.proofs.Common.{◌+◌, ◌*◌}
use Rattle.std.specs.BTreeMap.{keys}
use Rattle.std.specs.BTreeSet.{contains}
use Rattle.st_ids.specs.Order.{node_cmp}
use Rattle.st_marks.specs.Document.{above}
use Rattle.st_doc.specs.Doc.{document_of}
use Rattle.st_embed.proofs.Climbing.{Climbing, missing, flag}
use Rattle.st_embed.proofs.climb.add_upwards.Given as goal

abbrev pub invariant-loop-next : goal.invariant-loop-next
invariant-loop-next l = Climbing (above (document_of l.doc)) (contains node_cmp l.initial.nodes) (contains node_cmp l.nodes) l.fn.node l.next

abbrev pub decreases-loop-next : goal.decreases-loop-next
decreases-loop-next l = 2 * missing (keys l.doc.place) (contains node_cmp l.nodes) + flag l.next
