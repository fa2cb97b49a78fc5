use Rattle.std.proofs.Common.{◌≡◌, ◌≤◌, drop, length}
use Rattle.std.specs.BTreeMap.{get}
use Rattle.std.specs.BTreeSet.{contains}
use Rattle.st_ids.specs.Order.{node_cmp, cell_cmp}
use Rattle.st_ids.specs.declared.names.NodeId.{NodeId}
use Rattle.st_doc.specs.Doc.{document_of}
use Rattle.st_doc.proofs.Placing.{put_by}
use Rattle.st_heads.specs.inside.GoingBack.{back_by}
use Rattle.st_heads.proofs.back.put_all_back.Given as goal

abbrev pub invariant-loop-left : goal.invariant-loop-left
invariant-loop-left l = record {
  within : l.left ≤ length l.puts;
  told : (n : NodeId) → get node_cmp l.back n ≡ back_by (document_of l.doc) (contains cell_cmp l.names) n (put_by (drop l.left l.puts) n) (get node_cmp l.initial.back n);
}

abbrev pub decreases-loop-left : goal.decreases-loop-left
decreases-loop-left l = l.left
