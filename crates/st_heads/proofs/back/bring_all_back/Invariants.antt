use Rattle.std.proofs.Common.{◌≡◌, take}
use Rattle.std.specs.BTreeMap.{get}
use Rattle.st_ids.specs.Order.{node_cmp}
use Rattle.st_ids.specs.declared.names.NodeId.{NodeId}
use Rattle.st_doc.specs.Doc.{document_of}
use Rattle.st_heads.specs.inside.GoingBack.{if_evicted}
use Rattle.st_heads.proofs.back.bring_all_back.Given as goal

abbrev pub invariant-loop-field : goal.invariant-loop-field
invariant-loop-field l = (n : NodeId) → get node_cmp l.back n ≡ if_evicted (take l.field-index l.field-items) ((document_of l.doc).place n)
