use Rattle.std.proofs.Common.{◌≡◌, take}
use Rattle.std.specs.BTreeMap.{get}
use Rattle.std.specs.List.{find}
use Rattle.std.specs.Option.{option_or}
use Rattle.st_ids.specs.Order.{node_cmp}
use Rattle.st_ids.specs.declared.names.NodeId.{NodeId as Node}
use Rattle.st_doc.specs.Doc.{document_of}
use Rattle.st_makers.specs.inside.Homes.{stands_in}
use Rattle.st_makers.proofs.opening.add_registers.Given as goal

abbrev pub invariant-loop-field : goal.invariant-loop-field
invariant-loop-field l = (n : Node) → get node_cmp l.homes n ≡ option_or (get node_cmp l.initial.homes n) (find (stands_in (document_of l.doc) n) (take l.field-index l.fields))
