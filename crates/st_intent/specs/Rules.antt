-- The rules of an intent as tests.
use Rattle.std.specs.Prelude.{Bool, List}
use Rattle.std.specs.List.{list_any}
use Rattle.st_ids.specs.Order.{same_node, same_cell}
use Rattle.st_ids.specs.declared.names.CellId.{CellId}
use Rattle.st_ids.specs.declared.names.NodeId.{NodeId}
use Rattle.st_marks.specs.declared.intents.Group.{Group}
use Rattle.st_marks.specs.declared.intents.Intent.{Intent}
use Rattle.st_marks.specs.declared.intents.Owned.{Owned}
use Rattle.st_marks.specs.declared.intents.Put.{Put}

-- one of the groups has a cell of that name
abbrev pub makes : List Group → CellId → Bool
makes gs c = list_any (λ (g : Group). list_any (λ (o : Owned). same_cell o.cell c) g.cells) gs

-- whether a node is put
abbrev pub is_put : Intent → NodeId → Bool
is_put N n = list_any (λ (p : Put). same_node p.node n) N.put
