-- In whose row a cell is, looked for in the rows of some nodes, and the names of an intent.
use Rattle.std.specs.Prelude.{List, ◌++◌, map, Option, option_and_then, Bool, false, not}
use Rattle.std.specs.List.{filter_map, find, list_any}
use Rattle.st_ids.specs.Order.{same_cell}
use Rattle.st_ids.specs.declared.names.CellId.{CellId}
use Rattle.st_ids.specs.declared.names.NodeId.{NodeId}
use Rattle.st_ids.specs.declared.names.FieldId.{FieldId}
use Rattle.st_marks.specs.declared.intents.Group.{Group}
use Rattle.st_marks.specs.declared.intents.Intent.{Intent}
use Rattle.st_marks.specs.declared.intents.Owned.{Owned}
use Rattle.st_marks.specs.declared.intents.Put.{Put}
use Rattle.st_marks.specs.declared.intents.To.{To}
use Rattle.st_marks.specs.Document.{Document}
use Rattle.st_marks.specs.Intent.{cell_of}

-- the first of the nodes in whose row it is
abbrev pub row_among : Document → List NodeId → CellId → Option NodeId
row_among D nodes c = find (λ n. list_any (λ (o : Owned). same_cell o.cell c) (D.rows n)) nodes

-- the nodes that a document has in whose rows the cells are that an intent's puts lead to
abbrev pub targets_in : Document → Intent → List NodeId
targets_in D N = filter_map (λ (p : Put). option_and_then D.row_of (cell_of p.to)) N.put

-- whether a put leads to a cell that isn't made
abbrev pub leads_to_old : (CellId → Bool) → To → Bool
leads_to_old made To.Nowhere = false
leads_to_old made (To.Cell c) = not (made c)
leads_to_old made (To.Register f) = false

-- whether one of some groups has a cell
abbrev pub makes : List Group → CellId → Bool
makes groups c = list_any (λ (g : Group). list_any (λ (o : Owned). same_cell o.cell c) g.cells) groups

-- the nodes that an intent names, where some are those in whose rows the cells are that its puts lead to
abbrev pub names_with : Intent → List NodeId → List NodeId
names_with N targets = map (λ (p : Put). p.node) N.put ++ N.need ++ map (λ (g : Group). g.node) N.groups ++ targets ++ map (λ (f : FieldId). f.node) N.clear
