use Rattle.std.proofs.Common.{◌≡◌, take, option_map}
use Rattle.std.specs.BTreeMap.{get}
use Rattle.std.specs.List.{find, list_any}
use Rattle.std.specs.Option.{option_or}
use Rattle.st_ids.specs.declared.names.CellId.{CellId as Cell}
use Rattle.st_ids.specs.Order.{cell_cmp, same_cell}
use Rattle.st_marks.specs.declared.intents.Group.{Group}
use Rattle.st_doc.proofs.names.add_rows.Given as goal

abbrev pub invariant-loop-group : goal.invariant-loop-group
invariant-loop-group l = (c : Cell) → get cell_cmp l.row_of c
    ≡ option_or (get cell_cmp l.initial.row_of c) (option_map (λ (g : Group). g.node) (find (λ (g : Group). list_any (λ o. same_cell o.cell c) g.cells) (take l.group-index l.group-items)))
