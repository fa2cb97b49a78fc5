use Rattle.std.proofs.Common.{◌≡◌, take}
use Rattle.std.specs.BTreeMap.{get}
use Rattle.st_ids.specs.declared.names.CellId.{CellId as Cell}
use Rattle.st_ids.specs.Order.{cell_cmp}
use Rattle.st_tree.specs.declared.flat.FlatNode.{FlatNode as Flat}
use Rattle.st_opening.specs.Start.{first_said, row_at}
use Rattle.st_doc.proofs.start.start_row_of.Given as goal

abbrev pub invariant-loop-x : goal.invariant-loop-x
invariant-loop-x l = (c : Cell) → get cell_cmp l.row_of c ≡ first_said (λ (x : Flat). row_at c x.at) (take l.x-index l.flat)
