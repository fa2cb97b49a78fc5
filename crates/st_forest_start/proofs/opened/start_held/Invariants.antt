use Rattle.std.proofs.Common.{◌≡◌, take}
use Rattle.std.specs.BTreeMap.{get}
use Rattle.st_ids.specs.declared.names.FieldId.{FieldId as Register}
use Rattle.st_ids.specs.Order.{field_cmp}
use Rattle.st_tree.specs.declared.flat.FlatNode.{FlatNode as Flat}
use Rattle.st_opening.specs.Start.{first_said, held_at}
use Rattle.st_forest_start.proofs.opened.start_held.Given as goal

abbrev pub invariant-loop-x : goal.invariant-loop-x
invariant-loop-x l = (f : Register) → get field_cmp l.held f ≡ first_said (λ (x : Flat). held_at f x.node x.at) (take l.x-index l.flat)
