use Rattle.std.proofs.Common.{◌≡◌, Option, option_map, take}
use Rattle.std.specs.BTreeMap.{get}
use Rattle.std.specs.List.{find}
use Rattle.st_ids.specs.declared.names.CellId.{CellId}
use Rattle.st_ids.specs.declared.names.NodeId.{NodeId}
use Rattle.st_marks.specs.declared.intents.Group.{Group}
use Rattle.st_embed.specs.inside.Places.{is_at_place, place_cmp}
use Rattle.st_embed.proofs.wants.cells_of.Given as goal

abbrev pub invariant-loop-group : goal.invariant-loop-group
invariant-loop-group l = (n : NodeId) (a : Option CellId) → get place_cmp l.cells (n, a) ≡ option_map (λ (g : Group). g.cells) (find (is_at_place n a) (take l.group-index l.group-items))
