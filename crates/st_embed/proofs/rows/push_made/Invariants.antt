use Rattle.std.proofs.Common.{◌≡◌, ◌++◌, map, take}
use Rattle.std.specs.BTreeMap.{get}
use Rattle.st_ids.specs.Order.{node_cmp}
use Rattle.st_embed.specs.inside.Marks.{made_mark}
use Rattle.st_embed.proofs.rows.push_made.Given as goal

abbrev pub invariant-loop-owned : goal.invariant-loop-owned
invariant-loop-owned l = l.marks ≡ l.initial.marks ++ map (made_mark (get node_cmp l.wants.targets)) (take l.owned-index l.cells)
