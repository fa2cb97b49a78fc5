use Rattle.std.proofs.Common.{◌≡◌, ◌&&◌, drop}
use Rattle.std.specs.List.{find}
use Rattle.st_ids.specs.Order.{same_node}
use Rattle.st_marks.specs.declared.intents.Group.{Group}
use Rattle.st_marks.specs.Intent.{cells_of, group_at, same_anchor}
use Rattle.st_doc.proofs.rows.cells_at.Given as goal

abbrev pub invariant-loop-group : goal.invariant-loop-group
invariant-loop-group l = cells_of (find (λ (g : Group). same_node g.node l.node && same_anchor g.after l.after) (drop l.group-index l.group-items)) ≡ group_at l.intent l.node l.after
