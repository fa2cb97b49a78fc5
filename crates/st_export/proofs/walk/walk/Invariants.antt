use Rattle.std.proofs.Common.{◌-◌, [], ◌∷◌, length, map, IsSome}
use Rattle.st_marks.specs.Document.{Document, IsSoundInForm}
use Rattle.st_doc.specs.LiveText.{is_among}
use Rattle.st_forest.specs.Stands.{StandsFor}
use Rattle.st_export.specs.declared.walk.Visit.{Visit}
use Rattle.st_export.specs.inside.Beneath.{beneath}
use Rattle.st_export.specs.inside.Walk.{IsWalk}
use Rattle.st_export.proofs.Meeting.{Met}
use Rattle.st_export.proofs.walk.walk.Given as goal

abbrev pub invariant-loop-next : goal.invariant-loop-next
invariant-loop-next l = record {
  walk : IsWalk (beneath (is_among l.arrays) l.forest) (l.fn.node ∷ []) l.order.items l.todo.items;
  met : (D : Document) → StandsFor l.forest D → IsSoundInForm D → IsSome (D.nodes l.fn.node) → Met D l.fn.node (map (λ (v : Visit). v.node) l.order.items) l.todo.items;
}

abbrev pub decreases-loop-next : goal.decreases-loop-next
decreases-loop-next l = length l.forest.nodes.entries - length l.order.items
