use Rattle.std.proofs.Common.{◌≡◌, drop, option_map}
use Rattle.std.specs.List.{find, list_any}
use Rattle.st_ids.specs.Order.{same_cell}
use Rattle.st_marks.specs.declared.intents.Group.{Group}
use Rattle.st_marks.specs.declared.intents.Owned.{Owned}
use Rattle.st_marks.specs.Intent.{new_row_of}
use Rattle.st_intent.proofs.finds.new_row_of.Given as goal

abbrev pub invariant-loop-group : goal.invariant-loop-group
invariant-loop-group l = option_map (λ (g : Group). g.node) (find (λ (g : Group). list_any (λ (o : Owned). same_cell o.cell l.cell) g.cells) (drop l.group-index l.group-items)) ≡ new_row_of l.intent l.cell
