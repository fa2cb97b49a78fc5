-- the marks so far are written
use Rattle.std.proofs.Common.{◌≡◌, map, take}
use Rattle.serde_json.specs.View.{view}
use Rattle.st_change_codec.specs.Changes.{mark_data}
use Rattle.st_change_codec.proofs.marks.marks_value.Given as goal

abbrev pub invariant-loop-mark : goal.invariant-loop-mark
invariant-loop-mark l = map view l.items.items ≡ map mark_data (take l.mark-index l.mark-items)
