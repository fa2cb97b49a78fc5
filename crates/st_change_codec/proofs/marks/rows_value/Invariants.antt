-- the rows so far are written
use Rattle.std.proofs.Common.{◌≡◌, map, take}
use Rattle.serde_json.specs.View.{view}
use Rattle.st_change_codec.specs.Changes.{row_data}
use Rattle.st_change_codec.proofs.marks.rows_value.Given as goal

abbrev pub invariant-loop-row : goal.invariant-loop-row
invariant-loop-row l = map view l.items.items ≡ map row_data (take l.row-index l.row-items)
