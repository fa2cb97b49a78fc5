-- the nodes so far are written
use Rattle.std.proofs.Common.{◌≡◌, map, take}
use Rattle.serde_json.specs.View.{view}
use Rattle.st_change_codec.specs.Changes.{loose_data}
use Rattle.st_change_codec.proofs.marks.all_loose_value.Given as goal

abbrev pub invariant-loop-one : goal.invariant-loop-one
invariant-loop-one l = map view l.items.items ≡ map loose_data (take l.one-index l.one-items)
