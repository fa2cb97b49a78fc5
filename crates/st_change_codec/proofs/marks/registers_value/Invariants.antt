-- the registers so far are written
use Rattle.std.proofs.Common.{◌≡◌, map, take}
use Rattle.serde_json.specs.View.{view}
use Rattle.st_change_codec.specs.Changes.{register_data}
use Rattle.st_change_codec.proofs.marks.registers_value.Given as goal

abbrev pub invariant-loop-register : goal.invariant-loop-register
invariant-loop-register l = map view l.items.items ≡ map register_data (take l.register-index l.register-items)
