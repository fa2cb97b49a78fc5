-- the causes so far
use Rattle.std.proofs.Common.{◌≡◌, map, take}
use Rattle.serde_json.specs.View.{view}
use Rattle.st_compat.specs.RelationText.{cause_data}
use Rattle.st_compat.proofs.text.causes_value.Given as goal

abbrev pub invariant-loop-cause : goal.invariant-loop-cause
invariant-loop-cause l = map view l.items.items ≡ map cause_data (take l.cause-index l.cause-items)
