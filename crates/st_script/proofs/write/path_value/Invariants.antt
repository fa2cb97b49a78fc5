-- the places so far, and then those of what is left
use Rattle.std.proofs.Common.{◌≡◌, ◌++◌, drop, map}
use Rattle.serde_json.specs.View.{view}
use Rattle.st_script.specs.StepText.{places_data}
use Rattle.st_script.proofs.write.path_value.Given as goal

abbrev pub invariant-loop-place : goal.invariant-loop-place
invariant-loop-place l = map view l.items.items ++ places_data (drop l.place-index l.place-items) ≡ places_data l.place-items
