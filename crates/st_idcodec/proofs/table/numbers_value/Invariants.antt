-- what is past is written
use Rattle.std.proofs.Common.{◌≡◌, map, take}
use Rattle.serde_json.specs.View.{view}
use Rattle.st_idcodec.specs.TableText.{plain_number}
use Rattle.st_idcodec.proofs.table.numbers_value.Given as goal

abbrev pub invariant-loop-number : goal.invariant-loop-number
invariant-loop-number l = map view l.items.items ≡ map plain_number (take l.number-index l.numbers)
