-- what is past is written
use Rattle.std.proofs.Common.{◌≡◌, map, take}
use Rattle.serde_json.specs.View.{view}
use Rattle.st_idcodec.specs.TableText.{uuid_data}
use Rattle.st_idcodec.proofs.table.uuids_value.Given as goal

abbrev pub invariant-loop-session : goal.invariant-loop-session
invariant-loop-session l = map view l.items.items ≡ map uuid_data (take l.session-index l.sessions)
