-- the fields so far are written
use Rattle.std.proofs.Common.{◌≡◌, take}
use Rattle.serde_json.specs.View.{members_view}
use Rattle.st_schema.specs.Written.{fields_data}
use Rattle.st_schema.proofs.text.fields_value.Given as goal

abbrev pub invariant-loop-field : goal.invariant-loop-field
invariant-loop-field l = members_view l.members.entries ≡ fields_data (take l.field-index l.field-items)
