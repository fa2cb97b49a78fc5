use Rattle.std.proofs.Common.{◌≡◌, false, take}
use Rattle.std.specs.Ordering.{is_lt}
use Rattle.st_ids.specs.Listing.{Has}
use Rattle.st_ids.specs.Order.{field_cmp}
use Rattle.st_ids.specs.declared.names.FieldId.{FieldId}
use Rattle.st_clash.proofs.fields.least_field.Given as goal

abbrev pub invariant-loop-field : goal.invariant-loop-field
invariant-loop-field l = Has l.fields l.least × ((g : FieldId) → Has (take l.field-index l.fields) g → is_lt (field_cmp g l.least) ≡ false)
