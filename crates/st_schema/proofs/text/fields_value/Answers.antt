use Rattle.std.proofs.Common.{◌∙◌, ap}
use Rattle.st_schema.specs.Schema.{defs_rise}
use Rattle.st_schema.proofs.Putting.{field_written, fields_written}
use Rattle.st_schema.proofs.text.fields_value.Goals as goal

pub loop-field-preserved : goal.loop-field-preserved
loop-field-preserved c =
    field_written c.as_slice-field-items.result.now c.loop-field.field-index c.field-item.result c.loop-field.members.entries c.insert.new.self.entries c.in_ok-from_str.field-0 c.in_ok-value.value
    (ap (defs_rise _) c.as_slice-field-items.ensures ∙ c.requires) c.loop-field-test.true c.field-item.is c.loop-field.invariant
    (c.in_ok-from_str.ensures.ok ∙ c.as_str.ensures) c.in_ok-value.ensures c.in_ok-insert.ensures.entries

pub returns : goal.returns
returns c = fields_written c.loop-field.members c.args.fields.now c.as_slice-field-items.result.now c.loop-field.field-index c.as_slice-field-items.ensures c.loop-field-test.false c.loop-field.invariant
