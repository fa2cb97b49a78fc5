use Rattle.std.proofs.Common.{◌∙◌}
use Rattle.st_tree.specs.inside.Node.{field_view}
use Rattle.st_schema.proofs.Walking.{field_whole}
use Rattle.st_schema.proofs.Writing.{item_written, row_written, member_written, members_written, field_put, node_written}
use Rattle.st_schema.proofs.tree_write.+writing.Goals as goal

pub tree_value-returns-in_ok-body-in-None : goal.tree_value-returns-in_ok-body-in-None
tree_value-returns-in_ok-body-in-None t c =
    node_written c.one_member.result c.args.tree.now c.as_str.result.now c.in_ok-body-in-None.body c.in-None.is c.as_str.ensures c.in_ok-body-in-None.ensures c.one_member.ensures

pub row_value-loop-item-preserved : goal.row_value-loop-item-preserved
row_value-loop-item-preserved t c =
    item_written c.as_slice-item-items.result.now c.loop-item.item-index c.item-item.result c.loop-item.items.items c.push.new.self.items c.in_ok-tree_value.field-0
    c.loop-item-test.true c.item-item.is c.in_ok-tree_value.ensures c.in_ok-push.ensures.items c.loop-item.invariant

pub row_value-returns : goal.row_value-returns
row_value-returns t c =
    let ts = c.as_slice-item-items.result.now in
    row_written c.loop-item.items ts c.loop-item.item-index (field_view c.args.field.now).items (field_whole c.args.field.now ts c.as_slice-item-items.ensures) c.loop-item-test.false c.loop-item.invariant

pub members_value-loop-field-preserved : goal.members_value-loop-field-preserved
members_value-loop-field-preserved t c =
    member_written c.as_slice-field-items.result.now c.loop-field.field-index c.field-item.result c.loop-field.members.entries c.put_field.new.members.entries
    c.loop-field-test.true c.field-item.is c.in_ok-put_field.ensures c.loop-field.invariant

pub members_value-returns : goal.members_value-returns
members_value-returns t c = members_written c.loop-field.members c.args.fields.now c.as_slice-field-items.result.now c.loop-field.field-index c.as_slice-field-items.ensures c.loop-field-test.false c.loop-field.invariant

pub put_field-returns-in_ok-insert-in-len1-up : goal.put_field-returns-in_ok-insert-in-len1-up
put_field-returns-in_ok-insert-in-len1-up t c =
    field_put c.args.field.now c.as_slice.result.now c.item-item.result c.in_ok-value-in-len1-up.value c.in_ok-key-in-len1-up.key c.args.members.now.entries c.insert.new.self.entries
    c.in-len1-up.len_at_least c.item-item.is c.as_slice.ensures c.in_ok-value-in-len1-up.ensures (c.in_ok-key-in-len1-up.ensures.ok ∙ c.as_str.ensures) c.in_ok-insert-in-len1-up.ensures.entries
