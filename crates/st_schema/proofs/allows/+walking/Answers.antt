use Rattle.std.proofs.Common.{◌≡◌, ◌∙◌, ◌+◌, sym, ap, arith}
use Rattle.std.specs.Option.{option_copied}
use Rattle.st_tree.specs.Node.{view, trees_view}
use Rattle.st_tree.specs.inside.Node.{field_view, fields_view}
use Rattle.st_tree.specs.Size.{item_count, field_count}
use Rattle.st_schema.specs.Conforms.{types_under, verdicts, fields_verdicts, items_verdicts}
use Rattle.st_schema.specs.inside.Conforms.{walk_over}
use Rattle.st_schema.specs.declared.allows.Walk.{Walk}
use Rattle.st_schema.proofs.Walking.{items_next, items_end, fields_next, fields_end, items_number, items_walked, fields_number, fields_walked, field_whole, field_key, tree_number, tree_walked}
use Rattle.st_schema.proofs.allows.+walking.Goals as goal

-- ---- the items of a field

pub walk_field-loop-item-preserved : goal.walk_field-loop-item-preserved
walk_field-loop-item-preserved t c =
    let s = c.args.schema.now in
    let types = c.args.types.now in
    let ts = c.as_slice-item-items.result.now in
    let next = items_next ts c.loop-item.item-index c.item-item.result c.loop-item-test.true c.item-item.is in record {
      number = items_number s types _ _ (view c.item-item.result) next c.loop-item.now.next c.walk_tree-now.result.next (c.args.walk.next + item_count (trees_view ts)) c.walk_tree-now.ensures.counted c.loop-item.invariant.number;
      walked = items_walked s types _ _ (view c.item-item.result) next c.loop-item.now c.walk_tree-now.result (walk_over c.args.walk (items_verdicts s types (trees_view ts))) c.walk_tree-now.ensures.walked c.loop-item.invariant.walked;
    }

pub walk_field-returns-clause-walked : goal.walk_field-returns-clause-walked
walk_field-returns-clause-walked t c =
    let s = c.args.schema.now in
    let types = c.args.types.now in
    let ts = c.as_slice-item-items.result.now in
    ap (λ us. walk_over c.loop-item.now (items_verdicts s types us)) (sym (items_end ts c.loop-item.item-index c.loop-item-test.false))
    ∙ c.loop-item.invariant.walked
    ∙ ap (λ us. walk_over c.args.walk (items_verdicts s types us)) (sym (field_whole c.args.field.now ts c.as_slice-item-items.ensures))

pub walk_field-returns-clause-counted : goal.walk_field-returns-clause-counted
walk_field-returns-clause-counted t c =
    let ts = c.as_slice-item-items.result.now in
    omega (arith, c.loop-item.invariant.number, ap item_count (items_end ts c.loop-item.item-index c.loop-item-test.false), ap item_count (field_whole c.args.field.now ts c.as_slice-item-items.ensures))

-- ---- the fields of a node

pub walk_tree-loop-field-init : goal.walk_tree-loop-field-init
walk_tree-loop-field-init t c =
    let s = c.args.schema.now in
    let form = option_copied c.form-form.result in
    let fs = c.as_slice-field-items.result.now in
    let counted : c.walk_on-now.result.next ≡ c.args.walk.next + 1 = ap (λ (w : Walk). w.next) c.walk_on-now.ensures in record {
      number = omega arith;
      walked = ap (λ w. walk_over w (fields_verdicts s form (fields_view fs))) c.walk_on-now.ensures
          ∙ tree_walked s c.args.types.now c.args.tree.now fs form c.node_fits.result c.args.walk c.as_slice-field-items.ensures c.form-form.ensures c.node_fits.ensures;
    }

pub walk_tree-loop-field-preserved : goal.walk_tree-loop-field-preserved
walk_tree-loop-field-preserved t c =
    let s = c.args.schema.now in
    let form = option_copied c.form-form.result in
    let fs = c.as_slice-field-items.result.now in
    let f = field_view c.field-item.result in
    let next = fields_next fs c.loop-field.field-index c.field-item.result c.loop-field-test.true c.field-item.is in
    let allowed = c.types_under.ensures ∙ ap (types_under form) (sym (field_key c.field-item.result)) in record {
      number = fields_number s form _ _ f.key f.row f.items next c.loop-field.now.next c.walk_field-now.result.next (c.args.walk.next + 1 + field_count (fields_view fs)) c.walk_field-now.ensures.counted c.loop-field.invariant.number;
      walked = fields_walked s form _ _ f.key f.row f.items next c.types_under.result.now c.loop-field.now c.walk_field-now.result (walk_over c.args.walk (verdicts s c.args.types.now (view c.args.tree.now))) allowed c.walk_field-now.ensures.walked c.loop-field.invariant.walked;
    }

pub walk_tree-returns-clause-walked : goal.walk_tree-returns-clause-walked
walk_tree-returns-clause-walked t c =
    let s = c.args.schema.now in
    let form = option_copied c.form-form.result in
    let fs = c.as_slice-field-items.result.now in
    ap (λ us. walk_over c.loop-field.now (fields_verdicts s form us)) (sym (fields_end fs c.loop-field.field-index c.loop-field-test.false))
    ∙ c.loop-field.invariant.walked

pub walk_tree-returns-clause-counted : goal.walk_tree-returns-clause-counted
walk_tree-returns-clause-counted t c =
    let fs = c.as_slice-field-items.result.now in
    omega (arith, c.loop-field.invariant.number, ap field_count (fields_end fs c.loop-field.field-index c.loop-field-test.false), tree_number c.args.tree.now fs c.as_slice-field-items.ensures)
