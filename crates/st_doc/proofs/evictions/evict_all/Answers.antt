use Rattle.std.proofs.Common.{sym, ap, ◌∙◌, cond, None, Some, take_all, arith}
use Rattle.std.specs.BTreeMap.{get}
use Rattle.std.specs.Option.{option_or}
use Rattle.st_ids.specs.Order.{field_cmp, node_cmp}
use Rattle.st_marks.specs.declared.places.Spot.{Spot}
use Rattle.st_doc.specs.inside.Evictions.{is_held, spot_if_cleared}
use Rattle.st_doc.proofs.Evicting.{evicted_one}
use Rattle.st_doc.proofs.evictions.evict_all.Goals as goal

pub loop-field-preserved : goal.loop-field-preserved
loop-field-preserved c = λ place one n.
    let field = c.field-item.result in
    let held = get field_cmp c.args.held.now field in
    c.in_ok-evict.ensures n ∙ ap (λ o. option_or o (cond (is_held held n) (Some Spot.Nowhere) None)) (c.loop-field.invariant place one n)
    ∙ evicted_one c.as_slice-field-items.result.now c.loop-field.field-index field c.loop-field-test.true (sym c.field-item.is) held n (place n) (one n field) (get node_cmp c.args.targets.now n)

pub returns : goal.returns
returns c = λ place one n.
    c.loop-field.invariant place one n ∙ ap (λ fs. option_or (get node_cmp c.args.targets.now n) (spot_if_cleared fs (place n))) (take_all _ _ (omega arith) ∙ c.as_slice-field-items.ensures)
