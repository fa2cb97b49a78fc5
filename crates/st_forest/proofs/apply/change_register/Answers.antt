use Rattle.std.proofs.Common.{ap, cond, Some, sym, ◌∙◌}
use Rattle.std.specs.BTreeMap.{get}
use Rattle.st_ids.specs.Order.{field_cmp, same_field}
use Rattle.st_forest.proofs.apply.change_register.Goals as goal

pub returns-in-None : goal.returns-in-None
unfolding same_field
returns-in-None c = λ f.
    c.remove.ensures.updates.0 f ∙ ap (λ o. cond (same_field c.args.register.now.field f) o (get field_cmp c.args.held.now f)) (sym c.in-None.is)

pub returns-in_ok-set-in-Some : goal.returns-in_ok-set-in-Some
unfolding same_field
returns-in_ok-set-in-Some c = λ f.
    c.in_ok-set-in-Some.ensures f
    ∙ ap (λ g. cond (same_field g f) (Some c.in-Some.node) (get field_cmp c.args.held.now f)) c.in_ok-field-in-Some.ensures
    ∙ ap (λ o. cond (same_field c.args.register.now.field f) o (get field_cmp c.args.held.now f)) (sym c.in-Some.is)
