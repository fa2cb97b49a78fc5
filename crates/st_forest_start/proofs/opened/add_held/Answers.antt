use Rattle.std.proofs.Common.{◌∙◌, cond, Some, None, sym, ap}
use Rattle.std.specs.BTreeMap.{get}
use Rattle.std.specs.Option.{option_or}
use Rattle.st_ids.specs.Order.{field_cmp, same_field}
use Rattle.st_opening.specs.Start.{held_at}
use Rattle.st_forest_start.proofs.opened.add_held.Goals as goal

pub returns-in-Register : goal.returns-in-Register
unfolding same_field
returns-in-Register c = λ f.
    c.in_ok-add.ensures f
    ∙ ap (λ g. option_or (get field_cmp c.args.held.now f) (cond (same_field g f) (Some c.args.node) None)) c.in_ok-copy.ensures
    ∙ ap (λ at. option_or (get field_cmp c.args.held.now f) (held_at f c.args.node at)) (sym c.in-Register.is)
