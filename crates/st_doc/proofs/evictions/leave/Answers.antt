use Rattle.std.proofs.Common.{sym, ap, ◌∙◌, cond, None, Some, Option, unwrap_or}
use Rattle.std.specs.BTreeMap.{get}
use Rattle.st_ids.specs.Order.{field_cmp, same_field}
use Rattle.st_marks.specs.declared.places.Spot.{Spot}
use Rattle.st_doc.specs.inside.Evictions.{stands_in}
use Rattle.st_doc.proofs.evictions.leave.Goals as goal

pub returns-in-Some-Register : goal.returns-in-Some-Register
unfolding same_field
returns-in-Some-Register c = λ f.
    c.unset.ensures f ∙ ap (λ (o : Option Spot). cond (stands_in f (unwrap_or o Spot.Nowhere)) None (get field_cmp c.args.held.now f))
    (ap (λ s. Some s) (sym c.in-Some-Register.field-0-is) ∙ c.in-Some-Register.ensures.value)
