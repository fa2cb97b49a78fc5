use Rattle.std.proofs.Common.{◌∙◌}
use Rattle.std.specs.BTreeMap.{get}
use Rattle.st_ids.specs.Order.{field_cmp, same_field}
use Rattle.st_doc.proofs.Evicting.{filled}
use Rattle.st_doc.proofs.evictions.fill.Goals as goal

pub returns-in-Register : goal.returns-in-Register
unfolding same_field
returns-in-Register c = λ f.
    c.in_ok-set.ensures f ∙ filled f c.in-Register.field c.in_ok-copy.field-0 c.args.put.now.to c.args.put.now.node (get field_cmp c.args.held.now f) c.in_ok-copy.ensures c.in-Register.is
