use Rattle.std.proofs.Common.{◌∙◌, ap, None}
use Rattle.std.specs.BTreeMap.{get}
use Rattle.std.specs.Option.{option_or}
use Rattle.st_ids.specs.Order.{field_cmp, same_field}
use Rattle.st_doc.proofs.Evicting.{filled}
use Rattle.st_embed.proofs.wants.keep_fill.Goals as goal

pub returns-in-Register : goal.returns-in-Register
unfolding same_field
returns-in-Register c = λ f.
    c.in_ok-keep.ensures f ∙ ap (option_or (get field_cmp c.args.fills.now f)) (filled f c.in-Register.field c.in_ok-copy.field-0 c.args.put.now.to c.args.put.now.node None c.in_ok-copy.ensures c.in-Register.is)
