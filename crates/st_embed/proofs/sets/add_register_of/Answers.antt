use Rattle.std.proofs.Common.{sym, ap, ◌∙◌, ◌||◌}
use Rattle.std.specs.BTreeSet.{contains}
use Rattle.st_ids.specs.Order.{field_cmp, same_field}
use Rattle.st_embed.specs.inside.Standing.{is_register_of}
use Rattle.st_embed.proofs.Keeping.{or_last}
use Rattle.st_embed.proofs.sets.add_register_of.Goals as goal

pub returns-in-Some-Register : goal.returns-in-Some-Register
unfolding same_field
returns-in-Some-Register c = λ f.
    c.in_ok-add.ensures f ∙ or_last (contains field_cmp c.args.set.now f) (same_field c.in_ok-copy.field-0 f)
    ∙ ap (λ g. contains field_cmp c.args.set.now f || same_field g f) c.in_ok-copy.ensures
    ∙ ap (λ s. contains field_cmp c.args.set.now f || is_register_of f s) (sym c.in-Some-Register.field-0-is ∙ c.in-Some-Register.ensures)
