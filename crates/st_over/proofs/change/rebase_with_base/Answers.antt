use Rattle.std.proofs.Common.{subst, sym, ap, ◌∙◌}
use Rattle.st_read_laws.specs.Reading.{IsRead}
use Rattle.st_over.specs.inside.Fields.{change_with}
use Rattle.st_over.proofs.ReadFields.{change_there}
use Rattle.st_over.proofs.change.rebase_with_base.Goals as goal

pub returns-clause-ok : goal.returns-clause-ok
returns-clause-ok g c = λ D E N x f h change step base.
    let l = g.R.Reading.listed in
    let F = c.in_ok-fields.fields in
    let has = c.in_ok-fields.ensures D E N x f h change step in
    let there = change_there l D E N change.0 change.1 c.args.base base F.rows F.regs F.loose has in
    subst (IsRead l E N) (sym (c.put_fields.ensures ∙ ap (change_with c.args.base F.rows F.regs F.loose) change.2)) there
