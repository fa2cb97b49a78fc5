use Rattle.std.proofs.Common.{sym, subst}
use Rattle.st_seq.specs.inside.NormalForm.{IsNormalRowChange}
use Rattle.st_seq.proofs.RowRules.{form_is_told, part_keeps_form}
use Rattle.st_seq.proofs.kind.SequenceFieldKind.over.Goals as goal

pub returns : goal.returns
returns c h =
    let row = c.as_slice.ensures in
    (λ t. form_is_told c.args.change.now c.args.ctx.now.cells h (subst (IsNormalRowChange c.args.change.now) row (c.is_of_form.ensures.0 t)), λ (p, w, e). c.is_of_form.ensures.1 (subst (IsNormalRowChange c.args.change.now) (sym row) (part_keeps_form p c.args.change.now c.args.ctx.now.cells w e)))
