use Rattle.st_register.proofs.Forms.{form_is_told, keeps_rules}
use Rattle.st_register.proofs.kind.RegisterFieldKind.over.Goals as goal

pub returns-then-is_same : goal.returns-then-is_same
returns-then-is_same c h =
    (λ t. form_is_told c.args.change.now c.args.ctx.now (c.is_of_form.ensures.0 t) (c.is_same.ensures.one.0 c.if-is_same.true) h, λ (p, w, e). c.is_of_form.ensures.1 (keeps_rules p c.args.ctx.now c.args.change.now w e))
