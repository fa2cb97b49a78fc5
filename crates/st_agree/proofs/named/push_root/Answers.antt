use Rattle.st_lemmas.proofs.Bools.{true-false}
use Rattle.st_agree.proofs.AllRules.{root_clash, root_passes}
use Rattle.st_agree.proofs.named.push_root.Goals as goal

pub returns-then-have_schemas : goal.returns-then-have_schemas
returns-then-have_schemas c = root_passes c.args.change.now c.args.step.now c.args.found.now (λ fits. c.have_schemas.ensures.some fits c.if-have_schemas.true)

pub returns : goal.returns
returns c =
    root_clash c.args.change.now c.args.step.now c.args.found.now c.push.new.self c.row_field.result c.row_field.ensures c.in_ok-push.ensures.ok
    (λ w. true-false (c.have_schemas.ensures.all w) c.if-have_schemas.false)
