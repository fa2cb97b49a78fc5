use Rattle.std.proofs.Common.{None, ◌∙◌, sym, ap}
use Rattle.st_tree.specs.Node.{view}
use Rattle.st_schema.specs.Conforms.{verdicts}
use Rattle.st_schema.specs.inside.Conforms.{walk_over}
use Rattle.st_schema.proofs.Walking.{settled, allows_walked}
use Rattle.st_schema.proofs.schema.Schema.allows.Goals as goal

pub returns-in-None : goal.returns-in-None
returns-in-None c =
    sym (ap settled c.in-None.is)
    ∙ allows_walked c.args.self.now c.args.types.now (view c.args.tree.now) c.walk_tree.result
    (c.walk_tree.ensures.walked ∙ ap (λ ts. walk_over (record { next = 0; fault = None }) (verdicts c.args.self.now ts (view c.args.tree.now))) c.as_slice.ensures)

pub returns-in-Some : goal.returns-in-Some
returns-in-Some c =
    sym (ap settled c.in-Some.is)
    ∙ allows_walked c.args.self.now c.args.types.now (view c.args.tree.now) c.walk_tree.result
    (c.walk_tree.ensures.walked ∙ ap (λ ts. walk_over (record { next = 0; fault = None }) (verdicts c.args.self.now ts (view c.args.tree.now))) c.as_slice.ensures)
