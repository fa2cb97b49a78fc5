use Rattle.st_marks.specs.Agree.{CanBeParts, HaveSchemasOfParts}
use Rattle.st_join_parts.specs.inside.Clashes.{ObeyRules}
use Rattle.st_join_parts.proofs.Rules.{root_clash, root_passes}
use Rattle.st_join_parts.proofs.clashes.push_root.Goals as goal

pub returns-then-branch : goal.returns-then-branch
returns-then-branch c = root_passes (HaveSchemasOfParts c.args.first.now c.args.then.now) (CanBeParts c.args.first.now c.args.then.now) (ObeyRules c.args.first.now c.args.then.now) c.args.found.now
    (λ w. c.in_ok-can_be_parts.ensures.hold w.0 w.1 c.if-branch.true)

pub returns : goal.returns
returns c = root_clash (HaveSchemasOfParts c.args.first.now c.args.then.now) (CanBeParts c.args.first.now c.args.then.now) (ObeyRules c.args.first.now c.args.then.now) c.args.found.now
    c.push.new.self c.row_field.result c.row_field.ensures c.in_ok-push.ensures.ok (c.in_ok-can_be_parts.ensures.broken c.if-branch.false)
