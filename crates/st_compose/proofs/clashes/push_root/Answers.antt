use Rattle.st_lemmas.proofs.Bools.{true-false}
use Rattle.st_marks.specs.Agree.{HaveSchemasInTurn}
use Rattle.st_compose.specs.inside.Clashes.{SchemasFit}
use Rattle.st_compose.proofs.Rules.{root_clash, root_passes}
use Rattle.st_compose.proofs.clashes.push_root.Goals as goal

pub returns-then-have_schemas_in_turn : goal.returns-then-have_schemas_in_turn
returns-then-have_schemas_in_turn c = root_passes (HaveSchemasInTurn c.args.first.now c.args.then.now) (SchemasFit c.args.first.now c.args.then.now) c.args.found.now
    (λ fits. c.have_schemas_in_turn.ensures.some fits.0 fits.1 c.if-have_schemas_in_turn.true)

pub returns : goal.returns
returns c =
    root_clash (HaveSchemasInTurn c.args.first.now c.args.then.now) (SchemasFit c.args.first.now c.args.then.now) c.args.found.now c.push.new.self c.row_field.result c.row_field.ensures c.in_ok-push.ensures.ok
    (λ w. true-false (c.have_schemas_in_turn.ensures.all w) c.if-have_schemas_in_turn.false)
