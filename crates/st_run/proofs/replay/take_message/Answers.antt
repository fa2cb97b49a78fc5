use Rattle.std.proofs.lemmas.Result.{IfOk-weaker}
use Rattle.serde_json.specs.View.{view}
use Rattle.st_world.specs.World.{opening_document}
use Rattle.st_run.proofs.Replaying.{value_replied}
use Rattle.st_run.proofs.replay.take_message.Goals as goal

pub returns-in-Ok : goal.returns-in-Ok
returns-in-Ok c =
    IfOk-weaker c.take_value.result _ _
    (λ r told h log header at. value_replied h log c.args.number c.args.line.now (view c.in-Ok.value) c.take_value.new.replay r header c.in-Ok.ensures.ok (told (opening_document h) log at)) c.take_value.ensures
