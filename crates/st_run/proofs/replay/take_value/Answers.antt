use Rattle.std.proofs.lemmas.Result.{IfOk-weaker}
use Rattle.serde_json.specs.View.{view}
use Rattle.st_replay.specs.Stands.{StandsAt}
use Rattle.st_run.proofs.Replaying.{refused_replied}
use Rattle.st_run.proofs.replay.take_value.Goals as goal

pub returns-in-Err-Fault : goal.returns-in-Err-Fault
returns-in-Err-Fault c =
    IfOk-weaker c.refuse_message.result _ _
    (λ r told O log stands.
    let refused = rw c.in-Err-Fault.field-0-is at (c.in-Err-Fault.ensures.refused O log stands) in
    refused_replied c.args.number O log (view c.args.value.now) (StandsAt c.take.new.self O) c.in-Err-Fault.cause r refused.0 told) c.refuse_message.ensures
