use Rattle.std.proofs.Common.{None, Option, Some}
use Rattle.serde_json.specs.View.{view}
use Rattle.st_marks.specs.declared.changes.Change.{Change}
use Rattle.st_msg.specs.Messages as told
use Rattle.st_valid.specs.declared.message.Said.{Said}
use Rattle.st_valid_laws.specs.Shape.{IsChangeRead, IsSaid}
use Rattle.st_replay.proofs.MessagesRead.{fault_along, said_commit}
use Rattle.st_replay.proofs.message.commit.Goals as goal

pub returns-in-Ok-clause-ok : goal.returns-in-Ok-clause-ok
returns-in-Ok-clause-ok c = said_commit c.args.log.now c.args.session c.args.reference c.args.ids (view c.args.value.now) (Some c.in-Ok.change) c.in-Ok.ensures.ok

pub returns-in-Err-clause-shape : goal.returns-in-Err-clause-shape
returns-in-Err-clause-shape c =
    let a = c.args in
    fault_along (Option Change) Said c.in-Err.fault (λ x. IsChangeRead a.log.now a.session a.reference a.ids (view a.value.now) None) (λ x. IsSaid a.log.now a.session (told.Commit a.reference a.ids (view a.value.now)) None)
    (λ x h. said_commit a.log.now a.session a.reference a.ids (view a.value.now) None h) c.in-Err.ensures.shape
