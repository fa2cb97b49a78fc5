use Rattle.std.proofs.Common.{Some, None, subst, ◌∙◌}
use Rattle.serde_json.specs.View.{view}
use Rattle.st_valid_laws.specs.Shape.{IsRead, IsValueRefusedFor}
use Rattle.st_valid_laws.proofs.Readings.{no_message_refused}
use Rattle.st_replay.specs.Stands.{StandsAt}
use Rattle.st_replay.specs.inside.Taking.{IsRefused}
use Rattle.st_replay.proofs.MessagesRead.{refused_along}
use Rattle.st_replay.proofs.ValuesTaken.{refused}
use Rattle.st_replay.proofs.replay.Replay.take.Goals as goal

pub returns-in-Ok-clause-refused : goal.returns-in-Ok-clause-refused
returns-in-Ok-clause-refused c = λ O log h.
    let r = c.args.self.now in
    let d = view c.args.value.now in
    let m = c.in-Ok.message in
    let read : IsRead r.log d (Some m) = subst (λ es. IsRead es d (Some m)) c.as_slice.ensures c.in-Ok.ensures.ok in
    refused_along c.take_message.result (λ x. IsRefused r m x c.take_message.new.self) (λ x. IsValueRefusedFor O log d x × StandsAt c.take_message.new.self O log)
    (λ x e. refused r c.take_message.new.self O log d m h read x e) c.take_message.ensures.refused

pub returns-in-Err-Fault-clause-refused : goal.returns-in-Err-Fault-clause-refused
returns-in-Err-Fault-clause-refused c = λ O log h.
    let d = view c.args.value.now in
    let none : IsRead c.as_slice.result.now d None = rw c.in-Err-Fault.field-0-is at c.in-Err-Fault.ensures.shape in
    (no_message_refused O log d (subst (λ es. IsRead es d None) (c.as_slice.ensures ∙ h.entries) none), h)
