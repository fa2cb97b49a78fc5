use Rattle.std.proofs.Common.{◌≡◌, None, Some}
use Rattle.serde_json.specs.View.{view}
use Rattle.st_msg.specs.Forms.{form_view, said_view}
use Rattle.st_msg.specs.Messages.{message_of}
use Rattle.st_valid_laws.specs.Shape.{IsRead, IsSaid, message_with}
use Rattle.st_replay.proofs.MessagesRead.{err_none, ok_along, ok_some, read_no_form, read_none, read_some, refused_along}
use Rattle.st_replay.proofs.message.read_message.Goals as goal

pub returns-in-Ok-clause-ok : goal.returns-in-Ok-clause-ok
returns-in-Ok-clause-ok c =
    let f = c.in-Ok.form in
    let d = view c.args.value.now in
    ok_along c.message_of.result (λ m. IsSaid c.args.log.now f.session (said_view f.said) (Some m.said) × (m ≡ message_with (form_view f) m.said)) (λ m. IsRead c.args.log.now d (Some m))
    (λ m h. read_some c.args.log.now d (form_view f) m (ok_some (message_of d) (form_view f) (record {}) c.in-Ok.ensures) h) c.message_of.ensures.ok

pub returns-in-Ok-clause-shape : goal.returns-in-Ok-clause-shape
returns-in-Ok-clause-shape c =
    let f = c.in-Ok.form in
    let d = view c.args.value.now in
    refused_along c.message_of.result (λ x. IsSaid c.args.log.now f.session (said_view f.said) None) (λ x. IsRead c.args.log.now d None)
    (λ x h. read_none c.args.log.now d (form_view f) (ok_some (message_of d) (form_view f) (record {}) c.in-Ok.ensures) h) c.message_of.ensures.shape

pub returns-in-Err-clause-shape : goal.returns-in-Err-clause-shape
returns-in-Err-clause-shape c = read_no_form c.args.log.now (view c.args.value.now) (err_none (message_of (view c.args.value.now)) c.in-Err.shape (record {}) c.in-Err.ensures)
