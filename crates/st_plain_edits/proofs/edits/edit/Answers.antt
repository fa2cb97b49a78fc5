use Rattle.st_doc.specs.Doc.{document_of}
use Rattle.st_edits.specs.Resolve.{resolve}
use Rattle.st_lists.specs.Open.{with_open}
use Rattle.st_lists.specs.Clients.{joined_of}
use Rattle.st_lists.specs.Lines.{main_line}
use Rattle.st_script.specs.Steps.{edit_view}
use Rattle.st_world.specs.Edits.{edit_of}
use Rattle.st_world.specs.World.{IsAfterEdit, next_names, refusal_of, word_of}
use Rattle.std.proofs.Common.{◌≡◌, sym, subst}
use Rattle.st_script.specs.declared.answer.Answer.TheVariants.{No}
use Rattle.st_plain_edits.proofs.Taking.{edit_stopped, edit_taken, kept_of_stopped, kept_of_taken}
use Rattle.st_plain_edits.proofs.edits.edit.Goals as goal

pub take_in-requires-clause-can : goal.take_in-requires-clause-can
take_in-requires-clause-can c =
    let meant = rw (c.shown_doc.ensures (joined_of c.args.client.now) c.requires.open, c.next_names.ensures) at c.in-Ok.ensures.ok in
    rw c.word_of.ensures (c.requires.can c.in-Ok.intent meant)

pub returns-in_ok-answer-in-Ok-clause-answer : goal.returns-in_ok-answer-in-Ok-clause-answer
returns-in_ok-answer-in-Ok-clause-answer c =
    let client = c.args.client.now in
    let meant = rw (c.shown_doc.ensures (joined_of client) c.requires.open, c.next_names.ensures) at c.in-Ok.ensures.ok in
    edit_taken client 0 (main_line client) client.transaction (word_of (edit_view c.args.edit.now)) (resolve (with_open (document_of c.args.kept.now.main.doc) (joined_of client)) c.args.schema.now (next_names client client.transaction) (edit_of c.args.edit.now))
    c.take_in.new.client c.in-Ok.intent c.in_ok-answer-in-Ok.answer meant (rw c.word_of.ensures at c.in_ok-answer-in-Ok.ensures.answer)

pub returns-in_ok-answer-in-Ok-clause-kept : goal.returns-in_ok-answer-in-Ok-clause-kept
returns-in_ok-answer-in-Ok-clause-kept c =
    let client = c.args.client.now in
    let meant = rw (c.shown_doc.ensures (joined_of client) c.requires.open, c.next_names.ensures) at c.in-Ok.ensures.ok in
    kept_of_taken client client.transaction (resolve (with_open (document_of c.args.kept.now.main.doc) (joined_of client)) c.args.schema.now (next_names client client.transaction) (edit_of c.args.edit.now))
    c.take_in.new.client c.args.kept.now c.take_in.new.kept c.in-Ok.intent meant c.in_ok-answer-in-Ok.ensures.kept

pub returns-in-Err-Fault-clause-answer : goal.returns-in-Err-Fault-clause-answer
returns-in-Err-Fault-clause-answer c =
    let client = c.args.client.now in
    let r = resolve (with_open (document_of c.args.kept.now.main.doc) (joined_of client)) c.args.schema.now (next_names client client.transaction) (edit_of c.args.edit.now) in
    let bad = rw c.in-Err-Fault.field-0-is at c.in-Err-Fault.ensures.bad in
    let meant = rw (c.shown_doc.ensures (joined_of client) c.requires.open, c.next_names.ensures) at bad in
    let is : c.refusal_of.result ≡ refusal_of c.in-Err-Fault.fault = rw c.in-Err-Fault.field-0-is at c.refusal_of.ensures in
    subst (λ x. IsAfterEdit client 0 (main_line client) client.transaction (word_of (edit_view c.args.edit.now)) r client (No x)) (sym is) (edit_stopped client 0 (main_line client) client.transaction (word_of (edit_view c.args.edit.now)) r c.in-Err-Fault.fault meant)

pub returns-in-Err-Fault-clause-kept : goal.returns-in-Err-Fault-clause-kept
returns-in-Err-Fault-clause-kept c =
    let client = c.args.client.now in
    let bad = rw c.in-Err-Fault.field-0-is at c.in-Err-Fault.ensures.bad in
    let meant = rw (c.shown_doc.ensures (joined_of client) c.requires.open, c.next_names.ensures) at bad in
    kept_of_stopped client client.transaction (resolve (with_open (document_of c.args.kept.now.main.doc) (joined_of client)) c.args.schema.now (next_names client client.transaction) (edit_of c.args.edit.now)) client c.args.kept.now c.in-Err-Fault.fault meant
