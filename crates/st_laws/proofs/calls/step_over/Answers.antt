use Rattle.st_lemmas.proofs.Bools.{true-false}
use Rattle.st_laws.proofs.OneCall.{bridged_told}
use Rattle.st_laws.proofs.calls.step_over.Goals as goal

pub returns-in_ok-copy-clause-later : goal.returns-in_ok-copy-clause-later
returns-in_ok-copy-clause-later c = λ D E N v u x f g short later emb s is there. absurd (true-false (c.in_ok-room.ensures.1 (c.documents_have_room.ensures D E N c.args.change.now c.args.step.now later emb s)) c.if-room.false)

pub returns-in_ok-copy-clause-apart : goal.returns-in_ok-copy-clause-apart
returns-in_ok-copy-clause-apart c = λ room change step. absurd (true-false (c.in_ok-room.ensures.1 room) c.if-room.false)

pub returns-then-room-clause-told : goal.returns-then-room-clause-told
returns-then-room-clause-told c = λ v w.
    let room = c.in_ok-room.ensures.0 c.if-room.true in
    bridged_told c.args.step.now c.args.change.now room (λ T. c.steps_over_commits_obey.ensures c.args.change.now c.args.step.now T room v w) c.bridge.result c.bridge.ensures.bridged (c.bridge.ensures.apart v w)
