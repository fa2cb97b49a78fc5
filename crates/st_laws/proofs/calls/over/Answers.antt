use Rattle.st_lemmas.proofs.Bools.{true-false}
use Rattle.st_laws.proofs.OneCall.{rebased_told}
use Rattle.st_laws.proofs.calls.over.Goals as goal

pub returns-in_ok-copy-clause-later : goal.returns-in_ok-copy-clause-later
returns-in_ok-copy-clause-later c = λ D E N x f g short emb s. absurd (true-false (c.in_ok-room.ensures.1 (c.documents_have_room.ensures D E N c.args.change.now c.args.step.now short emb s)) c.if-room.false)

pub returns-in_ok-copy-clause-apart : goal.returns-in_ok-copy-clause-apart
returns-in_ok-copy-clause-apart c = λ room change step. absurd (true-false (c.in_ok-room.ensures.1 room) c.if-room.false)

pub returns-then-room-clause-told : goal.returns-then-room-clause-told
returns-then-room-clause-told c = λ v w.
    let room = c.in_ok-room.ensures.0 c.if-room.true in
    rebased_told c.args.change.now c.args.step.now room (λ K. c.later_changes_obey.ensures c.args.change.now K c.args.step.now room v w) c.rebase.result c.rebase.ensures.rebased (c.rebase.ensures.apart v w)
