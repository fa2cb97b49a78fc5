use Rattle.std.proofs.Common.{refl}
use Rattle.st_lists.specs.declared.lists.Body.TheVariants.{Ack, Join, Leave}
use Rattle.st_replay.specs.inside.Taking.{opening_of}
use Rattle.st_replay.proofs.MessagesEntered.{plain_entered}
use Rattle.st_replay.proofs.MessagesJudged.{ack_says, ack_valid, follows, join_says, join_valid, leave_says, leave_valid}
use Rattle.st_replay.proofs.replay.Replay.enter.Goals as goal

pub join-requires-clause-follows : goal.join-requires-clause-follows
join-requires-clause-follows c =
    let r = c.args.self.now in
    let m = c.args.message.now in
    let O = opening_of r in
    follows O r.log m c.requires.passed c.requires.stands.valid (join_valid O r.log m c.requires.passed c.in-Join.uuid c.in-Join.is) (Join c.in-Join.uuid) (join_says O r.log m c.requires.passed c.in-Join.uuid c.in-Join.is)

pub leave-requires-clause-follows : goal.leave-requires-clause-follows
leave-requires-clause-follows c =
    let r = c.args.self.now in
    let m = c.args.message.now in
    let O = opening_of r in
    follows O r.log m c.requires.passed c.requires.stands.valid (leave_valid O r.log m c.requires.passed c.in-Leave.is) Leave (leave_says O r.log m c.requires.passed c.in-Leave.is)

pub ack-requires-clause-follows : goal.ack-requires-clause-follows
ack-requires-clause-follows c =
    let r = c.args.self.now in
    let m = c.args.message.now in
    let O = opening_of r in
    follows O r.log m c.requires.passed c.requires.stands.valid (ack_valid O r.log m c.requires.passed c.in-Ack.reference c.in-Ack.is) (Ack c.in-Ack.reference) (ack_says O r.log m c.requires.passed c.in-Ack.reference c.in-Ack.is)

pub returns-in_ok-join-in-Join-clause-entered : goal.returns-in_ok-join-in-Join-clause-entered
returns-in_ok-join-in-Join-clause-entered c =
    let r = c.args.self.now in
    let m = c.args.message.now in
    let O = opening_of r in
    plain_entered r c.join.new.self m (Join c.in-Join.uuid) (join_valid O r.log m c.requires.passed c.in-Join.uuid c.in-Join.is) (join_says O r.log m c.requires.passed c.in-Join.uuid c.in-Join.is) refl c.in_ok-join-in-Join.ensures

pub returns-in_ok-ack-in-Ack-clause-entered : goal.returns-in_ok-ack-in-Ack-clause-entered
returns-in_ok-ack-in-Ack-clause-entered c =
    let r = c.args.self.now in
    let m = c.args.message.now in
    let O = opening_of r in
    plain_entered r c.ack.new.self m (Ack c.in-Ack.reference) (ack_valid O r.log m c.requires.passed c.in-Ack.reference c.in-Ack.is) (ack_says O r.log m c.requires.passed c.in-Ack.reference c.in-Ack.is) refl c.in_ok-ack-in-Ack.ensures
