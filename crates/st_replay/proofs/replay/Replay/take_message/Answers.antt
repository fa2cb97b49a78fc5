use Rattle.std.proofs.Common.{sym}
use Rattle.st_valid_laws.proofs.RefusedByLog.{refused}
use Rattle.st_replay.specs.inside.Taking.{opening_of}
use Rattle.st_replay.proofs.replay.Replay.take_message.Goals as goal

pub returns-in-Some-clause-refused : goal.returns-in-Some-clause-refused
returns-in-Some-clause-refused c =
    let r = c.args.self.now in
    (refused (opening_of r) r.log c.args.message.now c.in-Some.cause (sym (c.in-Some.ensures r.log c.requires.stands.numbers)), c.requires.stands)
