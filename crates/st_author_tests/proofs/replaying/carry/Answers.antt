use Rattle.st_author_tests.proofs.Replays.{one}
use Rattle.st_author_tests.proofs.replaying.carry.Goals as goal

pub returns : goal.returns
returns c =
    let able = c.can_carry.ensures c.if-not-can_carry.false in
    let carried = c.in_ok-carry in
    one c.args.doc.now c.carry.new.self c.args.intent.now carried.field-0 able.0 able.1 carried.ensures.verdict carried.ensures.after (carried.ensures.still_sound able.1)
