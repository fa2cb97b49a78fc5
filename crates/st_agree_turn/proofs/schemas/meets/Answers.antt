use Rattle.st_agree_turn.proofs.SchemasMeet.{meets_is, meets_not}
use Rattle.st_agree_turn.proofs.schemas.meets.Goals as goal

pub returns-then-not-are_same : goal.returns-then-not-are_same
returns-then-not-are_same c = meets_not c.args.on c.args.at c.args.long.now c.args.short.now c.args.others.now c.split_at.result.0.now c.split_at.result.1.now c.split_at.ensures.front c.split_at.ensures.back
    c.are_same.result c.if-not-are_same.true c.are_same.ensures

pub returns : goal.returns
returns c = meets_is c.args.on c.args.at c.args.long.now c.args.short.now c.args.others.now c.split_at.result.0.now c.split_at.result.1.now c.split_at.ensures.front c.split_at.ensures.back
    c.are_same.result c.if-not-are_same.false c.are_same.ensures c.can_follow.result c.can_follow.ensures
