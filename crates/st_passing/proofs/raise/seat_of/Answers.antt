use Rattle.st_passing.proofs.Seats.{at_mark, at_none, go_on, seat_before}
use Rattle.st_passing.proofs.raise.seat_of.Goals as goal

pub loop-rest-preserved : goal.loop-rest-preserved
loop-rest-preserved c = go_on c.args.among c.args.marks.now c.args.place c.loop-rest.at c.loop-rest.left c.loop-rest.count c.in-On.j c.count_of-count.result c.loop-rest.rest.now c.count_of-count.ensures c.loop-rest.invariant c.in-len1-up.len_at_least c.in-On.ensures

pub returns-in-Before : goal.returns-in-Before
returns-in-Before c =
    seat_before c.args.among c.args.marks.now c.args.place c.loop-rest.at c.loop-rest.left c.loop-rest.count c.loop-rest.rest.now _ c.loop-rest.invariant
    (at_mark c.args.among c.loop-rest.left c.loop-rest.rest.now c.in-len1-up.len_at_least c.in-Before.ensures) c.seat_at.ensures.new c.seat_at.ensures.old

pub returns : goal.returns
returns c =
    seat_before c.args.among c.args.marks.now c.args.place c.loop-rest.at c.loop-rest.left c.loop-rest.count c.loop-rest.rest.now _ c.loop-rest.invariant
    (at_none c.args.among c.loop-rest.left c.loop-rest.rest.now c.in_default.len_below) c.seat_at-2.ensures.new c.seat_at-2.ensures.old
