use Rattle.std.proofs.Common.{◌≡◌, ◌∙◌, arith}
use Rattle.std.proofs.lemmas.Grind.{common_steps}
use Rattle.std.specs.BTreeMap.{get}
use Rattle.std.specs.Ordering.{nat_cmp}
use Rattle.st_seats.specs.inside.Following.{IsUnderWay}
use Rattle.st_seats.proofs.Followed.{one_and_others, one_follows, other_stays}
use Rattle.st_seats.proofs.following.all_follow.Goals as goal

pub followed-preserved : goal.followed-preserved
followed-preserved g c = λ none s.
    let k = c.in-Some.session in
    let l = g.R.Carrier.listed in
    let step = c.args.step.now in
    one_and_others (λ s. IsUnderWay l step c.args.but s (get nat_cmp c.args.left.now s) (get nat_cmp c.pop_first.new.self s) (get nat_cmp c.seat_follows.new.seats s)) k s
    (one_follows l step c.args.but k c.in-Some.seat (get nat_cmp c.args.left.now k) (get nat_cmp c.followed.left k) (get nat_cmp c.followed.seats k) (get nat_cmp c.pop_first.new.self k) (get nat_cmp c.take_seat.new.seats k) (get nat_cmp c.seat_follows.new.seats k)
    (c.followed.invariant none k) c.in-Some.ensures.value c.in-Some.ensures.updates.1 c.in_ok-take_seat.ensures.own c.in_ok-seat_follows.ensures.own)
    (λ apart.
    let left : get nat_cmp c.pop_first.new.self s ≡ get nat_cmp c.followed.left s = grind (arith, common_steps, c.in-Some.ensures.updates.0 s) in
    other_stays l step c.args.but s (get nat_cmp c.args.left.now s) (get nat_cmp c.followed.left s) (get nat_cmp c.followed.seats s) (get nat_cmp c.pop_first.new.self s) (get nat_cmp c.seat_follows.new.seats s)
    (c.followed.invariant none s) left (c.in_ok-seat_follows.ensures.others s apart ∙ c.in_ok-take_seat.ensures.others s apart))
