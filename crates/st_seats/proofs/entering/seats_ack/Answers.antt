use Rattle.std.specs.BTreeMap.{get}
use Rattle.std.specs.Ordering.{nat_cmp}
use Rattle.st_lists.specs.Log.{known_reference}
use Rattle.st_seats.proofs.SeatsEntered.{seats_told}
use Rattle.st_seats.proofs.SeatsGoOn.{seat_of}
use Rattle.st_seats.proofs.entering.seats_ack.Goals as goal

pub returns : goal.returns
returns g c = λ O log all w low on up within before.
    let l = g.R.Carrier.listed in
    let s = c.args.session in
    seats_told l O log s c.args.reference (λ t. get nat_cmp c.args.seats.now t) (λ t. get nat_cmp c.raise_among.new.seats t) all on up within before
    (c.in_ok-raise_among.ensures.own O log (known_reference s log) all.written w low up within (seat_of l O log s (get nat_cmp c.args.seats.now s) on (before s)))
    c.in_ok-raise_among.ensures.others
