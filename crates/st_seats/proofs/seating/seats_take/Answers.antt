use Rattle.std.specs.BTreeMap.{get}
use Rattle.std.specs.Ordering.{nat_cmp}
use Rattle.st_lists.specs.Log.{known_reference}
use Rattle.st_seats.proofs.SeatsGoOn.{all_take, seat_of}
use Rattle.st_seats.proofs.seating.seats_take.Goals as goal

pub returns : goal.returns
returns g c = λ O A T log ids N all window low on up within seats coming.
    let l = g.R.Carrier.listed in
    let s = c.args.session in
    let k = c.in_ok-effected.ensures.own O A T log (known_reference s log) ids N all.written window low up within (seat_of l O log s (get nat_cmp c.args.seats.now s) on (seats s)) coming in (
      k.0,
      all_take l O T log s c.args.reference ids N c.commit_among.new.change c.in_ok-effected.effected (λ t. get nat_cmp c.args.seats.now t) (λ t. get nat_cmp c.commit_among.new.seats t) (λ t. get nat_cmp c.seats_follow.new.seats t)
          all on up seats coming.to_trunk coming.fits_trunk coming.short_trunk k.0 k.1 c.in_ok-effected.ensures.others c.in_ok-seats_follow.ensures,
    )
