use Rattle.std.proofs.Common.{refl, subst, sym}
use Rattle.std.specs.BTreeMap.{get}
use Rattle.std.specs.Ordering.{nat_cmp}
use Rattle.st_lists.specs.Log.{log_with}
use Rattle.st_lists.specs.declared.lists.Body.TheVariants.{Leave}
use Rattle.st_seats.specs.Seats.{HasSeat}
use Rattle.st_seats.proofs.SeatsEntered.{on_own, seats_stay}
use Rattle.st_seats.proofs.entering.seats_leave.Goals as goal

pub returns : goal.returns
returns c = λ l O log all before.
    let s = c.args.session in
    seats_stay l O log s Leave refl (λ t. get nat_cmp c.args.seats.now t) (λ t. get nat_cmp c.give_seat_back.new.seats t) all.within before
    (subst (HasSeat l O (log_with log s Leave) s) (sym c.give_seat_back.ensures.own) (on_own l O log s Leave refl)) c.give_seat_back.ensures.others
