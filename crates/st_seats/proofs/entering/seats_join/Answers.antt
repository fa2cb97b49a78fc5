use Rattle.std.specs.BTreeMap.{get}
use Rattle.std.specs.Ordering.{nat_cmp}
use Rattle.st_seats.specs.declared.seat.Seat.{Seat}
use Rattle.st_seats.proofs.SeatsEntered.{seats_with}
use Rattle.st_seats.proofs.entering.seats_join.Goals as goal

pub returns : goal.returns
returns c = λ l O T log uuid all to_trunk at before.
    let q : Seat = record { reference = c.args.number; sent = c.new.result; bridge = c.no_step.result } in
    seats_with l O T log c.args.session uuid q (λ s. get nat_cmp c.args.seats.now s) (λ s. get nat_cmp c.take_seat.new.seats s) all to_trunk at c.new.ensures c.no_step.ensures before
    c.in_ok-take_seat.ensures.own c.in_ok-take_seat.ensures.others
