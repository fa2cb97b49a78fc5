use Rattle.std.proofs.Common.{◌^◌, ◌∙◌, rules, subst}
use Rattle.st_passing.specs.declared.raise.Seat.{Seat}
use Rattle.st_marks.specs.Row.{spread}
use Rattle.st_passing.specs.Raising.{IsSeat, count_by}
use Rattle.st_passing.proofs.Seats.{is_there, seat_made, seat_raised, seat_room}
use Rattle.st_passing.proofs.PlacesStanding.{made_merged, raised_merged}
use Rattle.st_passing.proofs.raise.count_at.Goals as goal

pub overflow_add-mark : goal.overflow_add-mark
overflow_add-mark c = let h = seat_room c.args.marks.now (count_by c.args.among c.args.place (spread c.args.marks.now)) c.in-In.at c.in-In.k (2 ^ 32) (subst (λ ms. IsSeat ms (count_by c.args.among c.args.place (spread ms)) (Seat.In c.in-In.at c.in-In.k)) c.as_slice.ensures c.in-In.ensures) c.requires in search rules

pub returns-in-Some-clause-cells : goal.returns-in-Some-clause-cells
returns-in-Some-clause-cells c = seat_raised c.args.marks.now (count_by c.args.among c.args.place (spread c.args.marks.now)) c.in-In.at c.in-In.k (subst (λ ms. IsSeat ms (count_by c.args.among c.args.place (spread ms)) (Seat.In c.in-In.at c.in-In.k)) c.as_slice.ensures c.in-In.ensures)

pub returns-in_default-clause-cells : goal.returns-in_default-clause-cells
returns-in_default-clause-cells c = let e = c.in_default.ensures.value ∙ is_there c.args.marks.now (count_by c.args.among c.args.place (spread c.args.marks.now)) c.in-In.at c.in-In.k (subst (λ ms. IsSeat ms (count_by c.args.among c.args.place (spread ms)) (Seat.In c.in-In.at c.in-In.k)) c.as_slice.ensures c.in-In.ensures) in cc

pub returns-in_ok-insert-in-Before-clause-cells : goal.returns-in_ok-insert-in-Before-clause-cells
returns-in_ok-insert-in-Before-clause-cells c = seat_made c.args.marks.now c.insert.new.self (count_by c.args.among c.args.place (spread c.args.marks.now)) c.in-Before.at (subst (λ ms. IsSeat ms (count_by c.args.among c.args.place (spread ms)) (Seat.Before c.in-Before.at)) c.as_slice.ensures c.in-Before.ensures) c.in_ok-insert-in-Before.ensures.ok

pub returns-in-Some-clause-merged : goal.returns-in-Some-clause-merged
returns-in-Some-clause-merged c = raised_merged c.args.marks.now (count_by c.args.among c.args.place (spread c.args.marks.now)) c.in-In.at c.in-In.k (subst (λ ms. IsSeat ms (count_by c.args.among c.args.place (spread ms)) (Seat.In c.in-In.at c.in-In.k)) c.as_slice.ensures c.in-In.ensures)

pub returns-in_ok-insert-in-Before-clause-merged : goal.returns-in_ok-insert-in-Before-clause-merged
returns-in_ok-insert-in-Before-clause-merged c = made_merged c.args.marks.now c.insert.new.self (count_by c.args.among c.args.place (spread c.args.marks.now)) c.in-Before.at (subst (λ ms. IsSeat ms (count_by c.args.among c.args.place (spread ms)) (Seat.Before c.in-Before.at)) c.as_slice.ensures c.in-Before.ensures) c.in_ok-insert-in-Before.ensures.ok
