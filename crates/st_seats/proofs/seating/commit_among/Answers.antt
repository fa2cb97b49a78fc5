use Rattle.std.proofs.Common.{◌≡◌, IsSome, Some, refl, sym, subst, ◌∙◌, arith}
use Rattle.std.proofs.lemmas.Grind.{common_steps}
use Rattle.std.proofs.lemmas.Result.{IfOk-weaker}
use Rattle.std.specs.BTreeMap.{get}
use Rattle.std.specs.Ordering.{nat_cmp}
use Rattle.st_seats.specs.Seats.{IsSeatAt}
use Rattle.st_seats.proofs.SeatsGoOn.{only_seat}
use Rattle.st_seats.proofs.seating.commit_among.Goals as goal

pub returns-in-Some-clause-own : goal.returns-in-Some-clause-own
returns-in-Some-clause-own g c =
    let l = g.R.Carrier.listed in
    let s = c.args.session in
    let there : Some c.in-Some.seat.now ≡ get nat_cmp c.args.seats.now s = c.in-Some.ensures.value in
    let on = (c.get_mut.follows.holds c.commit_at.new.seat).3 (subst IsSome there refl) in
    let fresh : get nat_cmp (c.get_mut.follows.lender c.commit_at.new.seat) s ≡ Some c.commit_at.new.seat = let at = on.0 s in grind (arith, common_steps) in
    IfOk-weaker c.commit_at.result _ _
    (λ e does O A T log known ids N w window low up within seat coming.
    let r = does O A T log known ids N w window low up within (subst (IsSeatAt l O log s known) (only_seat seat.0 c.in-Some.seat.now (sym seat.1 ∙ sym there)) seat.2) coming in
    (r.0, (c.commit_at.new.seat, fresh, r.1)))
    c.commit_at.ensures
