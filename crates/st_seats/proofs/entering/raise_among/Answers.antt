use Rattle.std.proofs.Common.{◌≡◌, IsSome, Some, refl, sym, subst, ◌∙◌, arith}
use Rattle.std.proofs.lemmas.Grind.{common_steps}
use Rattle.std.specs.BTreeMap.{get}
use Rattle.std.specs.Ordering.{nat_cmp}
use Rattle.st_seats.specs.Seats.{IsSeatAt}
use Rattle.st_seats.proofs.SeatsGoOn.{only_seat}
use Rattle.st_seats.proofs.entering.raise_among.Goals as goal

pub returns-in_ok-raise-in-Some-clause-own : goal.returns-in_ok-raise-in-Some-clause-own
returns-in_ok-raise-in-Some-clause-own g c = λ O log known w window low up within seat.
    let l = g.R.Carrier.listed in
    let s = c.args.session in
    let there : Some c.in-Some.seat.now ≡ get nat_cmp c.args.seats.now s = c.in-Some.ensures.value in
    let on = (c.get_mut.follows.holds c.raise.new.self).3 (subst IsSome there refl) in
    let fresh : get nat_cmp (c.get_mut.follows.lender c.raise.new.self) s ≡ Some c.raise.new.self = let at = on.0 s in grind (arith, common_steps) in
    (c.raise.new.self, fresh, c.in_ok-raise-in-Some.ensures O log known w window low up within (subst (IsSeatAt l O log s known) (only_seat seat.0 c.in-Some.seat.now (sym seat.1 ∙ sym there)) seat.2))
