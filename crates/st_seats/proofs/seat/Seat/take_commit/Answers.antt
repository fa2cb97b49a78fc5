use Rattle.std.proofs.Common.{sym, subst}
use Rattle.st_marks.specs.Verdict.{IsVerdict}
use Rattle.st_seats.specs.Seats.{StandInTurn}
use Rattle.st_marks.specs.Verdict.{carried_document}
use Rattle.std.specs.Prelude.{◌++◌, ◌∷◌, []}
use Rattle.st_seats.proofs.Seated.{one_more}
use Rattle.st_seats.proofs.seat.Seat.take_commit.Goals as goal

pub returns-clause-taken : goal.returns-clause-taken
returns-clause-taken g c = λ B A T Ns N sound x f h a b read stand bridge.
    let l = g.R.Carrier.listed in
    let before = c.in_ok-verdict.verdict in
    let was : IsVerdict A N before = c.in_ok-verdict.ensures.verdict A N sound f a read in
    let k = c.in_ok-carry.ensures A T N x f h a b was read bridge in
    record {
      before = before;
      was = was;
      sent = subst (λ q. StandInTurn l B (Ns ++ N ∷ []) q (carried_document before A N)) (sym c.in_ok-verdict.ensures.sent) (one_more l B A Ns N c.args.change.now before c.args.self.now.sent stand was read);
      verdict = k.0;
      change = k.1;
      extends = k.2;
      bridge = k.3;
    }
