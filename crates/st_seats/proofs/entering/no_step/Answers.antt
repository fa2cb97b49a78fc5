use Rattle.std.proofs.Common.{None, sym, subst}
use Rattle.st_read_laws.specs.Reading.{IsStepRead}
use Rattle.st_seats.proofs.NothingSteps.{nothing_read}
use Rattle.st_seats.proofs.entering.no_step.Goals as goal

pub returns : goal.returns
returns c = λ l D. subst (IsStepRead l D D)
    (λ i. record { new = sym c.new.ensures i; rows = sym c.new-2.ensures i; regs = sym c.new-3.ensures i; loose = sym c.new-4.ensures i; schema = None }) (nothing_read l D)
