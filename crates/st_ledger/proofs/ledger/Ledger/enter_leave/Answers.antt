use Rattle.std.proofs.Common.{◌==◌, ◌∙◌, ℕ, ap, filter, not, refl}
use Rattle.st_ledger.proofs.MoreEntries.{left_entered}
use Rattle.st_ledger.proofs.ledger.Ledger.enter_leave.Goals as goal

pub returns : goal.returns
returns c = λ log stands on.
    left_entered c.args.self.now _ c.args.session log stands on refl refl (c.in_ok-self.ensures ∙ ap (filter (λ (t : ℕ). not (t == c.args.session))) c.as_slice.ensures) refl refl refl
