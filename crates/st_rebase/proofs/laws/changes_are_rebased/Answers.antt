use Rattle.st_moves.proofs.ChangeCarried.{change_carried}
use Rattle.st_rebase.proofs.ChangeRebased.{change_rebased}
use Rattle.st_rebase.proofs.laws.changes_are_rebased.Goals as goal

pub returns : goal.returns
returns c = λ D E N C X Y S m new x f g w listed change step beside over.
    change_rebased D E N x f g S step m w new listed X Y (change_carried D E N x f g C S change step m w X beside) over
