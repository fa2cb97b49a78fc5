use Rattle.st_rebase.proofs.ChangeRebased.{change_rebased}
use Rattle.st_rebase.proofs.laws.changes_are_rebased_from_between.Goals as goal

pub returns : goal.returns
returns c = λ D E N X Y S m new x f g w listed step there over. change_rebased D E N x f g S step m w new listed X Y there over
