use Rattle.std.proofs.Common.{◌∙◌, sym}
use Rattle.st_marks.specs.Row.{spread}
use Rattle.st_author_laws.specs.Back.{row_back}
use Rattle.st_author_over.proofs.SidesOfRows.{sees-seen, seen-sees}
use Rattle.st_author_over.proofs.side.is_over_back.Goals as goal

pub returns : goal.returns
returns c = let d = row_back c.args.row.now (spread c.args.bridge.now) in ((λ t. sees-seen d (spread c.args.change.now) (sym c.sees_all.ensures ∙ t)), (λ h. c.sees_all.ensures ∙ seen-sees d (spread c.args.change.now) h))
