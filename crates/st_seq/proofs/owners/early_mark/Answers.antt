use Rattle.std.proofs.Common.{ap, sym, ◌∙◌, ◌∷◌, []}
use Rattle.st_marks.specs.declared.marks.Mark.{Mark}
use Rattle.st_marks.specs.Row.{spread}
use Rattle.st_marks.specs.Listings.{cells_before}
use Rattle.st_seq.specs.inside.OwnedEarly.{first_early}
use Rattle.st_seq.proofs.OwnersEarly.{counted-early}
use Rattle.st_seq.proofs.owners.early_mark.Goals as goal

pub returns-in-Skip : goal.returns-in-Skip
returns-in-Skip c = λ N M h w. sym (ap (λ (m : Mark). first_early N M c.args.left (cells_before (spread (m ∷ [])))) c.in-Skip.is ∙ counted-early N M c.in-Skip.field-0 c.args.left)
