use Rattle.std.proofs.Common.{ap, ◌∙◌, ◌∷◌, []}
use Rattle.st_marks.specs.declared.marks.Mark.{Mark}
use Rattle.st_marks.specs.Row.{spread}
use Rattle.st_marks.specs.Listings.{cells_after}
use Rattle.st_seq.specs.NamedApart.{standing_at}
use Rattle.st_seq.proofs.NamedCells.{counted-standing_after}
use Rattle.st_seq.proofs.name_clashes.standing_after.Goals as goal

pub returns-in-Skip : goal.returns-in-Skip
returns-in-Skip c = ap (λ (m : Mark). standing_at c.args.left (cells_after (spread (m ∷ [])))) c.in-Skip.is ∙ counted-standing_after c.in-Skip.field-0 c.args.left
