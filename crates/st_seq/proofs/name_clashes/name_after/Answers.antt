use Rattle.std.proofs.Common.{ap, ◌∙◌, ◌∷◌, []}
use Rattle.st_marks.specs.declared.marks.Mark.{Mark}
use Rattle.st_marks.specs.Row.{spread}
use Rattle.st_seq.specs.NamedApart.{named_after}
use Rattle.st_seq.proofs.NamedCells.{counted-after}
use Rattle.st_seq.proofs.name_clashes.name_after.Goals as goal

pub returns-in-Skip : goal.returns-in-Skip
returns-in-Skip c = ap (λ (m : Mark). named_after c.args.left (spread (m ∷ []))) c.in-Skip.is ∙ counted-after c.in-Skip.field-0 c.args.left
