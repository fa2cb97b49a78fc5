use Rattle.std.proofs.Common.{[], ◌∷◌, sym, ap, ◌∙◌}
use Rattle.st_marks.specs.declared.marks.Mark.{Mark}
use Rattle.st_marks.specs.Row.{spread}
use Rattle.st_moves.specs.inside.Rows.{bare}
use Rattle.st_moves.proofs.BareRows.{count_bare}
use Rattle.st_over.proofs.bare.bare_mark.Goals as goal

pub returns-in-Skip : goal.returns-in-Skip
returns-in-Skip c = count_bare c.in-Skip.count ∙ ap (λ (m : Mark). bare (spread (m ∷ []))) (sym c.in-Skip.is)
