use Rattle.std.proofs.Common.{length, ap, sym, ◌∙◌, ◌∷◌, []}
use Rattle.st_marks.proofs.MarkLengths.{counted_after}
use Rattle.st_marks.specs.declared.marks.Mark.{Mark}
use Rattle.st_marks.specs.Row.{spread}
use Rattle.st_marks.specs.Listings.{cells_after}
use Rattle.st_seq.proofs.name_clashes.left_by.Goals as goal

pub returns-in-Skip : goal.returns-in-Skip
returns-in-Skip c = counted_after c.in-Skip.count ∙ sym (ap (λ (m : Mark). length (cells_after (spread (m ∷ [])))) c.in-Skip.is)
