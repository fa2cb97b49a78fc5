use Rattle.std.proofs.Common.{length, ap, sym, ◌∙◌, ◌∷◌, []}
use Rattle.st_marks.proofs.MarkLengths.{counted_before}
use Rattle.st_marks.specs.declared.marks.Mark.{Mark}
use Rattle.st_marks.specs.Row.{spread}
use Rattle.st_marks.specs.Listings.{cells_before}
use Rattle.st_seq.proofs.name_clashes.cells_found.Goals as goal

pub returns-in-Skip : goal.returns-in-Skip
returns-in-Skip c = counted_before c.in-Skip.count ∙ sym (ap (λ (m : Mark). length (cells_before (spread (m ∷ [])))) c.in-Skip.is)
