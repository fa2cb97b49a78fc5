use Rattle.std.proofs.Common.{ap, ◌∙◌, ◌∷◌, [], map}
use Rattle.st_ids.specs.declared.names.CellId.{CellId}
use Rattle.st_marks.specs.declared.marks.Mark.{Mark}
use Rattle.st_marks.specs.Row.{spread}
use Rattle.st_marks.specs.Listings.{cells_made}
use Rattle.st_seq.specs.NamedApart.{found_at}
use Rattle.st_seq.proofs.OwnersEarly.{counted-made}
use Rattle.st_seq.proofs.owners.name_made.Goals as goal

pub returns-in-Skip : goal.returns-in-Skip
returns-in-Skip c = ap (λ (m : Mark). map (λ (d : CellId). found_at d.0 0) (cells_made (spread (m ∷ [])))) c.in-Skip.is ∙ counted-made c.in-Skip.field-0
