use Rattle.st_laws.proofs.Retreats.{fits_retreat}
use Rattle.st_marks.proofs.Retreat.{retreat_extends}
use Rattle.st_marks.specs.Back.{retreat}
use Rattle.st_laws.proofs.changes.over_back.Goals as goal

pub returns : goal.returns
returns c = λ D E N x f g short emb s. c.over.ensures.later E (retreat D E) N (retreat_extends D E x) g (fits_retreat D E N f g) short emb (c.in_ok-back.ensures D E x s)
