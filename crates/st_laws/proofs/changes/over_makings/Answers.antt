use Rattle.st_laws.proofs.Retreats.{fits_retreat}
use Rattle.st_marks.proofs.Turns.{extends_on}
use Rattle.st_marks.proofs.Retreat.{retreat_extends}
use Rattle.st_marks.specs.Back.{retreat}
use Rattle.st_laws.proofs.changes.over_makings.Goals as goal

pub returns : goal.returns
returns c = λ D E N x f g short emb s. c.over.ensures.later D (retreat D E) N (extends_on D E (retreat D E) x (retreat_extends D E x)) f (fits_retreat D E N f g) short emb (c.in_ok-made.ensures D E x s)
