use Rattle.st_join.proofs.JoinFits.{joins_fit}
use Rattle.st_marks.proofs.Full.{full_extends}
use Rattle.st_parts.proofs.PartsListed.{parts_listed}
use Rattle.st_parts.proofs.laws.parts_are_listed.Goals as goal

pub returns : goal.returns
returns c = λ D N M J C X G new known goes x p alone j short first second told g.
    parts_listed D N M J C X G (full_extends D N x p.first_fits short (λ n put ring. alone n (put, ring))) p j (joins_fit D N M J x p j) first second new known goes told g
