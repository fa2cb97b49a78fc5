use Rattle.st_within_laws.proofs.ChangesWithin.{change_within}
use Rattle.st_within_laws.proofs.laws.changes_are_within.Goals as goal

pub returns : goal.returns
returns g c k D N C x d i f short r u emb = change_within (g.K.NameKind.atoms k) D N C x d i f short emb (g.K.NameKind.revs k) r u
