use Rattle.st_mention_laws.proofs.Mentions.{covers}
use Rattle.st_mention_laws.proofs.laws.mentions_are_covered.Goals as goal

pub returns : goal.returns
returns c = λ D E N n x f e m. covers D E N x f e n m
