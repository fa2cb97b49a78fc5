use Rattle.st_mention_laws.proofs.Mentions.{mentioned_above}
use Rattle.st_mention_laws.proofs.laws.mentions_are_closed.Goals as goal

pub returns : goal.returns
returns c = λ D N n p up m. mentioned_above D N n p up m
