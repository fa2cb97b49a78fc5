use Rattle.st_mention_laws.proofs.Mentions.{named_above}
use Rattle.st_mention_laws.proofs.laws.names_of_steps_are_closed.Goals as goal

pub returns : goal.returns
returns c = λ D E n p x up k. named_above D E x n p up k
