use Rattle.st_mention_laws.proofs.Mentions.{same_names}
use Rattle.st_mention_laws.proofs.laws.names_stay_the_same.Goals as goal

pub returns : goal.returns
returns c = λ D E N x f e. same_names D E N x f e
