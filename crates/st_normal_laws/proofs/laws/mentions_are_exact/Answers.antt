use Rattle.st_puts.proofs.MentionsListed.{mentions-exact}
use Rattle.st_normal_laws.proofs.laws.mentions_are_exact.Goals as goal

pub returns : goal.returns
returns c = λ D C n x w o. mentions-exact D C x w o n
