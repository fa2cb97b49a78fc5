use Rattle.st_same_laws.proofs.JoinsAndWaysBack.{says, joins_say, backs_say}
use Rattle.st_same_laws.proofs.laws.alike_intents_say_the_same.Goals as goal

pub returns-clause-alike : goal.returns-clause-alike
returns-clause-alike c = says

pub returns-clause-joins : goal.returns-clause-joins
returns-clause-joins c = joins_say

pub returns-clause-back : goal.returns-clause-back
returns-clause-back c = backs_say
