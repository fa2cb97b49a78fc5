use Rattle.std.proofs.Common.{arith}
use Rattle.std.proofs.lemmas.Result.{IfOk-weaker}
use Rattle.st_replay.proofs.authors.or_new_author.Goals as goal

pub returns-clause-at : goal.returns-clause-at
returns-clause-at c = IfOk-weaker c.new_author.result _ _ (λ a at. omega (arith, at)) c.new_author.ensures.at

pub returns-clause-is : goal.returns-clause-is
returns-clause-is c = IfOk-weaker c.new_author.result _ _ (λ a is log session kept. is log session) c.new_author.ensures.is
