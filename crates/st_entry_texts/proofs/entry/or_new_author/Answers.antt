use Rattle.std.proofs.lemmas.Result.{IfOk-weaker}
use Rattle.st_entry_texts.proofs.entry.or_new_author.Goals as goal

pub returns-clause-can : goal.returns-clause-can
returns-clause-can c = IfOk-weaker c.new_author.result _ _ (λ a can. can c.args.before c.args.reference) c.new_author.ensures.can

pub returns-clause-is : goal.returns-clause-is
returns-clause-is c = IfOk-weaker c.new_author.result _ _ (λ a is log session kept. is log session) c.new_author.ensures.is
