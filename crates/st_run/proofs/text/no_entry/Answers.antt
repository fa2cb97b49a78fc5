use Rattle.std.proofs.Common.{◌∙◌}
use Rattle.std.proofs.lemmas.Result.{IfOk-weaker}
use Rattle.st_run.proofs.EntriesTold.{no_entry_is}
use Rattle.st_run.proofs.text.no_entry.Goals as goal

pub returns : goal.returns
returns c = IfOk-weaker c.from_str.result _ _ (λ t is. is ∙ no_entry_is) c.from_str.ensures
