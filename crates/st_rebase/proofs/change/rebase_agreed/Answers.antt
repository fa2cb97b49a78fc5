use Rattle.st_mention_laws.proofs.ThinForms.{shows_itself, shows_itself-step}
use Rattle.st_rebase.proofs.change.rebase_agreed.Goals as goal

pub returns : goal.returns
returns c = λ D E N x f g change step. c.rebase_with_base.ensures D E N x f g change step (c.base_after-base.ensures D E N x (shows_itself D N c.args.change.now change) (shows_itself-step D E c.args.step.now step))
