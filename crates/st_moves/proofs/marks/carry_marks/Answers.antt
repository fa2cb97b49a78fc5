use Rattle.st_mention_laws.proofs.ThinForms.{shows_itself, shows_itself-step}
use Rattle.st_moves.proofs.marks.carry_marks.Goals as goal

pub returns : goal.returns
returns c = record { carried = λ D E N x f g emb step. c.between_with.ensures D E N x f g emb step (c.in_ok-puts.ensures D N x.before f (shows_itself D N c.args.change.now emb)) (c.in_ok-places.ensures D E N x f g (shows_itself D N c.args.change.now emb) (shows_itself-step D E c.args.step.now step)) }
