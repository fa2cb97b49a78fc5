use Rattle.std.proofs.Common.{refl}
use Rattle.st_answers.specs.Replay.{unopened}
use Rattle.st_answers.specs.declared.command.Command.TheVariants.{Replay}
use Rattle.st_run.proofs.Carrying.{carried_out}
use Rattle.st_run.proofs.command.replay.Goals as goal

pub returns-clause-carried : goal.returns-clause-carried
returns-clause-carried g c =
    carried_out Replay (g.S.Source.left c.args.source.now) (g.S.Source.left c.answer_lines.new.source) (g.K.Sink.written c.args.sink.now)
    (g.K.Sink.written c.answer_lines.new.sink) c.answer_lines.result (c.answer_lines.ensures.told unopened refl)
