-- The outcome of a run over lines.
use Rattle.st_pieces.specs.declared.responder.RunEnd.{RunEnd}
use Rattle.st_pieces.specs.declared.responder.RunEnd.TheVariants as run
use Rattle.st_answers.specs.Endings.{end_outcome}
use Rattle.st_answers.specs.declared.cause.EndCause.{EndCause}
use Rattle.st_answers.specs.declared.outcome.Outcome.{Outcome}
use Rattle.st_answers.specs.declared.outcome.Outcome.TheVariants.{Done, TooLong, ReadFault, WriteFault, NoMemory}

abbrev pub outcome_of : RunEnd EndCause → Outcome
outcome_of run.Done = Done
outcome_of (run.Bad n c) = end_outcome n c
outcome_of (run.TooLong n) = TooLong n
outcome_of run.ReadFault = ReadFault
outcome_of run.WriteFault = WriteFault
outcome_of run.NoMemory = NoMemory
