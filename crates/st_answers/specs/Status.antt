-- The statuses that a program ends with.
use Rattle.std.specs.Prelude.{ℕ}
use Rattle.st_answers.specs.declared.outcome.Outcome.{Outcome}
use Rattle.st_answers.specs.declared.outcome.Outcome.TheVariants.{Done, Usage, BadLine, Refused, TooLong, ReadFault, WriteFault, NoMemory}

abbrev pub status_of : Outcome → ℕ
status_of Done = 0
status_of Usage = 2
status_of (BadLine line cause) = 3
status_of (Refused line cause) = 4
status_of (TooLong line) = 5
status_of ReadFault = 6
status_of WriteFault = 7
status_of NoMemory = 70
