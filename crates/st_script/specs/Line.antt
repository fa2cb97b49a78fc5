-- What a line of a trace is.
use Rattle.std.specs.Prelude.{ℕ, List, Option, Some, None, Result, Ok, Err}
use Rattle.std.specs.Option.{ok_or}
use Rattle.serde_json.specs.Data.{Data}
use Rattle.st_json.specs.Line.{line_value}
use Rattle.st_json.specs.declared.fault.BadCause.{BadCause}
use Rattle.st_script.specs.Steps.{StepView, step_view, step_of}
use Rattle.st_script.specs.declared.line.Line.{Line}
use Rattle.st_script.specs.declared.line.Line.TheVariants as line

-- a line as contracts see it
abbrev pub line_view : Line → Result StepView BadCause
line_view (line.Step s) = Ok (step_view s)
line_view (line.Bad cause) = Err cause

-- the step of a line's value, or the first test that the line fails
abbrev pub step_of_value : Option Data → Result StepView BadCause
step_of_value None = Err BadCause.Json
step_of_value (Some d) = ok_or (step_of d) BadCause.Shape

abbrev pub step_of_line : List ℕ → Result StepView BadCause
step_of_line bytes = step_of_value (line_value bytes)
