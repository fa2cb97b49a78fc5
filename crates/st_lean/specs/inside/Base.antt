-- The schema in effect after a step.
use Rattle.std.specs.Prelude.{◌↔◌, Bool, List, IsTrue}
use Rattle.st_marks.specs.declared.changes.Change.{Change}
use Rattle.st_marks.specs.declared.schemas.SchemaEntry.{SchemaEntry}
use Rattle.st_marks.specs.declared.schemas.SchemaStep.{SchemaStep}
use Rattle.st_marks.specs.Document.{CanBeInEffect}
use Rattle.st_marks.specs.Step.{IsSchemaStep}
use Rattle.st_marks.specs.Verdict.{HasBase}
use Rattle.std.specs.Prelude.{Some}

-- whether the schema of a change is in effect after a step of schemas, for all entries over which the two may stand
abbrev pub IsBaseOver : SchemaStep → Change → Bool → Type 0
IsBaseOver part C b = (before after : List SchemaEntry) → CanBeInEffect before → IsSchemaStep before after (Some part)
    → (IsTrue C.base ↔ HasBase before C.schema C.under) → IsTrue b ↔ HasBase after C.schema C.under
