-- The change and the step that change nothing.
use Rattle.std.specs.Prelude.{true, [], None}
use Rattle.st_ids.specs.declared.names.Rev.{Rev}
use Rattle.st_marks.specs.declared.changes.Change.{Change}
use Rattle.st_marks.specs.declared.steps.Step.{Step}

-- a commit that wants nothing, made under a schema that is in effect
abbrev pub empty_change : Rev → Rev → Change
empty_change rev under = record { rev = rev; under = under; base = true; need = []; new = []; rows = []; regs = []; loose = []; schema = None }

-- the step that leads from each document to itself
abbrev pub nothing : Step
nothing = record { new = []; rows = []; regs = []; loose = []; schema = None }
