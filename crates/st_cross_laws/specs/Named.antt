-- The nodes that a step names where it stands after a change.
use Rattle.std.specs.Prelude.{Bool, ◌&&◌, if◌then◌else◌}
use Rattle.st_kind.specs.Named.{Nodes, either}
use Rattle.st_marks.specs.declared.intents.Intent.{Intent}
use Rattle.st_marks.specs.Document.{Document}
use Rattle.st_trim.specs.Evicted.{in_cleared}

-- those that the step names; the change's new ones; and, unless it is void before the step and after it, those that the change
-- mentions and whom it evicts
abbrev pub named_across : Document → Intent → Nodes → Nodes → Nodes → Bool → Bool → Nodes
named_across D N stepped mentioned made was is = either stepped (if was && is then made else either (either mentioned (in_cleared D N)) made)
