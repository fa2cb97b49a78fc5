-- The occupants of registers that an intent clears.
use Rattle.std.specs.Prelude.{Bool, false}
use Rattle.st_kind.specs.Named.{Nodes}
use Rattle.st_marks.specs.declared.intents.Intent.{Intent}
use Rattle.st_marks.specs.declared.places.Spot.{Spot}
use Rattle.st_marks.specs.Document.{Document}
use Rattle.st_marks.specs.Intent.{clears}

-- whether a place is a register that the intent clears
abbrev pub is_cleared_spot : Intent → Spot → Bool
is_cleared_spot N Spot.Nowhere = false
is_cleared_spot N (Spot.Row r c) = false
is_cleared_spot N (Spot.Register k) = clears N k

-- the nodes that stand in such registers
abbrev pub in_cleared : Document → Intent → Nodes
in_cleared D N n = is_cleared_spot N (D.place n)
