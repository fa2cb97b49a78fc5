-- The nodes that a change puts into rows and registers, as its marks show them.
use Rattle.std.specs.Prelude.{List, [], ◌∷◌, ◌++◌, Option, Some, None, if◌then◌else◌}
use Rattle.std.specs.List.{flat_map}
use Rattle.st_ids.specs.Listing.{Has}
use Rattle.st_ids.specs.declared.names.NodeId.{NodeId}
use Rattle.st_marks.specs.declared.changes.Change.{Change}
use Rattle.st_marks.specs.declared.marks.RegMark.{RegMark}
use Rattle.st_marks.specs.declared.marks.RowMarks.{RowMarks}
use Rattle.st_marks.specs.Document.{Reaches}
use Rattle.st_marks.specs.How.{is_here}
use Rattle.st_marks.specs.Row.{CellMark, Counted, Gap, Touch, Make, Fill, spread}
use Rattle.st_doc.specs.inside.Ahead.{IsLeastOf}
use Rattle.st_void.specs.declared.standing.When.{When}
use Rattle.st_void.specs.Standing.{above_shown}

-- a node, if there is one
abbrev pub put_here : Option NodeId → List NodeId
put_here None = []
put_here (Some n) = n ∷ []

-- the node that a mark puts into its cell
abbrev pub put_by : CellMark → List NodeId
put_by Counted = []
put_by (Gap c) = []
put_by (Touch c n h) = if is_here h then n ∷ [] else []
put_by (Make c n b) = if b then n ∷ [] else []
put_by (Fill c n) = n ∷ []

-- the nodes that a register's mark puts there: the one that comes in, or the occupant
abbrev pub put_into : RegMark → List NodeId
put_into r = put_here r.fill ++ (if is_here r.how then put_here r.held else [])

-- all of them
abbrev pub puts_shown : Change → List NodeId
puts_shown C = flat_map (λ (r : RowMarks). flat_map put_by (spread r.marks)) C.rows ++ flat_map put_into C.regs

-- the least of some nodes that are above themselves after the change
abbrev pub IsLeastRing : Change → List NodeId → Option NodeId → Type 0
IsLeastRing C ns least = IsLeastOf (λ n. Has ns n × Reaches (above_shown When.After C) n n) least
