-- New cells.
use Rattle.std.specs.Prelude.{◌≡◌, None}
use Rattle.st_ids.specs.Listing.{Has}
use Rattle.st_ids.specs.declared.names.CellId.{CellId}
use Rattle.st_marks.specs.declared.changes.Change.{Change}
use Rattle.st_marks.specs.Document.{Document}
use Rattle.st_marks.specs.Listings.{cells_made}
use Rattle.st_normal.specs.Rules.{in_rows}

-- the cells that the change makes are in no row of the document
abbrev pub MakesNewCells : Document → Change → Type 0
MakesNewCells D C = (c : CellId) → Has (in_rows cells_made C.rows) c → D.row_of c ≡ None
