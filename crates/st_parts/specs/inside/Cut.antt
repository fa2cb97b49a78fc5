-- A listing of a change of which less is told, item by item.
use Rattle.std.specs.Prelude.{◌≡◌, ◌||◌, Bool, filter}
use Rattle.std.specs.List.{filter_map}
use Rattle.st_kind.specs.Named.{Nodes}
use Rattle.st_marks.specs.declared.changes.Change.{Change}
use Rattle.st_marks.specs.declared.marks.Loose.{Loose}
use Rattle.st_marks.specs.declared.marks.RegMark.{RegMark}
use Rattle.st_marks.specs.Register.{holds_mentioned}
use Rattle.st_marks.specs.Row.{CellMark}
use Rattle.st_rows.specs.Walks.{CellPiece, Both, First, Then}
use Rattle.st_trim.specs.Trimmed.{trim_mark}
use Rattle.st_trim.specs.inside.Cut.{cut_row}

-- a piece of a row and of its cells counted: the row's mark, with k alone named
abbrev pub trimmed_piece : Nodes → CellPiece → CellMark
trimmed_piece k (Both x y) = trim_mark k x
trimmed_piece k (First x) = trim_mark k x
trimmed_piece k (Then y) = trim_mark k y

-- whether a register is listed, with k alone named
abbrev pub tells_register : Nodes → RegMark → Bool
tells_register k r = r.clear || holds_mentioned k r.held

-- T is G with k alone named, item by item
pub record IsCutTo (k : Nodes) (G T : Change) : Type 0 where
  pub rev : T.rev ≡ G.rev
  pub under : T.under ≡ G.under
  pub base : T.base ≡ G.base
  pub schema : T.schema ≡ G.schema
  pub need : T.need ≡ G.need
  pub new : T.new ≡ G.new
  pub rows : T.rows ≡ filter_map (cut_row k) G.rows
  pub regs : T.regs ≡ filter (tells_register k) G.regs
  pub loose : T.loose ≡ filter (λ (l : Loose). k l.node) G.loose
