-- Where a change and a step meet, one of them says something else after the other.
use Rattle.std.proofs.Common.{◌≡◌, ◌≢◌, Bool, true, false, Option, cond}
use Rattle.st_ids.specs.declared.names.CellId.{CellId}
use Rattle.st_ids.specs.declared.names.NodeId.{NodeId}
use Rattle.st_kind.specs.Named.{Nodes}
use Rattle.st_marks.specs.declared.intents.To.{To}
use Rattle.st_marks.specs.declared.marks.How.{How}
use Rattle.st_marks.specs.declared.marks.How.TheVariants.{Stay, Leave}
use Rattle.st_marks.specs.How.{is_here}
use Rattle.st_marks.specs.Row.{Counted, Touch, Fill, how}
use Rattle.st_rows.specs.Walks.{Both}
use Rattle.st_reading.specs.Bridge.{crossed_piece, turned}
use Rattle.st_reading.specs.Over.{over_piece}
use Rattle.st_read_laws.specs.Reading.{read}
use Rattle.st_passing.proofs.RowsPassed.{leaves}

pub taken : (t : NodeId → Option To) (m : Nodes) (c : CellId) (n : NodeId) (h : How) → over_piece false t m (Both (Touch c n h) (Touch c n Leave)) ≢ Touch c n h
taken t m c n h = go (is_here (how (t n) (To.Cell c)))
  where
    go : (b : Bool) → cond b (Fill c n) Counted ≢ Touch c n h
    go true = λ e. cc
    go false = λ e. cc

pub filled : (t : NodeId → Option To) (m : Nodes) (c : CellId) (n : NodeId) → over_piece false t m (Both (Fill c n) (Fill c n)) ≢ Fill c n
filled t m c n = go (m n)
  where
    go : (b : Bool) → cond b (Touch c n (how (t n) (To.Cell c))) Counted ≢ Fill c n
    go true = λ e. cc
    go false = λ e. cc

pub gone : (t : NodeId → Option To) (placed : Nodes) (c : CellId) (n : NodeId) → how (t n) (To.Cell c) ≡ Leave → read false (crossed_piece false false placed t (Both (Touch c n Leave) (Touch c n Stay))) ≡ Counted
gone t placed c n h =
    let e = leaves (t n) c true h in
    λ i. read false (turned c n (e i) (e i))
