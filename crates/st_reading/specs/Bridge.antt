-- What a step says of a row after a change that stands beside it, which was void before the step or not, and is void after it or
-- not: read off what the two say of the row before, by where the change puts nodes. It is one table, as that of the change.
use Rattle.std.specs.Prelude.{Bool, true, false, not, ◌&&◌, ◌||◌, List, map, Option, None, if◌then◌else◌}
use Rattle.st_ids.specs.declared.names.CellId.{CellId}
use Rattle.st_ids.specs.declared.names.NodeId.{NodeId}
use Rattle.st_kind.specs.Named.{Nodes}
use Rattle.st_marks.specs.declared.intents.To.{To}
use Rattle.st_marks.specs.declared.marks.How.TheVariants.{Stay, Leave}
use Rattle.st_marks.specs.declared.verdicts.Verdict.{Verdict}
use Rattle.st_marks.specs.Row.{CellMark, Gap, Touch, Make, Fill}
use Rattle.st_rows.specs.Changes.{full_after}
use Rattle.st_rows.specs.Walks.{CellPiece, Both, First, Then, beside}
use Rattle.st_read_laws.specs.Reading.{read}

-- where a change puts a node: a void one puts those that are placed
abbrev pub target_by : Bool → Nodes → (NodeId → Option To) → NodeId → Option To
target_by void placed target_of n = if not void || placed n then target_of n else None

-- whether a cell is full before and after the step, where the change puts nodes so
abbrev pub full_beside : (NodeId → Option To) → CellMark → CellMark → Bool
full_beside g x (Touch c n h) = full_after (g n) c true
full_beside g x (Fill c n) = full_after (g n) c false
full_beside g (Touch c n h) y = full_after (g n) c true
full_beside g (Fill c n) y = full_after (g n) c false
full_beside g x y = true

abbrev pub full_beyond : (NodeId → Option To) → CellMark → CellMark → Bool
full_beyond g x (Touch c n Leave) = full_after (g n) c false
full_beyond g x (Touch c n h) = full_after (g n) c true
full_beyond g x (Fill c n) = full_after (g n) c true
full_beyond g (Touch c n h) y = full_after (g n) c true
full_beyond g (Fill c n) y = full_after (g n) c false
full_beyond g x y = true

-- a cell by whether it is full before and after
abbrev pub turned : CellId → NodeId → Bool → Bool → CellMark
turned c n true true = Touch c n Stay
turned c n true false = Touch c n Leave
turned c n false true = Fill c n
turned c n false false = Gap c

-- a cell that both find
abbrev pub stepped : CellMark → CellMark → Bool → Bool → CellMark
stepped (Touch c n h) y e f = turned c n e f
stepped (Fill c n) y e f = turned c n e f
stepped x (Touch c n h) e f = turned c n e f
stepped x (Fill c n) e f = turned c n e f
stepped x y e f = y

abbrev pub crossed_cell : Bool → Bool → Nodes → (NodeId → Option To) → CellMark → CellMark → CellMark
crossed_cell was is placed t x y = if was && is then y else stepped x y (full_beside (target_by was placed t) x y) (full_beyond (target_by is placed t) x y)

-- whether a cell that the change makes is full
abbrev pub made_by : Bool → Nodes → NodeId → Bool → Bool
made_by void placed n b = if void then b && placed n else b

abbrev pub crossed_piece : Bool → Bool → Nodes → (NodeId → Option To) → CellPiece → CellMark
crossed_piece was is placed t (Both x y) = crossed_cell was is placed t x y
crossed_piece was is placed t (First (Make c n b)) = turned c n (made_by was placed n b) (made_by is placed n b)
crossed_piece was is placed t (First x) = x
crossed_piece was is placed t (Then (Make c n b)) = Make c n (full_after (target_by is placed t n) c b)
crossed_piece was is placed t (Then y) = y

-- the step's row after the change, with empty cells read so
abbrev pub crossed_row : Bool → Bool → Bool → Nodes → (NodeId → Option To) → List CellMark → List CellMark → List CellMark
crossed_row l was is placed t xs ys = map (λ p. read l (crossed_piece was is placed t p)) (beside xs ys)

-- whether an intent that has this verdict is void
abbrev pub is_void : Verdict → Bool
is_void Verdict.Sound = false
is_void (Verdict.Need n) = true
is_void (Verdict.Cycle n) = true
is_void (Verdict.Schema u) = true
