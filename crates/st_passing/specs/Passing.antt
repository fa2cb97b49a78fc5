-- A change and a step of one row that pass each other: neither says anything of a cell that the other says something of, or both
-- only name it. Then each says after the other what it said before, and counts the cells that the other made.
use Rattle.std.specs.Prelude.{◌≡◌, Bool, true, false, not, ◌||◌, List, [], ◌∷◌, map, Option, None, if◌then◌else◌}
use Rattle.std.specs.List.{AllByRecursion}
use Rattle.st_ids.specs.declared.names.NodeId.{NodeId}
use Rattle.st_kind.specs.Named.{Nodes}
use Rattle.st_marks.specs.declared.intents.To.{To}
use Rattle.st_marks.specs.declared.marks.How.TheVariants.{Stay, Here, Leave}
use Rattle.st_marks.specs.How.{is_here}
use Rattle.st_marks.specs.Row.{CellMark, Counted, Gap, Touch, Make, Fill, how}
use Rattle.st_rows.specs.Walks.{CellPiece, Both, First, Then, beside}

-- ## The same marks with counts raised

-- what stays of a piece for the first listing: a cell that the other makes is counted
abbrev pub first_kept : CellPiece → CellMark
first_kept (Both x y) = x
first_kept (First x) = x
first_kept (Then y) = Counted

-- and for the second
abbrev pub then_kept : CellPiece → CellMark
then_kept (Both x y) = y
then_kept (First x) = Counted
then_kept (Then y) = y

-- the change's row, with the cells counted that the step makes
abbrev pub raised : List CellMark → List CellMark → List CellMark
raised xs ys = map first_kept (beside xs ys)

-- the step's row, with the cells counted that the change makes
abbrev pub raised_beside : List CellMark → List CellMark → List CellMark
raised_beside xs ys = map then_kept (beside xs ys)

-- ## Whether they pass: a test of the two listings, which looks at no name. `l` says that empty cells are named

-- where the change counts a cell
abbrev pub counted_passes : Bool → CellMark → Bool
counted_passes l Counted = true
counted_passes l (Gap c) = true
counted_passes l (Touch c n Stay) = true
counted_passes l (Touch c n Here) = false
counted_passes l (Touch c n Leave) = not l
counted_passes l (Make c n b) = false
counted_passes l (Fill c n) = true

-- where it names an empty cell
abbrev pub gap_passes : Bool → CellMark → Bool
gap_passes l Counted = true
gap_passes l (Gap c) = true
gap_passes l (Touch c n h) = false
gap_passes l (Make c n b) = false
gap_passes l (Fill c n) = not l

-- where it only mentions a node, or puts it where it is
abbrev pub stay_passes : CellMark → Bool
stay_passes Counted = true
stay_passes (Gap c) = false
stay_passes (Touch c n Stay) = true
stay_passes (Touch c n h) = false
stay_passes (Make c n b) = false
stay_passes (Fill c n) = false

-- where it takes a node away
abbrev pub leave_passes : Bool → CellMark → Bool
leave_passes l Counted = not l
leave_passes l y = false

-- where it brings a node back
abbrev pub fill_passes : Bool → CellMark → Bool
fill_passes l Counted = true
fill_passes l (Gap c) = not l
fill_passes l (Touch c n h) = false
fill_passes l (Make c n b) = false
fill_passes l (Fill c n) = false

abbrev pub cell_passes : Bool → CellMark → CellMark → Bool
cell_passes l Counted y = counted_passes l y
cell_passes l (Gap c) y = gap_passes l y
cell_passes l (Touch c n Leave) y = leave_passes l y
cell_passes l (Touch c n h) y = stay_passes y
cell_passes l (Make c n b) y = false
cell_passes l (Fill c n) y = fill_passes l y

-- a cell that one of them makes
abbrev pub made_passes : Bool → CellMark → Bool
made_passes l (Make c n b) = b || not l
made_passes l x = false

abbrev pub piece_passes : Bool → CellPiece → Bool
piece_passes l (Both x y) = cell_passes l x y
piece_passes l (First x) = made_passes l x
piece_passes l (Then y) = made_passes l y

abbrev pub all_pass : Bool → List CellPiece → Bool
all_pass l [] = true
all_pass l (p ∷ ps) = if piece_passes l p then all_pass l ps else false

-- the change's and the step's marks of a row don't meet
abbrev pub do_not_meet : Bool → List CellMark → List CellMark → Bool
do_not_meet l xs ys = all_pass l (beside xs ys)

abbrev pub DoesNotMeet : Bool → List CellMark → List CellMark → Type 0
DoesNotMeet l xs ys = do_not_meet l xs ys ≡ true

-- ## What the names have to be: `t` says where the change puts nodes, `m` which it mentions after the step, `k` which the step
-- mentions after the change

-- the change says of a cell what it would say anew
abbrev pub IsSaid : (NodeId → Option To) → Nodes → CellMark → Type 0
IsSaid t m Counted = Unit {0}
IsSaid t m (Gap c) = Unit {0}
IsSaid t m (Touch c n h) = (m n ≡ true) × (how (t n) (To.Cell c) ≡ h)
IsSaid t m (Make c n b) = Unit {0}
IsSaid t m (Fill c n) = how (t n) (To.Cell c) ≡ Here

-- a node that the step names isn't the change's; into an empty cell that the step makes the change puts none
abbrev pub IsUnseen : (NodeId → Option To) → Nodes → CellMark → Type 0
IsUnseen t m Counted = Unit {0}
IsUnseen t m (Gap c) = Unit {0}
IsUnseen t m (Touch c n h) = (m n ≡ false) × (t n ≡ None)
IsUnseen t m (Make c n true) = (m n ≡ false) × (t n ≡ None)
IsUnseen t m (Make c n false) = is_here (how (t n) (To.Cell c)) ≡ false
IsUnseen t m (Fill c n) = (m n ≡ false) × (t n ≡ None)

-- a node that the change names isn't the step's
abbrev pub IsFree : Nodes → CellMark → Type 0
IsFree k Counted = Unit {0}
IsFree k (Gap c) = Unit {0}
IsFree k (Touch c n h) = k n ≡ false
IsFree k (Make c n true) = k n ≡ false
IsFree k (Make c n false) = Unit {0}
IsFree k (Fill c n) = k n ≡ false

-- a node that the step only names is one of those that it mentions
abbrev pub IsNamed : Nodes → CellMark → Type 0
IsNamed k Counted = Unit {0}
IsNamed k (Gap c) = Unit {0}
IsNamed k (Touch c n h) = k n ≡ true
IsNamed k (Make c n b) = Unit {0}
IsNamed k (Fill c n) = Unit {0}

-- where both name a cell it is one, and else the other's names are not theirs
abbrev pub AreApart : (NodeId → Option To) → Nodes → Nodes → CellMark → CellMark → Type 0
AreApart t m k Counted y = IsUnseen t m y
AreApart t m k (Gap c) y = IsUnseen t m y
AreApart t m k (Touch c n h) Counted = k n ≡ false
AreApart t m k (Touch c n h) (Gap d) = k n ≡ false
AreApart t m k (Touch c n h) (Touch d j i) = (c ≡ d) × (n ≡ j)
AreApart t m k (Touch c n h) (Make d j b) = Unit {0}
AreApart t m k (Touch c n h) (Fill d j) = Unit {0}
AreApart t m k (Make c n b) y = Unit {0}
AreApart t m k (Fill c n) y = k n ≡ false

abbrev pub IsAside : (NodeId → Option To) → Nodes → Nodes → CellPiece → Type 0
IsAside t m k (Both x y) = IsSaid t m x × IsNamed k y × AreApart t m k x y
IsAside t m k (First x) = IsFree k x
IsAside t m k (Then y) = IsUnseen t m y

abbrev pub AreAside : (NodeId → Option To) → Nodes → Nodes → List CellMark → List CellMark → Type 0
AreAside t m k xs ys = AllByRecursion (IsAside t m k) (beside xs ys)

-- a node that only stays is counted, unless it is mentioned
abbrev pub trimmed : Nodes → CellMark → CellMark
trimmed k Counted = Counted
trimmed k (Gap c) = Gap c
trimmed k (Touch c n Stay) = if k n then Touch c n Stay else Counted
trimmed k (Touch c n h) = Touch c n h
trimmed k (Make c n b) = Make c n b
trimmed k (Fill c n) = Fill c n
