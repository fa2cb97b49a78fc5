-- The operations on rows, cell by cell.
use Rattle.std.specs.Prelude.{Bool, true, false, ◌&&◌, List, [], ◌∷◌, map, Option, Some, None, if◌then◌else◌}
use Rattle.std.specs.Option.{option_or}
use Rattle.st_ids.specs.Order.{same_node}
use Rattle.st_ids.specs.declared.names.CellId.{CellId}
use Rattle.st_ids.specs.declared.names.NodeId.{NodeId}
use Rattle.st_marks.specs.declared.marks.How.{How}
use Rattle.st_marks.specs.declared.marks.How.TheVariants.{Stay, Here, Leave}
use Rattle.st_kind.specs.Named.{Nodes}
use Rattle.st_rows.specs.Views.{view_after}
use Rattle.st_rows.specs.Differences.{view_before}
use Rattle.st_rows.specs.Walks.{CellPiece, Both, First, Then, in_turn, beside}
use Rattle.st_marks.specs.Row.{CellMark, Counted, Gap, Touch, Make, Fill, step_cell}

-- ## Steps in turn

-- what two steps say together of a cell that the second finds
abbrev pub composed_mark : CellMark → CellMark → CellMark
composed_mark Counted b = b
composed_mark (Gap c) b = b
composed_mark (Touch c n Leave) (Fill d x) = Touch c n Stay
composed_mark (Touch c n Leave) b = Touch c n Leave
composed_mark (Touch c n h) (Touch d x g) = Touch c n g
composed_mark (Touch c n h) b = Touch c n h
composed_mark (Fill c n) (Touch d x Leave) = Gap c
composed_mark (Fill c n) b = Fill c n
composed_mark (Make c n b) (Touch d x Leave) = Make c n false
composed_mark (Make c n b) (Fill d x) = Make c n true
composed_mark (Make c n b) k = Make c n b

-- a cell over two steps
abbrev pub composed_piece : CellPiece → CellMark
composed_piece (Both x y) = composed_mark x y
composed_piece (First x) = x
composed_piece (Then y) = y

-- the first step and then the second
abbrev pub compose_row : List CellMark → List CellMark → List CellMark
compose_row xs ys = map composed_piece (in_turn xs ys)

-- ## The way back

-- a cell on the way back: a made one is empty again
abbrev pub inverted_mark : CellMark → CellMark
inverted_mark Counted = Counted
inverted_mark (Gap c) = Gap c
inverted_mark (Touch c n Leave) = Fill c n
inverted_mark (Touch c n h) = Touch c n h
inverted_mark (Fill c n) = Touch c n Leave
inverted_mark (Make c n true) = Touch c n Leave
inverted_mark (Make c n false) = Gap c

abbrev pub invert_row : List CellMark → List CellMark
invert_row ms = map inverted_mark ms

-- ## What a change makes of a row

-- a cell, carried out
abbrev pub effected_mark : CellMark → CellMark
effected_mark Counted = Counted
effected_mark (Gap c) = Gap c
effected_mark (Touch c n Here) = Touch c n Stay
effected_mark (Touch c n h) = Touch c n h
effected_mark (Make c n b) = Make c n b
effected_mark (Fill c n) = Fill c n

abbrev pub effect_row : List CellMark → List CellMark
effect_row ms = map effected_mark ms

-- a cell of a void change: found nodes stay where they are, and only placed nodes come into the cells that are made
abbrev pub voided_mark : Nodes → CellMark → CellMark
voided_mark placed Counted = Counted
voided_mark placed (Gap c) = Gap c
voided_mark placed (Touch c n h) = Touch c n Stay
voided_mark placed (Make c n b) = Make c n (b && placed n)
voided_mark placed (Fill c n) = Gap c

abbrev pub void_row : Nodes → List CellMark → List CellMark
void_row placed ms = map (voided_mark placed) ms

-- ## A change after a step

-- how the marks touch a node; the last of them counts
abbrev pub touch_of : List CellMark → NodeId → Option How
touch_of [] n = None
touch_of (Touch c m h ∷ ms) n = option_or (touch_of ms n) (if same_node m n then Some h else None)
touch_of (Counted ∷ ms) n = touch_of ms n
touch_of (Gap c ∷ ms) n = touch_of ms n
touch_of (Make c m b ∷ ms) n = touch_of ms n
touch_of (Fill c m ∷ ms) n = touch_of ms n

-- what becomes of a touched node where the step puts it: it stays if it isn't put, and else leaves
abbrev pub still : How → How
still Stay = Stay
still Here = Leave
still Leave = Leave

-- a cell that the step empties: it is filled again if the change puts the node there
abbrev pub emptied_mark : CellId → NodeId → CellMark → CellMark
emptied_mark c n (Touch a m Here) = Fill c n
emptied_mark c n x = Gap c

-- what becomes of a node that the step puts into a cell where the change wants it, or where it doesn't
abbrev pub how_there : CellMark → How → How
how_there (Fill a m) h = Here
how_there x h = still h

-- a cell that the step fills, by how the change touches the node where it was
abbrev pub filled_mark : CellId → NodeId → CellMark → Option How → CellMark
filled_mark c n x None = Counted
filled_mark c n x (Some h) = Touch c n (how_there x h)

-- a cell that both find
abbrev pub rebased_mark : (NodeId → Option How) → CellMark → CellMark → CellMark
rebased_mark seen x Counted = x
rebased_mark seen x (Gap c) = x
rebased_mark seen x (Touch c n Stay) = x
rebased_mark seen x (Touch c n Here) = x
rebased_mark seen x (Touch c n Leave) = emptied_mark c n x
rebased_mark seen x (Make c n b) = x
rebased_mark seen x (Fill c n) = filled_mark c n x (seen n)

-- a cell that the step makes
abbrev pub gained_cell : (NodeId → Option How) → CellId → NodeId → Bool → CellMark
gained_cell seen c n true = filled_mark c n (Gap c) (seen n)
gained_cell seen c n false = Gap c

-- a cell of the change after the step
abbrev pub rebased_piece : (NodeId → Option How) → CellPiece → CellMark
rebased_piece seen (Both x y) = rebased_mark seen x y
rebased_piece seen (First x) = x
rebased_piece seen (Then (Make c n b)) = gained_cell seen c n b
rebased_piece seen (Then y) = y

-- the change after the step
abbrev pub over_row : (NodeId → Option How) → List CellMark → List CellMark → List CellMark
over_row seen xs ys = map (rebased_piece seen) (beside xs ys)

-- ## A step after a change

-- a cell with its owner named, by whether it is full before and whether it is full after
abbrev pub turned_mark : CellId → NodeId → Bool → Bool → CellMark
turned_mark c n a b = step_cell (λ _. true) c n a b

-- a cell that both find, full or not before and after as it is said: its owner is named where the change or the step names
-- it, and else it is as the step has it
abbrev pub stepped_mark : CellMark → CellMark → Bool → Bool → CellMark
stepped_mark (Touch c n h) y a b = turned_mark c n a b
stepped_mark (Fill c n) y a b = turned_mark c n a b
stepped_mark (Gap c) (Fill d n) a b = turned_mark d n a b
stepped_mark (Gap c) y a b = y
stepped_mark (Make c n f) y a b = y
stepped_mark Counted y a b = y

-- whether the cell is full before: as the change finds it, if it was void, and else as the change leaves it
abbrev pub full_first : Bool → CellMark → Bool
full_first void x = if void then (view_before x).full else (view_after x).full

-- whether it is full after: as the step leaves it, if the change is void, and else as the change does where it stands then
abbrev pub full_then : Bool → (NodeId → Option How) → CellMark → CellMark → Bool
full_then void seen x y = if void then (view_after y).full else (view_after (rebased_mark seen x y)).full

-- what the step says of the cell over the change
abbrev pub bridged_mark : Bool → Bool → (NodeId → Option How) → CellMark → CellMark → CellMark
bridged_mark was_void is_void seen x y = if was_void && is_void then y else stepped_mark x y (full_first was_void x) (full_then is_void seen x y)

-- whether a cell that the change makes is full: if it is void, only with a placed node
abbrev pub made_full : Nodes → NodeId → Bool → Bool → Bool
made_full placed n full void = if void then full && placed n else full

-- whether a cell that the step makes is full
abbrev pub gained_full : (NodeId → Option How) → CellId → NodeId → Bool → Bool → Bool
gained_full seen c n full void = if void then full else (view_after (gained_cell seen c n full)).full

-- a cell of the step after the change
abbrev pub bridged_piece : Bool → Bool → Nodes → (NodeId → Option How) → CellPiece → CellMark
bridged_piece was_void is_void placed seen (Both x y) = bridged_mark was_void is_void seen x y
bridged_piece was_void is_void placed seen (First (Make c n b)) = turned_mark c n (made_full placed n b was_void) (made_full placed n b is_void)
bridged_piece was_void is_void placed seen (First x) = x
bridged_piece was_void is_void placed seen (Then (Make c n b)) = Make c n (gained_full seen c n b is_void)
bridged_piece was_void is_void placed seen (Then y) = y

-- the step after the change
abbrev pub bridge_row : Bool → Bool → Nodes → (NodeId → Option How) → List CellMark → List CellMark → List CellMark
bridge_row was_void is_void placed seen xs ys = map (bridged_piece was_void is_void placed seen) (beside xs ys)

-- ## Two changes in turn

-- what two changes say together of a cell that the second finds
abbrev pub joined_mark : CellMark → CellMark → CellMark
joined_mark Counted y = y
joined_mark (Gap c) y = y
joined_mark (Touch c n Leave) (Fill d x) = Touch c n Here
joined_mark (Touch c n Leave) y = Touch c n Leave
joined_mark (Touch c n h) (Touch d x Stay) = Touch c n h
joined_mark (Touch c n h) (Touch d x g) = Touch c n g
joined_mark (Touch c n h) y = Touch c n h
joined_mark (Fill c n) (Touch d x Leave) = Gap c
joined_mark (Fill c n) y = Fill c n
joined_mark (Make c n b) (Touch d x Leave) = Make c n false
joined_mark (Make c n b) (Fill d x) = Make c n true
joined_mark (Make c n b) y = Make c n b

-- a cell of both changes
abbrev pub joined_piece : CellPiece → CellMark
joined_piece (Both x y) = joined_mark x y
joined_piece (First x) = x
joined_piece (Then y) = y

-- both changes as one
abbrev pub join_row : List CellMark → List CellMark → List CellMark
join_row xs ys = map joined_piece (in_turn xs ys)
