-- Where a change shows that a node stands, before it and after it.
use Rattle.std.specs.Prelude.{◌≡◌, ◌⊎◌, Bool, false, ◌&&◌, not, Option, Some, option_map}
use Rattle.std.specs.List.{find, list_any}
use Rattle.std.specs.Option.{option_or}
use Rattle.st_ids.specs.Order.{same_node}
use Rattle.st_ids.specs.Root.{root}
use Rattle.st_ids.specs.declared.names.NodeId.{NodeId}
use Rattle.st_marks.specs.declared.changes.Change.{Change}
use Rattle.st_marks.specs.declared.intents.Intent.{Intent}
use Rattle.st_marks.specs.declared.marks.RegMark.{RegMark}
use Rattle.st_marks.specs.declared.marks.RowMarks.{RowMarks}
use Rattle.st_marks.specs.CarryOut.{full}
use Rattle.st_marks.specs.Document.{Document, Reaches}
use Rattle.st_marks.specs.How.{is_leave}
use Rattle.st_marks.specs.Intent.{same_option}
use Rattle.st_marks.specs.Listings.{held_after}
use Rattle.st_marks.specs.Row.{CellMark, Counted, Gap, Touch, Make, Fill, spread}
use Rattle.st_void.specs.declared.standing.When.{When}

-- the document where a change stands, or the one after it
abbrev pub document_at : When → Document → Intent → Document
document_at When.Before D N = D
document_at When.After D N = full D N

-- a mark shows the node in its cell
abbrev pub stands : When → NodeId → CellMark → Bool
stands w n Counted = false
stands w n (Gap c) = false
stands When.Before n (Touch c m h) = same_node m n
stands When.After n (Touch c m h) = same_node m n && not (is_leave h)
stands When.Before n (Make c m b) = false
stands When.After n (Make c m b) = same_node m n && b
stands When.Before n (Fill c m) = false
stands When.After n (Fill c m) = same_node m n

-- who is in a register
abbrev pub held_by : When → RegMark → Option NodeId
held_by When.Before r = r.held
held_by When.After r = held_after r

-- the node in whose row or register a node is shown
abbrev pub above_shown : When → Change → NodeId → Option NodeId
above_shown w C n = option_or
    (option_map (λ (r : RowMarks). r.node) (find (λ (r : RowMarks). list_any (stands w n) (spread r.marks)) C.rows))
    (option_map (λ (r : RegMark). r.field.node) (find (λ (r : RegMark). same_option same_node (held_by w r) (Some n)) C.regs))

-- the node is the root, or beneath it where the change stands, as the change shows it
abbrev pub IsShownLive : Change → NodeId → Type 0
IsShownLive C n = (n ≡ root) ⊎ Reaches (above_shown When.Before C) n root
