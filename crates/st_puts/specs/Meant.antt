-- What a change means where it stands: the intent. And when a change stands over a document.
use Rattle.std.specs.Prelude.{◌≡◌, ◌≢◌, ◌↔◌, ◌++◌, not, List, [], ◌∷◌, map, Option, Some, None, IsSome, IsTrue, IfSome, if◌then◌else◌}
use Rattle.std.specs.List.{AllByRecursion, filter, flat_map}
use Rattle.st_ids.specs.Listing.{Has}
use Rattle.st_ids.specs.declared.names.CellId.{CellId}
use Rattle.st_ids.specs.declared.names.FieldId.{FieldId}
use Rattle.st_ids.specs.declared.names.NodeId.{NodeId}
use Rattle.st_marks.specs.declared.changes.Change.{Change}
use Rattle.st_marks.specs.declared.intents.Group.{Group}
use Rattle.st_marks.specs.declared.intents.Intent.{Intent}
use Rattle.st_marks.specs.declared.intents.Owned.{Owned}
use Rattle.st_marks.specs.declared.intents.Put.{Put}
use Rattle.st_marks.specs.declared.intents.To.{To}
use Rattle.st_normal.specs.declared.entries.Found.{Found}
use Rattle.st_marks.specs.declared.marks.Loose.{Loose}
use Rattle.st_marks.specs.declared.marks.RegMark.{RegMark}
use Rattle.st_marks.specs.declared.marks.RowMarks.{RowMarks}
use Rattle.st_marks.specs.declared.places.Slot.{Slot}
use Rattle.st_marks.specs.declared.places.Spot.{Spot}
use Rattle.st_marks.specs.declared.schemas.SchemaEntry.{SchemaEntry}
use Rattle.st_marks.specs.Document.{Document, content, owned_cell}
use Rattle.st_marks.specs.Embedding.{is_among}
use Rattle.st_marks.specs.Row.{CellMark, Counted, Gap, Touch, Make, Fill, spread}
use Rattle.st_marks.specs.How.{is_here, is_leave}
use Rattle.st_normal.specs.Rules.{in_rows, entries_of_change}
use Rattle.st_marks.specs.Listings.{cells_before, cells_made, nodes_new, one_or_none}
use Rattle.st_marks.specs.Verdict.{HasBase}
use Rattle.st_puts.specs.Seen.{AreAsSeen}

-- ## Groups

-- the cells made at the front of some marks
abbrev pub made_first : List CellMark → List Owned
made_first [] = []
made_first (Counted ∷ ms) = []
made_first (Gap c ∷ ms) = []
made_first (Touch c n h ∷ ms) = []
made_first (Make c n b ∷ ms) = owned_cell c n ∷ made_first ms
made_first (Fill c n ∷ ms) = []

-- a cell of a row with its mark, and the cells made after it
pub record Along : Type 0 where
  pub slot : Slot
  pub mark : CellMark
  pub made : List Owned

-- the cells of a row, each with its mark
abbrev pub along : List Slot → List CellMark → List Along
along c [] = []
along c (Make d n b ∷ ms) = along c ms
along [] (Counted ∷ ms) = []
along (s ∷ c) (Counted ∷ ms) =
    record { slot = s; mark = Counted; made = made_first ms } ∷ along c ms
along [] (Gap d ∷ ms) = []
along (s ∷ c) (Gap d ∷ ms) =
    record { slot = s; mark = Gap d; made = made_first ms } ∷ along c ms
along [] (Touch d n h ∷ ms) = []
along (s ∷ c) (Touch d n h ∷ ms) =
    record { slot = s; mark = Touch d n h; made = made_first ms } ∷ along c ms
along [] (Fill d n ∷ ms) = []
along (s ∷ c) (Fill d n ∷ ms) =
    record { slot = s; mark = Fill d n; made = made_first ms } ∷ along c ms

-- a group, if it makes a cell
abbrev pub group_of : NodeId → Option CellId → List Owned → List Group
group_of n a [] = []
group_of n a (o ∷ os) = record { node = n; after = a; cells = o ∷ os } ∷ []

-- the groups behind the cells of a row
abbrev pub groups_along : NodeId → List Along → List Group
groups_along n ts = flat_map (λ (t : Along). group_of n (Some t.slot.cell) t.made) ts

-- the groups of a row: what is made at its front, and behind each of its cells
abbrev pub groups_of : Document → RowMarks → List Group
groups_of D r = group_of r.node None (made_first (spread r.marks))
    ++ groups_along r.node (along (content D r.node) (spread r.marks))

-- ## Puts

-- a node, put somewhere
abbrev pub put_to : NodeId → To → Put
put_to n t = record { node = n; to = t }

-- whom the marks of a row put into its cells
abbrev pub row_puts : List CellMark → List Put
row_puts [] = []
row_puts (Counted ∷ ms) = row_puts ms
row_puts (Gap c ∷ ms) = row_puts ms
row_puts (Touch c n h ∷ ms) = if is_here h then put_to n (To.Cell c) ∷ row_puts ms else row_puts ms
row_puts (Make c n b ∷ ms) = if b then put_to n (To.Cell c) ∷ row_puts ms else row_puts ms
row_puts (Fill c n ∷ ms) = put_to n (To.Cell c) ∷ row_puts ms

-- whom a change puts into a register: who comes in, or the occupant that is set there
abbrev pub reg_puts : RegMark → List Put
reg_puts r = map (λ n. put_to n (To.Register r.field)) (one_or_none r.fill)
    ++ (if is_here r.how
    then map (λ n. put_to n (To.Register r.field)) (one_or_none r.held)
    else [])

-- a node that is nowhere and is put there
abbrev pub loose_puts : Loose → List Put
loose_puts l = if is_here l.how then put_to l.node To.Nowhere ∷ [] else []

-- the nodes that leave
abbrev pub leaving_nodes : List Found → List NodeId
leaving_nodes [] = []
leaving_nodes (f ∷ fs) = if is_leave f.how then f.node ∷ leaving_nodes fs else leaving_nodes fs

-- those that leave and are put nowhere
abbrev pub nodes_gone : Change → List NodeId
nodes_gone C =
    filter (λ n. not (is_among (entries_of_change C).put n)) (leaving_nodes (entries_of_change C).found)

-- the register, if it is cleared
abbrev pub cleared_at : RegMark → List FieldId
cleared_at r = if r.clear then r.field ∷ [] else []

-- all puts: into rows, into registers, nowhere where nowhere found, and of those that are gone
abbrev pub puts_meant : Change → List Put
puts_meant C = flat_map (λ (r : RowMarks). row_puts (spread r.marks)) C.rows
    ++ (flat_map reg_puts C.regs
    ++ (flat_map loose_puts C.loose ++ map (λ n. put_to n To.Nowhere) (nodes_gone C)))

-- what the change means in a document: an intent
abbrev pub meant_intent : Document → Change → Intent
meant_intent D C = record {
  rev = C.rev;
  under = C.under;
  new = C.new;
  groups = flat_map (groups_of D) C.rows;
  clear = flat_map cleared_at C.regs;
  put = puts_meant C;
  need = C.need;
  schema = C.schema;
}

-- ## Over a document

-- the change finds what is so in the document, and makes what isn't there
pub record IsOver (D : Document) (C : Change) : Type 0 where
  pub rows : (r : RowMarks) → Has C.rows r
      → AreAsSeen (content D r.node) (cells_before (spread r.marks))
  pub held : (r : RegMark) → Has C.regs r → D.held r.field ≡ r.held
  pub loose : (l : Loose) → Has C.loose l
      → (D.place l.node ≡ Spot.Nowhere) × IsSome (D.nodes l.node)
  pub new_nodes : (n : NodeId) → Has (nodes_new C.new) n → D.nodes n ≡ None
  pub new_cells : (c : CellId) → Has (in_rows cells_made C.rows) c → D.row_of c ≡ None
  pub base : IsTrue C.base ↔ HasBase D.schemas C.schema C.under
  pub new_schema : IfSome C.schema
      (λ _. AllByRecursion (λ (e : SchemaEntry). e.rev ≢ C.rev) D.schemas)
