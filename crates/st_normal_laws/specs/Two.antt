-- What two find of one document, together.
use Rattle.std.specs.Prelude.{◌≡◌, ◌⊎◌, ◌++◌, ℕ, zero, suc, Bool, not, List, [], ◌∷◌, map, Option, Some, None, if◌then◌else◌}
use Rattle.std.specs.Option.{option_map_or, option_or}
use Rattle.std.specs.List.{AllZip, filter, find, list_any}
use Rattle.st_ids.specs.Listing.{Has}
use Rattle.st_ids.specs.Order.{same_field, same_node}
use Rattle.st_ids.specs.declared.names.CellId.{CellId}
use Rattle.st_ids.specs.declared.names.NodeId.{NodeId}
use Rattle.st_marks.specs.declared.places.Spot.{Spot}
use Rattle.st_marks.specs.Agree.{IsSameView, row_field}
use Rattle.st_marks.specs.Document.{node_of}
use Rattle.st_marks.specs.Listings.{CellView, nodes_standing}
use Rattle.st_normal_laws.specs.Seed.{Finds, FoundHeld, FoundRow}

-- a cell as both show it
abbrev pub join : CellView → CellView → CellView
join x y = record { cell = option_or x.cell y.cell; node = option_or x.node y.node; full = x.full }

-- a row as both show it
abbrev pub cells_of_both : List CellView → List CellView → List CellView
cells_of_both [] ys = []
cells_of_both (x ∷ xs) [] = x ∷ xs
cells_of_both (x ∷ xs) (y ∷ ys) = join x y ∷ cells_of_both xs ys

-- the cells that the other lists in the row
abbrev pub cells_of_row : List FoundRow → NodeId → List CellView
cells_of_row rows n = option_map_or (λ (r : FoundRow). r.cells)
    (find (λ (r : FoundRow). same_node r.node n) rows) []

-- the row as it is shown together with the other
abbrev pub joined_row : List FoundRow → FoundRow → FoundRow
joined_row rows r = record { node = r.node; cells = cells_of_both r.cells (cells_of_row rows r.node) }

-- whether a node's row is listed
abbrev pub lists_row : List FoundRow → NodeId → Bool
lists_row rows n = list_any (λ (r : FoundRow). same_node r.node n) rows

-- the rows of both, each once
abbrev pub rows_of_both : List FoundRow → List FoundRow → List FoundRow
rows_of_both ps qs =
    map (joined_row qs) ps ++ filter (λ (r : FoundRow). not (lists_row ps r.node)) qs

-- the registers of both, each once
abbrev pub held_of_both : List FoundHeld → List FoundHeld → List FoundHeld
held_of_both ps qs = ps
    ++ filter
    (λ (h : FoundHeld). not (list_any (λ (k : FoundHeld). same_field k.field h.field) ps)) qs

-- what both find
abbrev pub joined_finds : Finds → Finds → Finds
joined_finds A B = record {
  rows = rows_of_both A.rows B.rows;
  held = held_of_both A.held B.held;
  known = A.known ++ B.known;
  schemas = A.schemas;
}

-- ## Names by their places

-- the name of a cell
abbrev pub cell_key : CellView → Option CellId
cell_key x = x.cell

-- the node of a full cell
abbrev pub node_key : CellView → Option NodeId
node_key x = if x.full then x.node else None

-- the k-th cell of a row has this name
abbrev pub IsNamedAt : {K : Type 0} → (CellView → Option K) → List CellView → ℕ → K → Type 0
IsNamedAt key [] k c = ⊥
IsNamedAt key (x ∷ xs) zero c = key x ≡ Some c
IsNamedAt key (x ∷ xs) (suc k) c = IsNamedAt key xs k c

-- rows of two that name one thing are those of one node, and name it at one place
abbrev pub RowsAgree : {K : Type 0} → (CellView → Option K) → List FoundRow → List FoundRow → Type 0
RowsAgree {K} key ps qs = (p q : FoundRow) (k l : ℕ) (c : K) → Has ps p → Has qs q
    → IsNamedAt key p.cells k c → IsNamedAt key q.cells l c → (p.node ≡ q.node) × (k ≡ l)

-- ## When two agree

-- a node is found in a field: a row's place is told by its node alone
abbrev pub IsUnder : Finds → NodeId → Spot → Type 0
IsUnder W n s =
    ((r : FoundRow)
    × Has W.rows r × Has (nodes_standing r.cells) n × (s ≡ Spot.Register (row_field r.node)))
    ⊎ ((h : FoundHeld) × Has W.held h × (h.node ≡ Some n) × (s ≡ Spot.Register h.field))

-- the node above one that is found is found too, or by neither
abbrev pub IsClosedBeside : Finds → Finds → Type 0
IsClosedBeside A B = (n p : NodeId) (s : Spot) → IsUnder A n s → node_of s ≡ Some p
    → ((t : Spot) × IsUnder A p t) ⊎ ((t : Spot) → IsUnder A p t ⊎ IsUnder B p t → ⊥)

-- the node above one that is found is found too, or by the first, or by neither
abbrev pub IsClosedAfter : Finds → Finds → Type 0
IsClosedAfter B A = (n p : NodeId) (s : Spot) → IsUnder B n s → node_of s ≡ Some p
    → ((t : Spot) × IsUnder B p t) ⊎ ((t : Spot) × IsUnder A p t)
    ⊎ ((t : Spot) → IsUnder A p t ⊎ IsUnder B p t → ⊥)

-- what two find differs nowhere
pub record AgreeBeside (A B : Finds) : Type 0 where
  pub rows : (p q : FoundRow) → Has A.rows p → Has B.rows q → p.node ≡ q.node
      → AllZip IsSameView p.cells q.cells
  pub cells : RowsAgree cell_key A.rows B.rows
  pub nodes : RowsAgree node_key A.rows B.rows
  pub held : (h k : FoundHeld) → Has A.held h → Has B.held k → h.field ≡ k.field → h.node ≡ k.node
  pub held_once : (h k : FoundHeld) (n : NodeId) → Has A.held h → Has B.held k
      → h.node ≡ Some n → k.node ≡ Some n → h.field ≡ k.field
  pub row_held : (p : FoundRow) (k : FoundHeld) (n : NodeId) → Has A.rows p → Has B.held k
      → Has (nodes_standing p.cells) n → k.node ≡ Some n → ⊥
  pub held_row : (h : FoundHeld) (q : FoundRow) (n : NodeId) → Has A.held h → Has B.rows q
      → h.node ≡ Some n → Has (nodes_standing q.cells) n → ⊥
  pub first_closed : IsClosedBeside A B
  pub second_closed : IsClosedAfter B A
