-- What one change finds, of which its seed is made.
use Rattle.std.specs.Prelude.{◌+◌, ◌++◌, ℕ, suc, Bool, List, [], ◌∷◌, map, if◌then◌else◌}
use Rattle.st_ids.specs.Order.{same_rev}
use Rattle.st_ids.specs.declared.names.Atom.{Atom}
use Rattle.st_ids.specs.declared.names.CellId.{CellId}
use Rattle.st_ids.specs.declared.names.NodeId.{NodeId}
use Rattle.st_ids.specs.declared.names.Rev.{Rev}
use Rattle.st_marks.specs.declared.changes.Change.{Change}
use Rattle.st_normal.specs.declared.entries.Found.{Found}
use Rattle.st_marks.specs.declared.marks.RegMark.{RegMark}
use Rattle.st_marks.specs.declared.marks.RowMarks.{RowMarks}
use Rattle.st_marks.specs.declared.schemas.SchemaEntry.{SchemaEntry}
use Rattle.st_ids.specs.Root.{opening}
use Rattle.st_marks.specs.Row.{spread}
use Rattle.st_normal.specs.Rules.{in_rows, fields_of, entries_of_change}
use Rattle.st_marks.specs.Listings.{cells_before, cells_in, nodes_new}
use Rattle.st_normal_laws.specs.Seed.{Finds, FoundHeld, FoundRow}

-- a number above all sessions of some names
abbrev pub over_all : List Atom → ℕ
over_all [] = 1
over_all (a ∷ names) = suc (a.rev.session + over_all names)

-- the atoms of nodes
abbrev pub node_atoms : List NodeId → List Atom
node_atoms ns = map (λ (n : NodeId). n.0) ns

-- the atoms of cells
abbrev pub cell_atoms : List CellId → List Atom
cell_atoms cs = map (λ (c : CellId). c.0) cs

-- a listed row as it is before
abbrev pub found_row : RowMarks → FoundRow
found_row r = record { node = r.node; cells = cells_before (spread r.marks) }

-- a listed register as it is before
abbrev pub found_reg : RegMark → FoundHeld
found_reg r = record { field = r.field; node = r.held }

-- an entry with no text
abbrev pub entry : Rev → SchemaEntry
entry r = record { rev = r; text = [] }

-- the shortest list of entries over which a change of data can stand
abbrev pub entries_for : Bool → Rev → List SchemaEntry
entries_for base under = if base
    then (if same_rev under opening then entry opening ∷ [] else entry opening ∷ entry under ∷ [])
    else entry opening ∷ []

-- the nodes that a change finds
abbrev pub nodes_of_found : Change → List NodeId
nodes_of_found C = map (λ (f : Found). f.node) (entries_of_change C).found

-- what a change finds
abbrev pub finds_of : Change → Finds
finds_of C = record {
  rows = map found_row C.rows;
  held = map found_reg C.regs;
  known = nodes_of_found C;
  schemas = entries_for C.base C.under;
}

-- all names that it has
abbrev pub names_in : Change → List Atom
names_in C = node_atoms (nodes_new C.new)
    ++ (node_atoms (nodes_of_found C)
    ++ (node_atoms (fields_of (entries_of_change C)) ++ cell_atoms (in_rows cells_in C.rows)))
