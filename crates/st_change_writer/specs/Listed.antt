-- The JSON form of what a change or a step lists, over how a name is told.
use Rattle.std.specs.Prelude.{ℕ, List, [], ◌∷◌, map, Option, None, Some, codes}
use Rattle.serde_json.specs.Data.{Data, null, boolean, number, unsigned, string}
use Rattle.st_ids.specs.LeafText.{leaf_data}
use Rattle.st_ids.specs.declared.names.CellId.{CellId}
use Rattle.st_ids.specs.declared.names.Leaf.{Leaf}
use Rattle.st_ids.specs.declared.names.NodeId.{NodeId}
use Rattle.st_marks.specs.declared.changes.NewNode.{NewNode}
use Rattle.st_marks.specs.declared.marks.Loose.{Loose}
use Rattle.st_marks.specs.declared.marks.Mark.{Mark}
use Rattle.st_marks.specs.declared.marks.RegMark.{RegMark}
use Rattle.st_marks.specs.declared.marks.RowMarks.{RowMarks}
use Rattle.st_change_codec.specs.Changes.{list_data, how_text, make_text}
use Rattle.st_mark_reader.specs.Naming.{Naming}

-- ## Names

abbrev pub node_data : Naming → NodeId → Data
node_data n x = n.atom x.0

abbrev pub node_or_null : Naming → Option NodeId → Data
node_or_null n None = null
node_or_null n (Some x) = node_data n x

-- ## What a change lists

-- a word, a cell and a node
abbrev pub cell_mark_data : Naming → List ℕ → CellId → NodeId → Data
cell_mark_data n word c x = list_data (string word ∷ n.atom c.0 ∷ n.atom x.0 ∷ [])

abbrev pub mark_data : Naming → Mark → Data
mark_data n (Mark.Skip k) = number (unsigned k)
mark_data n (Mark.Gap c) = list_data (string (codes "gap") ∷ n.atom c.0 ∷ [])
mark_data n (Mark.Touch c x how) = cell_mark_data n (how_text how) c x
mark_data n (Mark.Make c x full) = cell_mark_data n (make_text full) c x
mark_data n (Mark.Fill c x) = cell_mark_data n (codes "fill") c x

abbrev pub marks_data : Naming → List Mark → Data
marks_data n ms = list_data (map (mark_data n) ms)

-- the whole row of a node
abbrev pub row_data : Naming → RowMarks → Data
row_data n r = list_data (node_data n r.node ∷ marks_data n r.marks ∷ [])

-- a register: who is there, what becomes of that node, whether it is cleared, and who comes in
abbrev pub register_data : Naming → RegMark → Data
register_data n r = list_data (node_data n r.field.node ∷ string r.field.key.0 ∷ node_or_null n r.held ∷ string (how_text r.how) ∷ boolean r.clear ∷ node_or_null n r.fill ∷ [])

-- a mentioned node that is nowhere
abbrev pub loose_data : Naming → Loose → Data
loose_data n l = list_data (node_data n l.node ∷ string (how_text l.how) ∷ [])

-- a new node with its type, and its value if it is a leaf
abbrev pub made_data : Naming → NodeId → List ℕ → Option Leaf → Data
made_data n x ty None = list_data (node_data n x ∷ string ty ∷ [])
made_data n x ty (Some v) = list_data (node_data n x ∷ string ty ∷ leaf_data v ∷ [])

abbrev pub new_data : Naming → NewNode → Data
new_data n m = made_data n m.node m.ty m.leaf
