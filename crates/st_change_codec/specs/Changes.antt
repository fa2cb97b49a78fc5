-- The JSON form of a change, with plain names: a revision is `"s.n"`, a node or a cell `"s.n.a"`. Members of objects stand
-- in the order of their names.
use Rattle.std.specs.Prelude.{ℕ, List, [], ◌∷◌, map, Bool, true, false, Option, None, Some, codes}
use Rattle.serde_json.specs.Data.{Data, null, boolean, number, unsigned, string, array, object, no_members, member}
use Rattle.serde_json.specs.View.{items_of}
use Rattle.st_ids.specs.LeafText.{leaf_data}
use Rattle.st_ids.specs.Names.{rev_text, atom_text}
use Rattle.st_ids.specs.declared.names.CellId.{CellId}
use Rattle.st_ids.specs.declared.names.Leaf.{Leaf}
use Rattle.st_ids.specs.declared.names.NodeId.{NodeId}
use Rattle.st_ids.specs.declared.names.Rev.{Rev}
use Rattle.st_marks.specs.declared.changes.Change.{Change}
use Rattle.st_marks.specs.declared.changes.NewNode.{NewNode}
use Rattle.st_marks.specs.declared.marks.How.{How}
use Rattle.st_marks.specs.declared.marks.Loose.{Loose}
use Rattle.st_marks.specs.declared.marks.Mark.{Mark}
use Rattle.st_marks.specs.declared.marks.RegMark.{RegMark}
use Rattle.st_marks.specs.declared.marks.RowMarks.{RowMarks}
use Rattle.st_change_codec.specs.SchemaTexts.{text_data}

abbrev pub list_data : List Data → Data
list_data ds = array (items_of ds)

-- ## Names

abbrev pub rev_data : Rev → Data
rev_data r = string (rev_text r)

abbrev pub cell_data : CellId → Data
cell_data c = string (atom_text c.0)

abbrev pub node_data : NodeId → Data
node_data n = string (atom_text n.0)

abbrev pub node_or_null : Option NodeId → Data
node_or_null None = null
node_or_null (Some n) = node_data n

-- ## What a change lists

abbrev pub how_text : How → List ℕ
how_text How.Stay = codes "at"
how_text How.Here = codes "set"
how_text How.Leave = codes "out"

-- a new cell is full with its owner, or a hole
abbrev pub make_text : Bool → List ℕ
make_text true = codes "make"
make_text false = codes "hole"

-- a word, a cell and a node
abbrev pub cell_mark_data : List ℕ → CellId → NodeId → Data
cell_mark_data word c n = list_data (string word ∷ cell_data c ∷ node_data n ∷ [])

abbrev pub gap_data : CellId → Data
gap_data c = list_data (string (codes "gap") ∷ cell_data c ∷ [])

abbrev pub mark_data : Mark → Data
mark_data (Mark.Skip k) = number (unsigned k)
mark_data (Mark.Gap c) = gap_data c
mark_data (Mark.Touch c n how) = cell_mark_data (how_text how) c n
mark_data (Mark.Make c n full) = cell_mark_data (make_text full) c n
mark_data (Mark.Fill c n) = cell_mark_data (codes "fill") c n

abbrev pub marks_data : List Mark → Data
marks_data ms = list_data (map mark_data ms)

-- the whole row of a node
abbrev pub row_data : RowMarks → Data
row_data r = list_data (node_data r.node ∷ marks_data r.marks ∷ [])

-- a register: who is there, what becomes of that node, whether it is cleared, and who comes in
abbrev pub register_data : RegMark → Data
register_data r = list_data (node_data r.field.node ∷ string r.field.key.0 ∷ node_or_null r.held ∷ string (how_text r.how) ∷ boolean r.clear ∷ node_or_null r.fill ∷ [])

-- a mentioned node that is nowhere
abbrev pub loose_data : Loose → Data
loose_data l = list_data (node_data l.node ∷ string (how_text l.how) ∷ [])

-- a new node with its type, and its value if it is a leaf
abbrev pub made_data : NodeId → List ℕ → Option Leaf → Data
made_data n ty None = list_data (node_data n ∷ string ty ∷ [])
made_data n ty (Some v) = list_data (node_data n ∷ string ty ∷ leaf_data v ∷ [])

abbrev pub new_data : NewNode → Data
new_data m = made_data m.node m.ty m.leaf

-- ## Changes

-- a change of data
abbrev pub edits_data : Change → Data
edits_data c = object (
    member (codes "base") (boolean c.base) (
    member (codes "loose") (list_data (map loose_data c.loose)) (
    member (codes "need") (list_data (map node_data c.need)) (
    member (codes "new") (list_data (map new_data c.new)) (
    member (codes "regs") (list_data (map register_data c.regs)) (
    member (codes "rev") (rev_data c.rev) (
    member (codes "rows") (list_data (map row_data c.rows)) (
    member (codes "under") (rev_data c.under) no_members))))))))

-- a change of the schema, to that of a text
abbrev pub upgrade_data : Change → List ℕ → Data
upgrade_data c text = object (
    member (codes "base") (boolean c.base) (
    member (codes "rev") (rev_data c.rev) (
    member (codes "schema") (text_data text) (
    member (codes "under") (rev_data c.under) no_members))))

abbrev pub data_with : Change → Option (List ℕ) → Data
data_with c None = edits_data c
data_with c (Some text) = upgrade_data c text

abbrev pub change_data : Change → Data
change_data c = data_with c c.schema
