-- Pieces of the texts of changes, as they are written.
use Rattle.std.specs.Prelude.{ℕ, ℤ, List, [], ◌∷◌, ◌++◌, map, Bool, true, false, codes, decimal}
use Rattle.serde_json.specs.Data.{Data, boolean, number, unsigned, array, item, no_items}
use Rattle.serde_json.specs.Find.{of_integer}
use Rattle.serde_json.specs.Written.{compact_text}
use Rattle.st_ids.specs.declared.names.Atom.{Atom}
use Rattle.st_ids.specs.declared.names.Rev.{Rev}
use Rattle.st_marks.specs.declared.changes.Change.{Change}
use Rattle.st_marks.specs.declared.marks.How.{How}
use Rattle.st_marks.specs.declared.steps.Step.{Step}
use Rattle.st_change_codec.specs.Changes.{list_data}
use Rattle.st_mark_reader.specs.Naming.{Naming}
use Rattle.st_change_writer.specs.Listed.{loose_data, new_data, node_data, register_data, row_data}
use Rattle.st_change_writer.specs.Told.{reg_step_data}

-- an atom in op space: the number of its revision, and its place
abbrev pub op_data : ℤ → ℕ → Data
op_data z n = array (item (number (of_integer z)) (item (number (unsigned n)) no_items))

-- a plain name without its quotes
abbrev pub rev_inside : Rev → List ℕ
rev_inside r = decimal r.session ++ (46 ∷ decimal r.num)

abbrev pub atom_inside : Atom → List ℕ
atom_inside a = rev_inside a.rev ++ (46 ∷ decimal a.at)

-- the beginning of a mark with a word, as far as the first name
abbrev pub how_front : How → List ℕ
how_front How.Stay = codes "[\"at\","
how_front How.Here = codes "[\"set\","
how_front How.Leave = codes "[\"out\","

abbrev pub make_front : Bool → List ℕ
make_front true = codes "[\"make\","
make_front false = codes "[\"hole\","

-- a mark with a cell and a node, from its beginning on, with the texts of the names
abbrev pub cell_mark_text : List ℕ → List ℕ → List ℕ → List ℕ
cell_mark_text front cell node = front ++ (cell ++ 44 ∷ (node ++ 93 ∷ []))

-- what becomes of a node, as a text
abbrev pub how_quoted : How → List ℕ
how_quoted How.Stay = codes "\"at\""
how_quoted How.Here = codes "\"set\""
how_quoted How.Leave = codes "\"out\""

abbrev pub bool_text : Bool → List ℕ
bool_text true = codes "true"
bool_text false = codes "false"

-- a member after its name and what stands before it
abbrev pub after : List ℕ → Data → List ℕ
after front d = front ++ compact_text d

-- the first three members of a change of data, and the other five
abbrev pub head_text : Naming → Change → List ℕ
head_text n c = codes "{\"base\":" ++ (compact_text (boolean c.base) ++ (after (codes ",\"loose\":") (list_data (map (loose_data n) c.loose)) ++ after (codes ",\"need\":") (list_data (map (node_data n) c.need))))

abbrev pub middle_text : Naming → Change → List ℕ
middle_text n c = after (codes ",\"new\":") (list_data (map (new_data n) c.new)) ++ after (codes ",\"regs\":") (list_data (map (register_data n) c.regs))

abbrev pub tail_text : Naming → Change → List ℕ
tail_text n c = after (codes ",\"rev\":") (n.rev c.rev) ++ (after (codes ",\"rows\":") (list_data (map (row_data n) c.rows)) ++ (after (codes ",\"under\":") (n.rev c.under) ++ codes "}"))

-- a change of the schema, as far as the schema
abbrev pub upgrade_head_text : Naming → Change → List ℕ
upgrade_head_text n c = codes "{\"base\":" ++ (compact_text (boolean c.base) ++ (after (codes ",\"rev\":") (n.rev c.rev) ++ codes ",\"schema\":"))

-- the first two members of a step, and the next two, as far as the last
abbrev pub step_head_text : Naming → Step → List ℕ
step_head_text n s = after (codes "{\"loose\":") (list_data (map (loose_data n) s.loose)) ++ after (codes ",\"new\":") (list_data (map (new_data n) s.new))

abbrev pub step_tail_text : Naming → Step → List ℕ
step_tail_text n s = after (codes ",\"regs\":") (list_data (map (reg_step_data n) s.regs)) ++ (after (codes ",\"rows\":") (list_data (map (row_data n) s.rows)) ++ codes ",\"schema\":")
