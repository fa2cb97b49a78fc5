-- What is told is read back.
use Rattle.std.proofs.Common.{◌≡◌, ◌∙◌, ℕ, ℤ, pos, negsuc, ◌<◌, ◌≤◌, ◌^◌, Bool, true, false, nat_lt, nat_le, List, [], ◌∷◌, map, length, Option, None, Some, option_map, option_and_then, codes, refl, sym, ap, arith}
use Rattle.std.specs.Prelude.{if◌then◌else◌}
use Rattle.std.specs.List.{AllByRecursion}
use Rattle.std.proofs.lemmas.Bool.Decides.{nat_tests}
use Rattle.serde_json.specs.Data.{Data, boolean, string}
use Rattle.serde_json.specs.Find.{as_bool}
use Rattle.serde_json.specs.View.{items_of}
use Rattle.serde_json.specs.Written.{compact_text}
use Rattle.st_ids.specs.LeafText.{leaf_data}
use Rattle.st_ids.specs.Numeral.{small}
use Rattle.st_ids.specs.declared.names.Atom.{Atom}
use Rattle.st_ids.specs.declared.names.CellId.{CellId}
use Rattle.st_ids.specs.declared.names.FieldId.{FieldId}
use Rattle.st_ids.specs.declared.names.Key.{Key}
use Rattle.st_ids.specs.declared.names.Leaf.{Leaf}
use Rattle.st_ids.specs.declared.names.NodeId.{NodeId}
use Rattle.st_ids.specs.declared.names.Rev.{Rev}
use Rattle.st_marks.specs.declared.changes.Change.{Change}
use Rattle.st_marks.specs.declared.changes.NewNode.{NewNode}
use Rattle.st_marks.specs.declared.marks.How.{How}
use Rattle.st_marks.specs.declared.marks.Loose.{Loose}
use Rattle.st_marks.specs.declared.marks.Mark.{Mark}
use Rattle.st_marks.specs.declared.marks.RegMark.{RegMark}
use Rattle.st_marks.specs.declared.marks.RowMarks.{RowMarks}
use Rattle.st_schema.specs.Conforms.{leaf_type}
use Rattle.st_schema.specs.Schema.{SchemaView, is_sound}
use Rattle.st_schema.specs.TreeText.{leaf_of}
use Rattle.st_schema.specs.Written.{schema_data}
use Rattle.st_schema.proofs.Forms.{schema_read}
use Rattle.st_change_codec.specs.Changes.{how_text, list_data}
use Rattle.st_change_codec.specs.SchemaTexts.{if_sound, text_data}
use Rattle.st_mark_reader.specs.Naming.{Naming, NameForm}
use Rattle.st_change_writer.specs.Listed.{loose_data, made_data, mark_data, new_data, node_data, node_or_null, register_data, row_data}
use Rattle.st_mark_reader.specs.Reading.{cell_of, each_of, fate_of, field_of, how_of, if_no_leaf_type, if_of_type, key_of, list_of, loose_of, mark_named, mark_of, new_of, node_of, occupant_of, register_at, register_of, row_of, typed_leaf}
use Rattle.st_mark_reader.specs.declared.parts.Fate.{Fate}
use Rattle.st_change_writer.specs.Told.{change_data, data_with, edits_data, upgrade_data}
use Rattle.st_change_reader.specs.Reading.{change_of, edits_of, fields_of, ground_of, nodes_of, read_lists, schema_text_of, upgrade_of}
use Rattle.st_change_reader.specs.declared.parts.Fields.{Fields}
use Rattle.st_change_reader.specs.declared.parts.Ground.{Ground}
use Rattle.st_change_reader.specs.declared.parts.Nodes.{Nodes}
use Rattle.st_change_laws.specs.Both.{Writes, WritesNames}
use Rattle.st_change_laws.specs.Within.{ChangeIsWithin, ContentIsWithin, FieldIsWithin, IsSchemaText, LeafFits, LeafIsShort, ListsAreEmpty, ListsAreWithin, LooseIsWithin, MarkIsWithin, NewIsWithin, NodeIsWithin, OccupantIsWithin, RegisterIsWithin, RowIsWithin}
use Rattle.st_change_laws.proofs.Changes.{text_told}

pub then_some : {A B : Type 0} (f : A → Option B) (o : Option A) (x : A) (y : Option B) → o ≡ Some x → f x ≡ y → option_and_then f o ≡ y
then_some f o x y e g = ap (option_and_then f) e ∙ g

-- ## Lists

each_writes : {A : Type 0} (f : Data → Option A) (g : A → Data) (P : A → Type 0) → Writes f g P → (xs : List A) → AllByRecursion P xs → each_of f (items_of (map g xs)) ≡ Some xs
each_writes f g P w [] h = refl
each_writes {A} f g P w (x ∷ xs) h =
    then_some (λ (y : A). option_map (λ (ys : List A). y ∷ ys) (each_of f (items_of (map g xs)))) (f (g x)) x (Some (x ∷ xs)) (w x h.0) (ap (option_map (λ (ys : List A). x ∷ ys)) (each_writes f g P w xs h.1))

pub list_writes : {A : Type 0} (f : Data → Option A) (g : A → Data) (P : A → Type 0) → Writes f g P → Writes (list_of f) (λ xs. list_data (map g xs)) (AllByRecursion P)
list_writes f g P w xs h = each_writes f g P w xs h

-- ## Names and keys

pub node_writes : (n : Naming) (F : NameForm) (A : Atom → Type 0) → WritesNames F n A → Writes (node_of F) (node_data n) (NodeIsWithin A)
node_writes n F A w x h = ap (option_map (λ a. record { 0 = a })) (w x.0 h).0

cell_writes : (n : Naming) (F : NameForm) (A : Atom → Type 0) → WritesNames F n A → (c : CellId) → A c.0 → cell_of F (n.atom c.0) ≡ Some c
cell_writes n F A w c h = ap (option_map (λ a. record { 0 = a })) (w c.0 h).0

pub occupant_writes : (n : Naming) (F : NameForm) (A : Atom → Type 0) → WritesNames F n A → Writes (occupant_of F) (node_or_null n) (OccupantIsWithin A)
occupant_writes n F A w None h = refl
occupant_writes n F A w (Some x) h =
    ap (λ (b : Bool). if b then Some None else option_map (λ (y : NodeId). Some y) (node_of F (n.atom x.0))) (w x.0 h).1 ∙ ap (option_map (λ (y : NodeId). Some y)) (node_writes n F A w x h)

key_writes : (k : Key) → length k.0 ≤ 64 → key_of (string k.0) ≡ Some k
key_writes k h = let short : nat_le (length k.0) 64 ≡ true = grind (arith, nat_tests) in ap (λ (b : Bool). if b then Some k else None) short

pub field_writes : (n : Naming) (F : NameForm) (A : Atom → Type 0) → WritesNames F n A → (f : FieldId) → FieldIsWithin A f → field_of F (node_data n f.node) (string f.key.0) ≡ Some f
field_writes n F A w f h =
    let made : NodeId → Key → FieldId = λ x key. record { node = x; key = key } in
    then_some (λ (x : NodeId). option_map (made x) (key_of (string f.key.0))) (node_of F (node_data n f.node)) f.node (Some f) (node_writes n F A w f.node h.0) (ap (option_map (made f.node)) (key_writes f.key h.1))

how_writes : (h : How) → how_of (string (how_text h)) ≡ Some h
how_writes How.Stay = refl
how_writes How.Here = refl
how_writes How.Leave = refl

-- ## Marks

small_writes : (k : ℕ) → k < 2 ^ 32 → small k ≡ Some k
small_writes k h = let low : nat_lt k (2 ^ 32) ≡ true = grind (arith, nat_tests) in ap (λ (b : Bool). if b then Some k else None) low

worded : (n : Naming) (F : NameForm) (A : Atom → Type 0) → WritesNames F n A → (t : List ℕ) (c : CellId) (x : NodeId) (m : Mark) → A c.0 → A x.0 → mark_named t c x ≡ Some m
    → option_and_then (λ cell. option_and_then (λ node. mark_named t cell node) (node_of F (n.atom x.0))) (cell_of F (n.atom c.0)) ≡ Some m
worded n F A w t c x m a b e =
    then_some (λ cell. option_and_then (λ node. mark_named t cell node) (node_of F (n.atom x.0))) (cell_of F (n.atom c.0)) c (Some m) (cell_writes n F A w c a)
    (then_some (λ node. mark_named t c node) (node_of F (n.atom x.0)) x (Some m) (node_writes n F A w x b) e)

pub mark_writes : (n : Naming) (F : NameForm) (A : Atom → Type 0) → WritesNames F n A → Writes (mark_of F) (mark_data n) (MarkIsWithin A)
mark_writes n F A w (Mark.Skip k) h = ap (option_map (λ (j : ℕ). Mark.Skip j)) (small_writes k h)
mark_writes n F A w (Mark.Gap c) h = ap (option_map (λ (d : CellId). Mark.Gap d)) (cell_writes n F A w c h)
mark_writes n F A w (Mark.Touch c x How.Stay) h = worded n F A w (codes "at") c x (Mark.Touch c x How.Stay) h.0 h.1 refl
mark_writes n F A w (Mark.Touch c x How.Here) h = worded n F A w (codes "set") c x (Mark.Touch c x How.Here) h.0 h.1 refl
mark_writes n F A w (Mark.Touch c x How.Leave) h = worded n F A w (codes "out") c x (Mark.Touch c x How.Leave) h.0 h.1 refl
mark_writes n F A w (Mark.Make c x true) h = worded n F A w (codes "make") c x (Mark.Make c x true) h.0 h.1 refl
mark_writes n F A w (Mark.Make c x false) h = worded n F A w (codes "hole") c x (Mark.Make c x false) h.0 h.1 refl
mark_writes n F A w (Mark.Fill c x) h = worded n F A w (codes "fill") c x (Mark.Fill c x) h.0 h.1 refl

-- ## Rows, registers and nodes

pub row_writes : (n : Naming) (F : NameForm) (A : Atom → Type 0) → WritesNames F n A → Writes (row_of F) (row_data n) (RowIsWithin A)
row_writes n F A w r h =
    let made : NodeId → List Mark → RowMarks = λ node marks. record { node = node; marks = marks } in
    then_some (λ (x : NodeId). option_map (made x) (list_of (mark_of F) (list_data (map (mark_data n) r.marks)))) (node_of F (node_data n r.node)) r.node (Some r) (node_writes n F A w r.node h.0)
    (ap (option_map (made r.node)) (list_writes (mark_of F) (mark_data n) (MarkIsWithin A) (mark_writes n F A w) r.marks h.1))

pub loose_writes : (n : Naming) (F : NameForm) (A : Atom → Type 0) → WritesNames F n A → Writes (loose_of F) (loose_data n) (LooseIsWithin A)
loose_writes n F A w l h =
    let made : NodeId → How → Loose = λ node how. record { node = node; how = how } in
    then_some (λ (x : NodeId). option_map (made x) (how_of (string (how_text l.how)))) (node_of F (node_data n l.node)) l.node (Some l) (node_writes n F A w l.node h) (ap (option_map (made l.node)) (how_writes l.how))

pub register_writes : (n : Naming) (F : NameForm) (A : Atom → Type 0) → WritesNames F n A → Writes (register_of F) (register_data n) (RegisterIsWithin A)
register_writes n F A w r h =
    let fate : Fate = record { held = r.held; how = r.how; clear = r.clear; fill = r.fill } in
    let made : Option NodeId → How → Bool → Option NodeId → Fate = λ held how clear fill. record { held = held; how = how; clear = clear; fill = fill } in
    let c = boolean r.clear in let f = node_or_null n r.fill in let word = string (how_text r.how) in
    let is_fate : fate_of F (node_or_null n r.held) word c f ≡ Some fate =
    then_some (λ held. option_and_then (λ how. option_and_then (λ clear. option_map (made held how clear) (occupant_of F f)) (as_bool c)) (how_of word)) (occupant_of F (node_or_null n r.held)) r.held (Some fate) (occupant_writes n F A w r.held h.1)
    (then_some (λ how. option_and_then (λ clear. option_map (made r.held how clear) (occupant_of F f)) (as_bool c)) (how_of word) r.how (Some fate) (how_writes r.how)
    (ap (option_map (made r.held r.how r.clear)) (occupant_writes n F A w r.fill h.2))) in
    let whole : FieldId → RegMark = λ field. record { field = field; held = r.held; how = r.how; clear = r.clear; fill = r.fill } in
    then_some (register_at F (node_data n r.field.node) (string r.field.key.0)) (fate_of F (node_or_null n r.held) word c f) fate (Some r) is_fate (ap (option_map whole) (field_writes n F A w r.field h.0))

leaf_writes : (v : Leaf) → LeafIsShort v → leaf_of (leaf_data v) ≡ Some v
leaf_writes Leaf.Null h = refl
leaf_writes (Leaf.Bool b) h = refl
leaf_writes (Leaf.Int (pos k)) h = let low : nat_lt k (2 ^ 63) ≡ true = grind (arith, nat_tests) in ap (λ (b : Bool). option_map (λ (z : ℤ). Leaf.Int z) (if b then Some (pos k) else None)) low
leaf_writes (Leaf.Int (negsuc k)) h = refl
leaf_writes (Leaf.Words t) h = refl

typed_writes : (v : Leaf) → if_of_type (leaf_type v) v ≡ Some v
typed_writes Leaf.Null = refl
typed_writes (Leaf.Bool b) = refl
typed_writes (Leaf.Int z) = refl
typed_writes (Leaf.Words t) = refl

pub new_writes : (n : Naming) (F : NameForm) (A : Atom → Type 0) → WritesNames F n A → Writes (new_of F) (new_data n) (NewIsWithin A)
new_writes n F A w m h = go m.leaf refl h.1
  where
    go : (o : Option Leaf) → m.leaf ≡ o → LeafFits m.ty o → new_of F (made_data n m.node m.ty o) ≡ Some m
    go None e fits =
        let made : NodeId → List ℕ → NewNode = λ node ty. record { node = node; ty = ty; leaf = None } in
        let other : if_no_leaf_type m.ty ≡ Some m.ty = ap (λ (b : Bool). if b then None else Some m.ty) fits in
        then_some (λ node. option_map (made node) (if_no_leaf_type m.ty)) (node_of F (node_data n m.node)) m.node (Some m) (node_writes n F A w m.node h.0)
        (ap (option_map (made m.node)) other ∙ (λ i. Some (record { node = m.node; ty = m.ty; leaf = sym e i })))
    go (Some v) e fits =
        let made : Leaf → NewNode = λ leaf. record { node = m.node; ty = m.ty; leaf = Some leaf } in
        let value : option_and_then (if_of_type m.ty) (leaf_of (leaf_data v)) ≡ Some v =
        then_some (if_of_type m.ty) (leaf_of (leaf_data v)) v (Some v) (leaf_writes v fits.1) (ap (λ (t : List ℕ). if_of_type t v) fits.0 ∙ typed_writes v) in
        then_some (λ node. typed_leaf node m.ty (leaf_data v)) (node_of F (node_data n m.node)) m.node (Some m) (node_writes n F A w m.node h.0)
        (ap (option_map made) value ∙ (λ i. Some (record { node = m.node; ty = m.ty; leaf = sym e i })))

-- ## Changes

abbrev ground_with : Rev → Rev → Bool → Ground
ground_with rev under base = record { rev = rev; under = under; base = base }

ground_writes : (n : Naming) (F : NameForm) (R : Rev → Type 0) → Writes F.rev n.rev R → (C : Change) → R C.rev → R C.under → (rev under : Option Rev) (base : Option Bool) → rev ≡ F.rev (n.rev C.rev) → under ≡ F.rev (n.rev C.under) → base ≡ Some C.base
    → option_and_then (λ (r : Rev). option_and_then (λ (u : Rev). option_map (ground_with r u) base) under) rev ≡ Some (ground_with C.rev C.under C.base)
ground_writes n F R w C a b rev under base e f g =
    then_some (λ (r : Rev). option_and_then (λ (u : Rev). option_map (ground_with r u) base) under) rev C.rev (Some (ground_with C.rev C.under C.base)) (e ∙ w C.rev a)
    (then_some (λ (u : Rev). option_map (ground_with C.rev u) base) under C.under (Some (ground_with C.rev C.under C.base)) (f ∙ w C.under b) (ap (option_map (ground_with C.rev C.under)) g))

edits_write : (n : Naming) (F : NameForm) (R : Rev → Type 0) (A : Atom → Type 0) → Writes F.rev n.rev R → WritesNames F n A → (C : Change) → R C.rev → R C.under → ListsAreWithin A C → C.schema ≡ None → change_of F (edits_data n C) ≡ Some C
edits_write n F R A r w C hr hu h none =
    let d = edits_data n C in
    let g : Ground = record { rev = C.rev; under = C.under; base = C.base } in
    let nodes : Nodes = record { need = C.need; new = C.new } in
    let fields : Fields = record { rows = C.rows; regs = C.regs } in
    let of_nodes : List NodeId → List NewNode → Nodes = λ need new. record { need = need; new = new } in
    let of_fields : List RowMarks → List RegMark → Fields = λ rows regs. record { rows = rows; regs = regs } in
    let need = list_writes (node_of F) (node_data n) (NodeIsWithin A) (node_writes n F A w) C.need h.need in
    let new = list_writes (new_of F) (new_data n) (NewIsWithin A) (new_writes n F A w) C.new h.new in
    let rows = list_writes (row_of F) (row_data n) (RowIsWithin A) (row_writes n F A w) C.rows h.rows in
    let regs = list_writes (register_of F) (register_data n) (RegisterIsWithin A) (register_writes n F A w) C.regs h.regs in
    let loose = list_writes (loose_of F) (loose_data n) (LooseIsWithin A) (loose_writes n F A w) C.loose h.loose in
    let is_ground : ground_of F d ≡ Some g = ground_writes n F R r C hr hu (F.rev (n.rev C.rev)) (F.rev (n.rev C.under)) (Some C.base) refl refl refl in
    let is_nodes : nodes_of F d ≡ Some nodes = then_some (λ need. option_map (of_nodes need) (list_of (new_of F) (list_data (map (new_data n) C.new)))) (list_of (node_of F) (list_data (map (node_data n) C.need))) C.need (Some nodes) need (ap (option_map (of_nodes C.need)) new) in
    let is_fields : fields_of F d ≡ Some fields = then_some (λ rows. option_map (of_fields rows) (list_of (register_of F) (list_data (map (register_data n) C.regs)))) (list_of (row_of F) (list_data (map (row_data n) C.rows))) C.rows (Some fields) rows (ap (option_map (of_fields C.rows)) regs) in
    let l = list_of (loose_of F) (list_data (map (loose_data n) C.loose)) in
    then_some (λ g. read_lists F g d) (ground_of F d) g (Some C) is_ground
    (then_some (λ nodes. option_and_then (λ fields. option_map (λ loose. edits_of g nodes fields loose) l) (fields_of F d)) (nodes_of F d) nodes (Some C) is_nodes
    (then_some (λ fields. option_map (λ loose. edits_of g nodes fields loose) l) (fields_of F d) fields (Some C) is_fields
    (ap (option_map (λ loose. edits_of g nodes fields loose)) loose ∙ (λ i. Some (record C { schema = sym none i })))))

if_is_sound : (s : SchemaView) (b : Bool) → is_sound s ≡ b → b ≡ true → if_sound s ≡ Some s
if_is_sound s true e q = rw e refl
if_is_sound s false e q = absurd (cc)

pub schema_writes : (t : List ℕ) → IsSchemaText t → schema_text_of (text_data t) ≡ Some t
schema_writes t h =
    let text : SchemaView → List ℕ = λ s. compact_text (schema_data s) in
    let sound : is_sound h.0 ≡ true = h.1 in
    let told : text_data t ≡ schema_data h.0 = ap text_data h.2 ∙ text_told h.0 sound in
    ap schema_text_of told ∙ ap (λ (o : Option SchemaView). option_map text (option_and_then if_sound o)) (schema_read h.0 sound) ∙ ap (option_map text) (if_is_sound h.0 (is_sound h.0) refl sound) ∙ ap (λ (u : List ℕ). Some u) (sym h.2)

upgrade_writes : (n : Naming) (F : NameForm) (R : Rev → Type 0) → Writes F.rev n.rev R → (C : Change) (t : List ℕ) → R C.rev → R C.under → IsSchemaText t → ListsAreEmpty C → C.schema ≡ Some t → change_of F (upgrade_data n C t) ≡ Some C
upgrade_writes n F R r C t hr hu text none some =
    let d = upgrade_data n C t in
    let g : Ground = record { rev = C.rev; under = C.under; base = C.base } in
    let is_ground : ground_of F d ≡ Some g = ground_writes n F R r C hr hu (F.rev (n.rev C.rev)) (F.rev (n.rev C.under)) (Some C.base) refl refl refl in
    then_some (λ g. option_map (λ u. upgrade_of g u) (schema_text_of (text_data t))) (ground_of F d) g (Some C) is_ground
    (ap (option_map (λ u. upgrade_of g u)) (schema_writes t text)
    ∙ (λ i. Some (record { rev = C.rev; under = C.under; base = C.base; need = sym none.need i; new = sym none.new i; rows = sym none.rows i; regs = sym none.regs i; loose = sym none.loose i; schema = sym some i })))

pub change_writes : (n : Naming) (F : NameForm) (R : Rev → Type 0) (A : Atom → Type 0) → Writes F.rev n.rev R → WritesNames F n A → Writes (change_of F) (change_data n) (ChangeIsWithin R A)
change_writes n F R A r w C h = go C.schema refl h.content
  where
    go : (o : Option (List ℕ)) → C.schema ≡ o → ContentIsWithin A C o → change_of F (data_with n C o) ≡ Some C
    go None e content = edits_write n F R A r w C h.rev h.under content e
    go (Some t) e content = upgrade_writes n F R r C t h.rev h.under content.0 content.1 e
