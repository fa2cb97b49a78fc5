-- A value that is a change over one form of names is a change over each form that has a name wherever the first has one.
use Rattle.std.proofs.Common.{ℕ, Bool, true, false, List, ◌∷◌, is_some, codes, Option, None, Some, option_map, option_and_then}
use Rattle.std.specs.Prelude.{if◌then◌else◌}
use Rattle.serde_json.specs.Data.{Data, Items, item, no_items}
use Rattle.serde_json.specs.Find.{as_array, as_bool, as_null, as_str, get}
use Rattle.st_ids.specs.declared.names.CellId.{CellId}
use Rattle.st_ids.specs.declared.names.FieldId.{FieldId}
use Rattle.st_ids.specs.declared.names.Key.{Key}
use Rattle.st_ids.specs.declared.names.Leaf.{Leaf}
use Rattle.st_ids.specs.declared.names.NodeId.{NodeId}
use Rattle.st_ids.specs.declared.names.Atom.{Atom}
use Rattle.st_ids.specs.declared.names.Rev.{Rev}
use Rattle.st_marks.specs.declared.changes.Change.{Change}
use Rattle.st_marks.specs.declared.changes.NewNode.{NewNode}
use Rattle.st_marks.specs.declared.marks.How.{How}
use Rattle.st_marks.specs.declared.marks.Loose.{Loose}
use Rattle.st_marks.specs.declared.marks.Mark.{Mark}
use Rattle.st_marks.specs.declared.marks.RegMark.{RegMark}
use Rattle.st_marks.specs.declared.marks.RowMarks.{RowMarks}
use Rattle.st_schema.specs.Reading.{first_of, two_in}
use Rattle.st_schema.specs.Schema.{same}
use Rattle.st_schema.specs.TreeText.{leaf_of}
use Rattle.st_mark_reader.specs.Naming.{NameForm}
use Rattle.st_mark_reader.specs.Reading.{branch_node_of, cell_mark_of, cell_of, each_of, fate_of, field_of, gap_of, how_named, how_of, if_no_leaf_type, if_of_type, is_named, key_of, leaf_node_of, list_of, loose_in, loose_of, mark_in, mark_named, mark_of, member_of, new_in, new_of, node_of, occupant_of, register_at, register_in, register_of, row_in, row_of, six_in, small_number, three_in, typed_leaf}
use Rattle.st_mark_reader.specs.declared.parts.Fate.{Fate}
use Rattle.st_change_reader.specs.Reading.{change_of, edit_names, edits_of, fields_of, ground_of, nodes_of, read_edits, read_lists, read_upgrade, schema_text_of, upgrade_names, upgrade_of}
use Rattle.st_change_reader.specs.declared.parts.Fields.{Fields}
use Rattle.st_change_reader.specs.declared.parts.Ground.{Ground}
use Rattle.st_change_reader.specs.declared.parts.Nodes.{Nodes}

-- where the first is something, so is the second
abbrev pub Covers : {A B : Type 0} → Option A → Option B → Type 0
Covers None p = Unit {0}
Covers (Some x) None = ⊥
Covers (Some x) (Some y) = Unit {0}

it : {A : Type 0} (o : Option A) → Covers o o
it None = tt
it (Some x) = tt

pub one : {A B : Type 0} (o : Option A) (y : B) → Covers o (Some y)
one None y = tt
one (Some x) y = tt

along : {A B C D : Type 0} (f : A → Option B) (g : C → Option D) (o : Option A) (p : Option C) → Covers o p → ((x : A) (y : C) → Covers (f x) (g y)) → Covers (option_and_then f o) (option_and_then g p)
along f g None p h each = tt
along f g (Some x) None h each = absurd h
along f g (Some x) (Some y) h each = each x y

alike : {A B D : Type 0} (f : A → Option B) (g : A → Option D) (o : Option A) → ((x : A) → Covers (f x) (g x)) → Covers (option_and_then f o) (option_and_then g o)
alike f g None each = tt
alike f g (Some x) each = each x

over : {A B C D : Type 0} (f : A → B) (g : C → D) (o : Option A) (p : Option C) → Covers o p → Covers (option_map f o) (option_map g p)
over f g None p h = tt
over f g (Some x) None h = absurd h
over f g (Some x) (Some y) h = tt

by_test : {A B : Type 0} (b : Bool) (o p : Option A) (q r : Option B) → Covers o q → Covers p r → Covers (if b then o else p) (if b then q else r)
by_test true o p q r h k = h
by_test false o p q r h k = k

by_first : {A B D : Type 0} (o : Option A) (f : A → Option B) (g : A → Option D) (p : Option B) (q : Option D) → ((x : A) → Covers (f x) (g x)) → Covers p q → Covers (first_of o f p) (first_of o g q)
by_first None f g p q each rest = rest
by_first (Some x) f g p q each rest = each x

-- ## Values

each : {A : Type 0} (f g : Data → Option A) → ((d : Data) → Covers (f d) (g d)) → (ds : Items) → Covers (each_of f ds) (each_of g ds)
each f g h no_items = tt
each {A} f g h (item d ds) =
    let more : (Data → Option A) → A → Option (List A) = λ k x. option_map (λ xs. x ∷ xs) (each_of k ds) in
    along (more f) (more g) (f d) (g d) (h d) (λ x y. over (λ xs. x ∷ xs) (λ xs. y ∷ xs) (each_of f ds) (each_of g ds) (each f g h ds))

list : {A : Type 0} (f g : Data → Option A) → ((d : Data) → Covers (f d) (g d)) → (d : Data) → Covers (list_of f d) (list_of g d)
list f g h d = alike (each_of f) (each_of g) (as_array d) (each f g h)

within : {A : Type 0} (f g : Data → Option A) → ((d : Data) → Covers (f d) (g d)) → (name : List ℕ) (d : Data) → Covers (member_of f name d) (member_of g name d)
within f g h name d = alike f g (get name d) h

named : (t : List ℕ) (c e : CellId) (x y : NodeId) → Covers (mark_named t c x) (mark_named t e y)
named t c e x y =
    let others : CellId → NodeId → Option Mark = λ c x. option_map (λ (how : How). Mark.Touch c x how) (how_named t) in
    let fills : CellId → NodeId → Option Mark = λ c x. if same t (codes "fill") then Some (Mark.Fill c x) else others c x in
    let holes : CellId → NodeId → Option Mark = λ c x. if same t (codes "hole") then Some (Mark.Make c x false) else fills c x in
    by_test (same t (codes "make")) (Some (Mark.Make c x true)) (holes c x) (Some (Mark.Make e y true)) (holes e y) tt
    (by_test (same t (codes "hole")) (Some (Mark.Make c x false)) (fills c x) (Some (Mark.Make e y false)) (fills e y) tt
    (by_test (same t (codes "fill")) (Some (Mark.Fill c x)) (others c x) (Some (Mark.Fill e y)) (others e y) tt
    (over (λ (how : How). Mark.Touch c x how) (λ (how : How). Mark.Touch e y how) (how_named t) (how_named t) (it (how_named t)))))

module _ (F G : NameForm) (revs : (d : Data) → Covers (F.rev d) (G.rev d)) (atoms : (d : Data) → Covers (F.atom d) (G.atom d)) where
  -- ## Names

  node : (d : Data) → Covers (node_of F d) (node_of G d)
  node d = over (λ (a : Atom). record { 0 = a }) (λ (a : Atom). record { 0 = a }) (F.atom d) (G.atom d) (atoms d)

  cell : (d : Data) → Covers (cell_of F d) (cell_of G d)
  cell d = over (λ (a : Atom). record { 0 = a }) (λ (a : Atom). record { 0 = a }) (F.atom d) (G.atom d) (atoms d)

  occupant : (d : Data) → Covers (occupant_of F d) (occupant_of G d)
  occupant d =
      let some : Option NodeId → Option (Option NodeId) = λ o. option_map (λ (x : NodeId). Some x) o in
      by_test (is_some (as_null d)) (Some None) (some (node_of F d)) (Some None) (some (node_of G d)) tt (over (λ (x : NodeId). Some x) (λ (x : NodeId). Some x) (node_of F d) (node_of G d) (node d))

  field : (n k : Data) → Covers (field_of F n k) (field_of G n k)
  field n k =
      let made : NodeId → Key → FieldId = λ x key. record { node = x; key = key } in
      along (λ x. option_map (made x) (key_of k)) (λ x. option_map (made x) (key_of k)) (node_of F n) (node_of G n) (node n) (λ x y. over (made x) (made y) (key_of k) (key_of k) (it (key_of k)))

  -- ## Marks

  gap : (w c : Data) → Covers (gap_of F w c) (gap_of G w c)
  gap w c =
      let found : NameForm → Option Mark = λ H. option_map (λ (x : CellId). Mark.Gap x) (cell_of H c) in
      let gaps : NameForm → List ℕ → Option Mark = λ H t. if same t (codes "gap") then found H else None in
      alike (gaps F) (gaps G) (as_str w) (λ t. by_test (same t (codes "gap")) (found F) None (found G) None (over (λ (x : CellId). Mark.Gap x) (λ (x : CellId). Mark.Gap x) (cell_of F c) (cell_of G c) (cell c)) tt)

  cell_mark : (w c x : Data) → Covers (cell_mark_of F w c x) (cell_mark_of G w c x)
  cell_mark w c x =
      let at : NameForm → List ℕ → CellId → Option Mark = λ H t e. option_and_then (λ y. mark_named t e y) (node_of H x) in
      let of : NameForm → List ℕ → Option Mark = λ H t. option_and_then (at H t) (cell_of H c) in
      alike (of F) (of G) (as_str w) (λ t. along (at F t) (at G t) (cell_of F c) (cell_of G c) (cell c) (λ d e. along (λ y. mark_named t d y) (λ y. mark_named t e y) (node_of F x) (node_of G x) (node x) (λ y z. named t d e y z)))

  mark : (d : Data) → Covers (mark_of F d) (mark_of G d)
  mark d =
      let counted : Option Mark = option_map (λ (k : ℕ). Mark.Skip k) (small_number d) in
      let gaps : NameForm → Data × Data → Option Mark = λ H p. gap_of H p.0 p.1 in
      let cells : NameForm → Data × Data × Data → Option Mark = λ H p. cell_mark_of H p.0 p.1 p.2 in
      by_first (as_array d) (mark_in F) (mark_in G) counted counted
      (λ ds. by_first (two_in ds) (gaps F) (gaps G) (option_and_then (cells F) (three_in ds)) (option_and_then (cells G) (three_in ds)) (λ p. gap p.0 p.1) (alike (cells F) (cells G) (three_in ds) (λ p. cell_mark p.0 p.1 p.2)))
      (it counted)

  -- ## What a change lists

  row : (d : Data) → Covers (row_of F d) (row_of G d)
  row d = alike (row_in F) (row_in G) (option_and_then two_in (as_array d)) at
    where
      at : (p : Data × Data) → Covers (row_in F p) (row_in G p)
      at p =
          let made : NodeId → List Mark → RowMarks = λ node marks. record { node = node; marks = marks } in
          along (λ x. option_map (made x) (list_of (mark_of F) p.1)) (λ x. option_map (made x) (list_of (mark_of G) p.1)) (node_of F p.0) (node_of G p.0) (node p.0)
          (λ x y. over (made x) (made y) (list_of (mark_of F) p.1) (list_of (mark_of G) p.1) (list (mark_of F) (mark_of G) mark p.1))

  fate : (h w c f : Data) → Covers (fate_of F h w c f) (fate_of G h w c f)
  fate h w c f =
      let made : Option NodeId → How → Bool → Option NodeId → Fate = λ held how clear fill. record { held = held; how = how; clear = clear; fill = fill } in
      let fills : NameForm → Option NodeId → How → Bool → Option Fate = λ H held how clear. option_map (made held how clear) (occupant_of H f) in
      let clears : NameForm → Option NodeId → How → Option Fate = λ H held how. option_and_then (fills H held how) (as_bool c) in
      let hows : NameForm → Option NodeId → Option Fate = λ H held. option_and_then (clears H held) (how_of w) in
      along (hows F) (hows G) (occupant_of F h) (occupant_of G h) (occupant h)
      (λ x y. alike (clears F x) (clears G y) (how_of w)
      (λ how. alike (fills F x how) (fills G y how) (as_bool c)
      (λ clear. over (made x how clear) (made y how clear) (occupant_of F f) (occupant_of G f) (occupant f))))

  register : (d : Data) → Covers (register_of F d) (register_of G d)
  register d = alike (register_in F) (register_in G) (option_and_then six_in (as_array d)) at
    where
      whole : Fate → FieldId → RegMark
      whole fate field = record { field = field; held = fate.held; how = fate.how; clear = fate.clear; fill = fate.fill }

      at : (p : Data × Data × Data × Data × Data × Data) → Covers (register_in F p) (register_in G p)
      at p =
          along (register_at F p.0 p.1) (register_at G p.0 p.1) (fate_of F p.2 p.3 p.4 p.5) (fate_of G p.2 p.3 p.4 p.5) (fate p.2 p.3 p.4 p.5)
          (λ x y. over (whole x) (whole y) (field_of F p.0 p.1) (field_of G p.0 p.1) (field p.0 p.1))

  loose : (d : Data) → Covers (loose_of F d) (loose_of G d)
  loose d = alike (loose_in F) (loose_in G) (option_and_then two_in (as_array d)) at
    where
      at : (p : Data × Data) → Covers (loose_in F p) (loose_in G p)
      at p =
          let made : NodeId → How → Loose = λ node how. record { node = node; how = how } in
          along (λ x. option_map (made x) (how_of p.1)) (λ x. option_map (made x) (how_of p.1)) (node_of F p.0) (node_of G p.0) (node p.0) (λ x y. over (made x) (made y) (how_of p.1) (how_of p.1) (it (how_of p.1)))

  branch : (n t : Data) → Covers (branch_node_of F n t) (branch_node_of G n t)
  branch n t =
      let made : NodeId → List ℕ → NewNode = λ node ty. record { node = node; ty = ty; leaf = None } in
      let ty : Option (List ℕ) = option_and_then if_no_leaf_type (as_str t) in
      along (λ x. option_map (made x) ty) (λ x. option_map (made x) ty) (node_of F n) (node_of G n) (node n) (λ x y. over (made x) (made y) ty ty (it ty))

  leaf : (n t v : Data) → Covers (leaf_node_of F n t v) (leaf_node_of G n t v)
  leaf n t v =
      let made : NodeId → List ℕ → Leaf → NewNode = λ x ty l. record { node = x; ty = ty; leaf = Some l } in
      let typed : NodeId → Option NewNode = λ x. option_and_then (λ ty. typed_leaf x ty v) (as_str t) in
      along typed typed (node_of F n) (node_of G n) (node n)
      (λ x y. alike (λ ty. typed_leaf x ty v) (λ ty. typed_leaf y ty v) (as_str t)
      (λ ty. over (made x ty) (made y ty) (option_and_then (if_of_type ty) (leaf_of v)) (option_and_then (if_of_type ty) (leaf_of v)) (it (option_and_then (if_of_type ty) (leaf_of v)))))

  new : (d : Data) → Covers (new_of F d) (new_of G d)
  new d = alike (new_in F) (new_in G) (as_array d) at
    where
      branches : NameForm → Data × Data → Option NewNode
      branches H p = branch_node_of H p.0 p.1

      leaves : NameForm → Data × Data × Data → Option NewNode
      leaves H p = leaf_node_of H p.0 p.1 p.2

      at : (ds : Items) → Covers (new_in F ds) (new_in G ds)
      at ds =
          by_first (two_in ds) (branches F) (branches G) (option_and_then (leaves F) (three_in ds)) (option_and_then (leaves G) (three_in ds)) (λ p. branch p.0 p.1)
          (alike (leaves F) (leaves G) (three_in ds) (λ p. leaf p.0 p.1 p.2))

  -- ## Changes

  ground : (d : Data) → Covers (ground_of F d) (ground_of G d)
  ground d =
      let made : Rev → Rev → Bool → Ground = λ rev under base. record { rev = rev; under = under; base = base } in
      let base : Option Bool = member_of as_bool (codes "base") d in
      let unders : NameForm → Rev → Option Ground = λ H rev. option_and_then (λ under. option_map (made rev under) base) (member_of H.rev (codes "under") d) in
      along (unders F) (unders G) (member_of F.rev (codes "rev") d) (member_of G.rev (codes "rev") d) (within F.rev G.rev revs (codes "rev") d)
      (λ r s. along (λ under. option_map (made r under) base) (λ under. option_map (made s under) base) (member_of F.rev (codes "under") d) (member_of G.rev (codes "under") d) (within F.rev G.rev revs (codes "under") d)
      (λ u v. over (made r u) (made s v) base base (it base)))

  fields : (d : Data) → Covers (fields_of F d) (fields_of G d)
  fields d =
      let made : List RowMarks → List RegMark → Fields = λ rows regs. record { rows = rows; regs = regs } in
      let regs : NameForm → Option (List RegMark) = λ H. member_of (list_of (register_of H)) (codes "regs") d in
      along (λ rows. option_map (made rows) (regs F)) (λ rows. option_map (made rows) (regs G)) (member_of (list_of (row_of F)) (codes "rows") d) (member_of (list_of (row_of G)) (codes "rows") d)
      (within (list_of (row_of F)) (list_of (row_of G)) (list (row_of F) (row_of G) row) (codes "rows") d)
      (λ x y. over (made x) (made y) (regs F) (regs G) (within (list_of (register_of F)) (list_of (register_of G)) (list (register_of F) (register_of G) register) (codes "regs") d))

  nodes : (d : Data) → Covers (nodes_of F d) (nodes_of G d)
  nodes d =
      let made : List NodeId → List NewNode → Nodes = λ need new. record { need = need; new = new } in
      let news : NameForm → Option (List NewNode) = λ H. member_of (list_of (new_of H)) (codes "new") d in
      along (λ need. option_map (made need) (news F)) (λ need. option_map (made need) (news G)) (member_of (list_of (node_of F)) (codes "need") d) (member_of (list_of (node_of G)) (codes "need") d)
      (within (list_of (node_of F)) (list_of (node_of G)) (list (node_of F) (node_of G) node) (codes "need") d)
      (λ x y. over (made x) (made y) (news F) (news G) (within (list_of (new_of F)) (list_of (new_of G)) (list (new_of F) (new_of G) new) (codes "new") d))

  lists : (g k : Ground) (d : Data) → Covers (read_lists F g d) (read_lists G k d)
  lists g k d =
      let looses : NameForm → Option (List Loose) = λ H. member_of (list_of (loose_of H)) (codes "loose") d in
      let made : Ground → Nodes → Fields → List Loose → Change = λ g nodes fields loose. edits_of g nodes fields loose in
      let by_fields : NameForm → Ground → Nodes → Option Change = λ H g nodes. option_and_then (λ fields. option_map (made g nodes fields) (looses H)) (fields_of H d) in
      along (by_fields F g) (by_fields G k) (nodes_of F d) (nodes_of G d) (nodes d)
      (λ m n. along (λ fields. option_map (made g m fields) (looses F)) (λ fields. option_map (made k n fields) (looses G)) (fields_of F d) (fields_of G d) (fields d)
      (λ e f. over (made g m e) (made k n f) (looses F) (looses G) (within (list_of (loose_of F)) (list_of (loose_of G)) (list (loose_of F) (loose_of G) loose) (codes "loose") d)))

  edits : (d : Data) → Covers (read_edits F d) (read_edits G d)
  edits d = along (λ g. read_lists F g d) (λ g. read_lists G g d) (ground_of F d) (ground_of G d) (ground d) (λ g k. lists g k d)

  upgrade : (d : Data) → Covers (read_upgrade F d) (read_upgrade G d)
  upgrade d =
      let text : Option (List ℕ) = member_of schema_text_of (codes "schema") d in
      along (λ g. option_map (λ t. upgrade_of g t) text) (λ g. option_map (λ t. upgrade_of g t) text) (ground_of F d) (ground_of G d) (ground d) (λ g k. over (λ t. upgrade_of g t) (λ t. upgrade_of k t) text text (it text))

  pub change : (d : Data) → Covers (change_of F d) (change_of G d)
  change d =
      let others : NameForm → Option Change = λ H. if is_named edit_names d then read_edits H d else None in
      by_test (is_named upgrade_names d) (read_upgrade F d) (others F) (read_upgrade G d) (others G) (upgrade d)
      (by_test (is_named edit_names d) (read_edits F d) None (read_edits G d) None (edits d) tt)
