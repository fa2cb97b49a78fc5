-- What is read of a value is told by that value, and can be told.
use Rattle.std.proofs.Common.{◌≡◌, ◌∙◌, ℕ, ℤ, pos, negsuc, ◌<◌, ◌≤◌, ◌^◌, Bool, true, false, nat_lt, nat_le, List, [], ◌∷◌, map, length, Option, None, Some, option_map, option_and_then, is_some, codes, refl, ap, subst, arith}
use Rattle.std.specs.Prelude.{if◌then◌else◌}
use Rattle.std.specs.List.{AllByRecursion}
use Rattle.std.proofs.lemmas.Bool.Decides.{nat_tests}
use Rattle.serde_json.specs.Data.{Num, unsigned, negative, float, Data, null, boolean, number, string, array, object, Items, no_items, item}
use Rattle.serde_json.specs.Find.{as_null, as_bool, as_str, as_array, as_number, as_u64, as_i64}
use Rattle.serde_json.specs.View.{items_of}
use Rattle.st_ids.specs.LeafText.{leaf_data}
use Rattle.st_ids.specs.Numeral.{small}
use Rattle.st_ids.specs.declared.names.Atom.{Atom}
use Rattle.st_ids.specs.declared.names.CellId.{CellId}
use Rattle.st_ids.specs.declared.names.FieldId.{FieldId}
use Rattle.st_ids.specs.declared.names.Key.{Key}
use Rattle.st_ids.specs.declared.names.Leaf.{Leaf}
use Rattle.st_ids.specs.declared.names.NodeId.{NodeId}
use Rattle.st_json.proofs.Shared.{is_array, is_string}
use Rattle.st_lemmas.proofs.Options.{one_some, option_map-Some, option_and_then-Some}
use Rattle.st_marks.specs.declared.changes.NewNode.{NewNode}
use Rattle.st_marks.specs.declared.marks.How.{How}
use Rattle.st_marks.specs.declared.marks.Loose.{Loose}
use Rattle.st_marks.specs.declared.marks.Mark.{Mark}
use Rattle.st_marks.specs.declared.marks.RegMark.{RegMark}
use Rattle.st_marks.specs.declared.marks.RowMarks.{RowMarks}
use Rattle.st_schema.specs.Conforms.{leaf_type}
use Rattle.st_schema.specs.Reading.{two_in, first_of}
use Rattle.st_schema.specs.Schema.{same, is_among, leaf_types}
use Rattle.st_schema.specs.TreeText.{leaf_of}
use Rattle.st_schema.proofs.Forms.{text_same}
use Rattle.st_change_codec.specs.Changes.{list_data, how_text}
use Rattle.st_mark_reader.specs.Naming.{Naming, NameForm}
use Rattle.st_change_writer.specs.Listed.{node_data, node_or_null, cell_mark_data, mark_data, row_data, register_data, loose_data, new_data}
use Rattle.st_mark_reader.specs.Reading.{each_of, list_of, three_in, six_in, small_number, node_of, cell_of, occupant_of, key_within, key_of, field_of, how_named, how_of, mark_named, gap_of, cell_mark_of, mark_in, mark_of, row_in, row_of, fate_of, register_at, register_in, register_of, loose_in, loose_of, if_no_leaf_type, if_of_type, branch_node_of, typed_leaf, leaf_node_of, new_in, new_of}
use Rattle.st_mark_reader.specs.declared.parts.Fate.{Fate}
use Rattle.st_change_laws.specs.Both.{Reads}
use Rattle.st_change_laws.specs.Signed.{NumbersAreSigned, ItemsAreSigned}
use Rattle.st_change_laws.specs.Within.{MarkIsWithin, NodeIsWithin, RowIsWithin, OccupantIsWithin, FieldIsWithin, RegisterIsWithin, LooseIsWithin, LeafIsShort, NewIsWithin}

if_some : {A : Type 0} (c : Bool) (a b : A) → (if c then Some a else None) ≡ Some b → (c ≡ true) × (a ≡ b)
if_some true a b h = (refl, cc)
if_some false a b h = absurd (cc)

-- one of two
either : {A : Type 0} (c : Bool) (a : A) (o : Option A) (b : A) (P : A → Type 0) → (if c then Some a else o) ≡ Some b → (c ≡ true → P a) → (o ≡ Some b → P b) → P b
either true a o b P h f g = let e : a ≡ b = one_some a b h in subst P e (f refl)
either false a o b P h f g = g h

pub guarded : {A : Type 0} (b : Bool) (o : Option A) (y : A) → (if b then o else None) ≡ Some y → (b ≡ true) × (o ≡ Some y)
guarded true o y e = (refl, e)
guarded false o y e = absurd (cc)

is_number : (d : Data) (x : Num) → as_number d ≡ Some x → d ≡ number x
is_number null x e = absurd (cc)
is_number (boolean b) x e = absurd (cc)
is_number (number y) x e = let s : y ≡ x = one_some y x e in ap number s
is_number (string t) x e = absurd (cc)
is_number (array ds) x e = absurd (cc)
is_number (object ms) x e = absurd (cc)

is_unsigned : (x : Num) (k : ℕ) → as_u64 x ≡ Some k → x ≡ unsigned k
is_unsigned (unsigned j) k e = let s : j ≡ k = one_some j k e in ap unsigned s
is_unsigned (negative z) k e = absurd (cc)
is_unsigned (float y) k e = absurd (cc)

-- ## Lists

each_reads : {A : Type 0} (f : Data → Option A) (g : A → Data) (P : A → Type 0) → Reads f g P → (ds : Items) (xs : List A) → ItemsAreSigned ds → each_of f ds ≡ Some xs → (ds ≡ items_of (map g xs)) × AllByRecursion P xs
each_reads f g P r no_items xs h e = let none : [] ≡ xs = cc in subst (λ ys. (no_items ≡ items_of (map g ys)) × AllByRecursion P ys) none (refl, tt)
each_reads {A} f g P r (item d ds) xs h e =
    let x = option_and_then-Some (λ (x : A). option_map (λ (ys : List A). x ∷ ys) (each_of f ds)) (f d) xs e in
    let ys = option_map-Some (λ (ys : List A). x.0 ∷ ys) (each_of f ds) xs x.2 in
    let one = r d x.0 h.0 x.1 in
    let more = each_reads f g P r ds ys.0 h.1 ys.1 in
    subst (λ zs. (item d ds ≡ items_of (map g zs)) × AllByRecursion P zs) ys.2 ((λ i. item (one.0 i) (more.0 i)), (one.1, more.1))

signed_items : (d : Data) (ds : Items) → d ≡ array ds → NumbersAreSigned d → ItemsAreSigned ds
signed_items d ds e h = subst NumbersAreSigned e h

pub list_reads : {A : Type 0} (f : Data → Option A) (g : A → Data) (P : A → Type 0) → Reads f g P → Reads (list_of f) (λ xs. list_data (map g xs)) (AllByRecursion P)
list_reads {A} f g P r d xs h e =
    let ds = option_and_then-Some (each_of f) (as_array d) xs e in
    let form : d ≡ array ds.0 = is_array d ds.0 ds.1 in
    let all = each_reads f g P r ds.0 xs (signed_items d ds.0 form h) ds.2 in
    (form ∙ ap array all.0, all.1)

-- ## Items

two_back : (ds : Items) (p : Data × Data) → two_in ds ≡ Some p → ds ≡ item p.0 (item p.1 no_items)
two_back no_items p h = absurd (cc)
two_back (item a no_items) p h = absurd (cc)
two_back (item a (item b no_items)) p h = let e = one_some {A = Data × Data} (a, b) p h in λ i. item ((e i).0) (item ((e i).1) no_items)
two_back (item a (item b (item c ds))) p h = absurd (cc)

three_back : (ds : Items) (p : Data × Data × Data) → three_in ds ≡ Some p → ds ≡ item p.0 (item p.1 (item p.2 no_items))
three_back no_items p h = absurd (cc)
three_back (item a no_items) p h = absurd (cc)
three_back (item a (item b no_items)) p h = absurd (cc)
three_back (item a (item b (item c no_items))) p h = let e = one_some {A = Data × Data × Data} (a, b, c) p h in λ i. item ((e i).0) (item ((e i).1) (item ((e i).2) no_items))
three_back (item a (item b (item c (item d ds)))) p h = absurd (cc)

six_back : (ds : Items) (p : Data × Data × Data × Data × Data × Data) → six_in ds ≡ Some p → ds ≡ item p.0 (item p.1 (item p.2 (item p.3 (item p.4 (item p.5 no_items)))))
six_back no_items p h = absurd (cc)
six_back (item a no_items) p h = absurd (cc)
six_back (item a (item b no_items)) p h = absurd (cc)
six_back (item a (item b (item c no_items))) p h = absurd (cc)
six_back (item a (item b (item c (item d no_items)))) p h = absurd (cc)
six_back (item a (item b (item c (item d (item e no_items))))) p h = absurd (cc)
six_back (item a (item b (item c (item d (item e (item f no_items)))))) p h =
    let q = one_some {A = Data × Data × Data × Data × Data × Data} (a, b, c, d, e, f) p h in
    λ i. item ((q i).0) (item ((q i).1) (item ((q i).2) (item ((q i).3) (item ((q i).4) (item ((q i).5) no_items)))))
six_back (item a (item b (item c (item d (item e (item f (item g ds))))))) p h = absurd (cc)

-- ## Names, keys and leaves

pub node_reads : (n : Naming) (F : NameForm) (A : Atom → Type 0) → Reads F.atom n.atom A → Reads (node_of F) (node_data n) (NodeIsWithin A)
node_reads n F A r d x h e =
    let made : Atom → NodeId = λ a. record { 0 = a } in
    let a = option_map-Some made (F.atom d) x e in
    let one = r d a.0 h a.1 in
    subst (λ (y : NodeId). (d ≡ node_data n y) × NodeIsWithin A y) a.2 one

pub cell_reads : (n : Naming) (F : NameForm) (A : Atom → Type 0) → Reads F.atom n.atom A → Reads (cell_of F) (λ (c : CellId). n.atom c.0) (λ (c : CellId). A c.0)
cell_reads n F A r d x h e =
    let made : Atom → CellId = λ a. record { 0 = a } in
    let a = option_map-Some made (F.atom d) x e in
    let one = r d a.0 h a.1 in
    subst (λ (y : CellId). (d ≡ n.atom y.0) × A y.0) a.2 one

pub is_null : (d : Data) → is_some (as_null d) ≡ true → d ≡ null
is_null null h = refl
is_null (boolean b) h = absurd (cc)
is_null (number x) h = absurd (cc)
is_null (string s) h = absurd (cc)
is_null (array ds) h = absurd (cc)
is_null (object ms) h = absurd (cc)

pub occupant_reads : (n : Naming) (F : NameForm) (A : Atom → Type 0) → Reads F.atom n.atom A → Reads (occupant_of F) (node_or_null n) (OccupantIsWithin A)
occupant_reads n F A r d x h e = go (is_some (as_null d)) refl e
  where
    go : (b : Bool) → is_some (as_null d) ≡ b → (if b then Some None else option_map Some (node_of F d)) ≡ Some x → (d ≡ node_or_null n x) × OccupantIsWithin A x
    go true s q = let none : None ≡ x = one_some None x q in subst (λ (y : Option NodeId). (d ≡ node_or_null n y) × OccupantIsWithin A y) none (is_null d s, tt)
    go false s q =
        let y = option_map-Some (λ (y : NodeId). Some y) (node_of F d) x q in
        let one = node_reads n F A r d y.0 h y.1 in
        subst (λ (z : Option NodeId). (d ≡ node_or_null n z) × OccupantIsWithin A z) y.2 one

key_reads : (d : Data) (k : Key) → key_of d ≡ Some k → (d ≡ string k.0) × (length k.0 ≤ 64)
key_reads d k e =
    let t = option_and_then-Some key_within (as_str d) k e in
    let made : Key = record { 0 = t.0 } in
    let p = if_some (nat_le (length t.0) 64) made k t.2 in
    let short : length t.0 ≤ 64 = grind (arith, nat_tests, p.0) in
    subst (λ (l : Key). (d ≡ string l.0) × (length l.0 ≤ 64)) p.1 (is_string d t.0 t.1, short)

pub field_reads : (n : Naming) (F : NameForm) (A : Atom → Type 0) → Reads F.atom n.atom A → (d k : Data) (f : FieldId) → NumbersAreSigned d → field_of F d k ≡ Some f → (d ≡ node_data n f.node) × (k ≡ string f.key.0) × FieldIsWithin A f
field_reads n F A r d k f h e =
    let made : NodeId → Key → FieldId = λ x key. record { node = x; key = key } in
    let x = option_and_then-Some (λ (x : NodeId). option_map (made x) (key_of k)) (node_of F d) f e in
    let y = option_map-Some (made x.0) (key_of k) f x.2 in
    let one = node_reads n F A r d x.0 h x.1 in
    let two = key_reads k y.0 y.1 in
    subst (λ (g : FieldId). (d ≡ node_data n g.node) × (k ≡ string g.key.0) × FieldIsWithin A g) y.2 (one.0, two.0, (one.1, two.1))

how_cases : (p q r : Bool) (h : How) (P : How → Type 0) → (if p then Some How.Stay else if q then Some How.Here else if r then Some How.Leave else None) ≡ Some h → (p ≡ true → P How.Stay) → (q ≡ true → P How.Here) → (r ≡ true → P How.Leave) → P h
how_cases true q r h P e a b c = let x : How.Stay ≡ h = one_some How.Stay h e in subst P x (a refl)
how_cases false true r h P e a b c = let x : How.Here ≡ h = one_some How.Here h e in subst P x (b refl)
how_cases false false true h P e a b c = let x : How.Leave ≡ h = one_some How.Leave h e in subst P x (c refl)
how_cases false false false h P e a b c = absurd (cc)

how_named_back : (t : List ℕ) (h : How) → how_named t ≡ Some h → t ≡ how_text h
how_named_back t h e = how_cases (same t (codes "at")) (same t (codes "set")) (same t (codes "out")) h (λ x. t ≡ how_text x) e
    (text_same t (codes "at")) (text_same t (codes "set")) (text_same t (codes "out"))

pub how_back : (d : Data) (h : How) → how_of d ≡ Some h → d ≡ string (how_text h)
how_back d h e = let t = option_and_then-Some how_named (as_str d) h e in is_string d t.0 t.1 ∙ ap string (how_named_back t.0 h t.2)

-- ## Marks

mark_named_reads : (n : Naming) (A : Atom → Type 0) (t : List ℕ) (c : CellId) (x : NodeId) (m : Mark) → A c.0 → A x.0 → mark_named t c x ≡ Some m → (cell_mark_data n t c x ≡ mark_data n m) × MarkIsWithin A m
mark_named_reads n A t c x m a b e =
    either (same t (codes "make")) (Mark.Make c x true) _ m P e (λ s. (ap told (text_same t (codes "make") s), (a, b))) (λ e2.
    either (same t (codes "hole")) (Mark.Make c x false) _ m P e2 (λ s. (ap told (text_same t (codes "hole") s), (a, b))) (λ e3.
    either (same t (codes "fill")) (Mark.Fill c x) _ m P e3 (λ s. (ap told (text_same t (codes "fill") s), (a, b))) (λ e4.
    let h = option_map-Some (λ (how : How). Mark.Touch c x how) (how_named t) m e4 in
    subst P h.2 (ap told (how_named_back t h.0 h.1), (a, b)))))
  where
    told : List ℕ → Data
    told u = cell_mark_data n u c x

    P : Mark → Type 0
    P k = (cell_mark_data n t c x ≡ mark_data n k) × MarkIsWithin A k

gap_reads : (n : Naming) (F : NameForm) (A : Atom → Type 0) → Reads F.atom n.atom A → (w c : Data) (m : Mark) → NumbersAreSigned c → gap_of F w c ≡ Some m → (list_data (w ∷ c ∷ []) ≡ mark_data n m) × MarkIsWithin A m
gap_reads n F A r w c m h e =
    let made : CellId → Mark = λ cell. Mark.Gap cell in
    let t = option_and_then-Some (λ t. if same t (codes "gap") then option_map made (cell_of F c) else None) (as_str w) m e in
    let word = guarded (same t.0 (codes "gap")) (option_map made (cell_of F c)) m t.2 in
    let x = option_map-Some made (cell_of F c) m word.1 in
    let one = cell_reads n F A r c x.0 h x.1 in
    let is_word : w ≡ string (codes "gap") = is_string w t.0 t.1 ∙ ap string (text_same t.0 (codes "gap") word.0) in
    subst (λ (k : Mark). (list_data (w ∷ c ∷ []) ≡ mark_data n k) × MarkIsWithin A k) x.2 ((λ i. list_data (is_word i ∷ one.0 i ∷ [])), one.1)

cell_mark_reads : (n : Naming) (F : NameForm) (A : Atom → Type 0) → Reads F.atom n.atom A → (w c x : Data) (m : Mark) → NumbersAreSigned c → NumbersAreSigned x → cell_mark_of F w c x ≡ Some m
    → (list_data (w ∷ c ∷ x ∷ []) ≡ mark_data n m) × MarkIsWithin A m
cell_mark_reads n F A r w c x m hc hx e =
    let t = option_and_then-Some (λ t. option_and_then (λ cell. option_and_then (λ node. mark_named t cell node) (node_of F x)) (cell_of F c)) (as_str w) m e in
    let k = option_and_then-Some (λ cell. option_and_then (λ node. mark_named t.0 cell node) (node_of F x)) (cell_of F c) m t.2 in
    let y = option_and_then-Some (λ node. mark_named t.0 k.0 node) (node_of F x) m k.2 in
    let one = cell_reads n F A r c k.0 hc k.1 in
    let two = node_reads n F A r x y.0 hx y.1 in
    let named = mark_named_reads n A t.0 k.0 y.0 m one.1 two.1 y.2 in
    let is_word : w ≡ string t.0 = is_string w t.0 t.1 in
    ((λ i. list_data (is_word i ∷ one.0 i ∷ two.0 i ∷ [])) ∙ named.0, named.1)

skip_reads : (n : Naming) (A : Atom → Type 0) (d : Data) (m : Mark) → option_map (λ k. Mark.Skip k) (small_number d) ≡ Some m → (d ≡ mark_data n m) × MarkIsWithin A m
skip_reads n A d m e =
    let made : ℕ → Mark = λ k. Mark.Skip k in
    let k = option_map-Some made (small_number d) m e in
    let u = option_and_then-Some small (option_and_then as_u64 (as_number d)) k.0 k.1 in
    let x = option_and_then-Some as_u64 (as_number d) u.0 u.1 in
    let few = if_some (nat_lt u.0 (2 ^ 32)) u.0 k.0 u.2 in
    let low : k.0 < 2 ^ 32 = let l : u.0 < 2 ^ 32 = grind (arith, nat_tests, few.0) in subst (λ z. z < 2 ^ 32) few.1 l in
    let form : d ≡ number (unsigned k.0) = is_number d x.0 x.1 ∙ ap number (is_unsigned x.0 u.0 x.2 ∙ ap unsigned few.1) in
    subst (λ (z : Mark). (d ≡ mark_data n z) × MarkIsWithin A z) k.2 (form, low)

pub mark_reads : (n : Naming) (F : NameForm) (A : Atom → Type 0) → Reads F.atom n.atom A → Reads (mark_of F) (mark_data n) (MarkIsWithin A)
mark_reads n F A r d m h e = go (as_array d) refl e
  where
    of_items : (ds : Items) → d ≡ array ds → ItemsAreSigned ds → (o : Option (Data × Data)) → two_in ds ≡ o → first_of o (λ p. gap_of F p.0 p.1) (option_and_then (λ p. cell_mark_of F p.0 p.1 p.2) (three_in ds)) ≡ Some m → (d ≡ mark_data n m) × MarkIsWithin A m
    of_items ds form signed (Some p) two q =
        let items = two_back ds p two in
        let s : ItemsAreSigned (item p.0 (item p.1 no_items)) = subst ItemsAreSigned items signed in
        let one = gap_reads n F A r p.0 p.1 m s.1.0 q in
        (form ∙ ap array items ∙ one.0, one.1)
    of_items ds form signed None two q =
        let p = option_and_then-Some (λ (p : Data × Data × Data). cell_mark_of F p.0 p.1 p.2) (three_in ds) m q in
        let items = three_back ds p.0 p.1 in
        let s : ItemsAreSigned (item p.0.0 (item p.0.1 (item p.0.2 no_items))) = subst ItemsAreSigned items signed in
        let one = cell_mark_reads n F A r p.0.0 p.0.1 p.0.2 m s.1.0 s.1.1.0 p.2 in
        (form ∙ ap array items ∙ one.0, one.1)

    go : (o : Option Items) → as_array d ≡ o → first_of o (mark_in F) (option_map (λ k. Mark.Skip k) (small_number d)) ≡ Some m → (d ≡ mark_data n m) × MarkIsWithin A m
    go None a q = skip_reads n A d m q
    go (Some ds) a q = let form = is_array d ds a in of_items ds form (signed_items d ds form h) (two_in ds) refl q

-- ## Rows, registers and nodes

pub pair_reads : {A : Type 0} (f : Data × Data → Option A) (d : Data) (x : A) → NumbersAreSigned d → option_and_then f (option_and_then two_in (as_array d)) ≡ Some x
    → (p : Data × Data) × (d ≡ list_data (p.0 ∷ p.1 ∷ [])) × NumbersAreSigned p.0 × NumbersAreSigned p.1 × (f p ≡ Some x)
pair_reads f d x h e =
    let p = option_and_then-Some f (option_and_then two_in (as_array d)) x e in
    let ds = option_and_then-Some two_in (as_array d) p.0 p.1 in
    let form = is_array d ds.0 ds.1 ∙ ap array (two_back ds.0 p.0 ds.2) in
    let s : NumbersAreSigned (list_data (p.0.0 ∷ p.0.1 ∷ [])) = subst NumbersAreSigned form h in
    (p.0, form, s.0, s.1.0, p.2)

pub row_reads : (n : Naming) (F : NameForm) (A : Atom → Type 0) → Reads F.atom n.atom A → Reads (row_of F) (row_data n) (RowIsWithin A)
row_reads n F A r d x h e =
    let p = pair_reads (row_in F) d x h e in
    let made : NodeId → List Mark → RowMarks = λ node marks. record { node = node; marks = marks } in
    let y = option_and_then-Some (λ (node : NodeId). option_map (made node) (list_of (mark_of F) p.0.1)) (node_of F p.0.0) x p.4 in
    let ms = option_map-Some (made y.0) (list_of (mark_of F) p.0.1) x y.2 in
    let one = node_reads n F A r p.0.0 y.0 p.2 y.1 in
    let all = list_reads (mark_of F) (mark_data n) (MarkIsWithin A) (mark_reads n F A r) p.0.1 ms.0 p.3 ms.1 in
    subst (λ (z : RowMarks). (d ≡ row_data n z) × RowIsWithin A z) ms.2 (p.1 ∙ (λ i. list_data (one.0 i ∷ all.0 i ∷ [])), (one.1, all.1))

pub loose_reads : (n : Naming) (F : NameForm) (A : Atom → Type 0) → Reads F.atom n.atom A → Reads (loose_of F) (loose_data n) (LooseIsWithin A)
loose_reads n F A r d x h e =
    let p = pair_reads (loose_in F) d x h e in
    let made : NodeId → How → Loose = λ node how. record { node = node; how = how } in
    let y = option_and_then-Some (λ (node : NodeId). option_map (made node) (how_of p.0.1)) (node_of F p.0.0) x p.4 in
    let w = option_map-Some (made y.0) (how_of p.0.1) x y.2 in
    let one = node_reads n F A r p.0.0 y.0 p.2 y.1 in
    let word = how_back p.0.1 w.0 w.1 in
    subst (λ (z : Loose). (d ≡ loose_data n z) × LooseIsWithin A z) w.2 (p.1 ∙ (λ i. list_data (one.0 i ∷ word i ∷ [])), one.1)

pub is_bool : (d : Data) (b : Bool) → as_bool d ≡ Some b → d ≡ boolean b
is_bool null b e = absurd (cc)
is_bool (boolean c) b e = let same_one : c ≡ b = one_some c b e in ap boolean same_one
is_bool (number x) b e = absurd (cc)
is_bool (string s) b e = absurd (cc)
is_bool (array ds) b e = absurd (cc)
is_bool (object ms) b e = absurd (cc)

pub register_reads : (n : Naming) (F : NameForm) (A : Atom → Type 0) → Reads F.atom n.atom A → Reads (register_of F) (register_data n) (RegisterIsWithin A)
register_reads n F A r d x h e =
    let p = option_and_then-Some (register_in F) (option_and_then six_in (as_array d)) x e in
    let ds = option_and_then-Some six_in (as_array d) p.0 p.1 in
    let form : d ≡ list_data (p.0.0 ∷ p.0.1 ∷ p.0.2 ∷ p.0.3 ∷ p.0.4 ∷ p.0.5 ∷ []) = is_array d ds.0 ds.1 ∙ ap array (six_back ds.0 p.0 ds.2) in
    let s : NumbersAreSigned (list_data (p.0.0 ∷ p.0.1 ∷ p.0.2 ∷ p.0.3 ∷ p.0.4 ∷ p.0.5 ∷ [])) = subst NumbersAreSigned form h in
    let fate = option_and_then-Some (register_at F p.0.0 p.0.1) (fate_of F p.0.2 p.0.3 p.0.4 p.0.5) x p.2 in
    let whole : FieldId → RegMark = λ field. record { field = field; held = fate.0.held; how = fate.0.how; clear = fate.0.clear; fill = fate.0.fill } in
    let f = option_map-Some whole (field_of F p.0.0 p.0.1) x fate.2 in
    let made : Option NodeId → How → Bool → Option NodeId → Fate = λ held how clear fill. record { held = held; how = how; clear = clear; fill = fill } in
    let a = option_and_then-Some (λ held. option_and_then (λ how. option_and_then (λ clear. option_map (made held how clear) (occupant_of F p.0.5)) (as_bool p.0.4)) (how_of p.0.3)) (occupant_of F p.0.2) fate.0 fate.1 in
    let b = option_and_then-Some (λ how. option_and_then (λ clear. option_map (made a.0 how clear) (occupant_of F p.0.5)) (as_bool p.0.4)) (how_of p.0.3) fate.0 a.2 in
    let c = option_and_then-Some (λ clear. option_map (made a.0 b.0 clear) (occupant_of F p.0.5)) (as_bool p.0.4) fate.0 b.2 in
    let g = option_map-Some (made a.0 b.0 c.0) (occupant_of F p.0.5) fate.0 c.2 in
    let field = field_reads n F A r p.0.0 p.0.1 f.0 s.0 f.1 in
    let held = occupant_reads n F A r p.0.2 a.0 s.1.1.0 a.1 in
    let fill = occupant_reads n F A r p.0.5 g.0 s.1.1.1.1.1.0 g.1 in
    let how = how_back p.0.3 b.0 b.1 in
    let clear = is_bool p.0.4 c.0 c.1 in
    let told : (y : Fate) → RegMark = λ y. record { field = f.0; held = y.held; how = y.how; clear = y.clear; fill = y.fill } in
    let at_fate : (d ≡ register_data n (told fate.0)) × RegisterIsWithin A (told fate.0) = subst (λ (y : Fate). (d ≡ register_data n (told y)) × RegisterIsWithin A (told y)) g.2
    (form ∙ (λ i. list_data (field.0 i ∷ field.1 i ∷ held.0 i ∷ how i ∷ clear i ∷ fill.0 i ∷ [])), (field.2, held.1, fill.1)) in
    subst (λ (y : RegMark). (d ≡ register_data n y) × RegisterIsWithin A y) f.2 at_fate

leaf_reads : (d : Data) (v : Leaf) → NumbersAreSigned d → leaf_of d ≡ Some v → (d ≡ leaf_data v) × LeafIsShort v
leaf_reads null v h e = let s : Leaf.Null ≡ v = one_some Leaf.Null v e in subst (λ (w : Leaf). (null ≡ leaf_data w) × LeafIsShort w) s (refl, tt)
leaf_reads (boolean b) v h e = let s : Leaf.Bool b ≡ v = one_some (Leaf.Bool b) v e in subst (λ (w : Leaf). (boolean b ≡ leaf_data w) × LeafIsShort w) s (refl, tt)
leaf_reads (string t) v h e = let s : Leaf.Words t ≡ v = one_some (Leaf.Words t) v e in subst (λ (w : Leaf). (string t ≡ leaf_data w) × LeafIsShort w) s (refl, tt)
leaf_reads (number (unsigned k)) v h e =
    let made : ℤ → Leaf = λ z. Leaf.Int z in
    let z = option_map-Some made (as_i64 (unsigned k)) v e in
    let low = if_some (nat_lt k (2 ^ 63)) (pos k) z.0 z.1 in
    let short : k < 2 ^ 63 = grind (arith, nat_tests, low.0) in
    let s : Leaf.Int (pos k) ≡ v = ap made low.1 ∙ z.2 in
    subst (λ (w : Leaf). (number (unsigned k) ≡ leaf_data w) × LeafIsShort w) s (refl, short)
leaf_reads (number (negative (pos k))) v h e = absurd h
leaf_reads (number (negative (negsuc k))) v h e = let s : Leaf.Int (negsuc k) ≡ v = one_some (Leaf.Int (negsuc k)) v e in subst (λ (w : Leaf). (number (negative (negsuc k)) ≡ leaf_data w) × LeafIsShort w) s (refl, tt)
leaf_reads (number (float x)) v h e = absurd (cc)
leaf_reads (array ds) v h e = absurd (cc)
leaf_reads (object ms) v h e = absurd (cc)

other_type : (b : Bool) (ty u : List ℕ) → (if b then None else Some ty) ≡ Some u → (b ≡ false) × (ty ≡ u)
other_type true ty u e = absurd (cc)
other_type false ty u e = (refl, one_some ty u e)

branch_reads : (n : Naming) (F : NameForm) (A : Atom → Type 0) → Reads F.atom n.atom A → (x t : Data) (m : NewNode) → NumbersAreSigned x → branch_node_of F x t ≡ Some m → (list_data (x ∷ t ∷ []) ≡ new_data n m) × NewIsWithin A m
branch_reads n F A r x t m h e =
    let made : NodeId → List ℕ → NewNode = λ node ty. record { node = node; ty = ty; leaf = None } in
    let y = option_and_then-Some (λ node. option_map (made node) (option_and_then if_no_leaf_type (as_str t))) (node_of F x) m e in
    let u = option_map-Some (made y.0) (option_and_then if_no_leaf_type (as_str t)) m y.2 in
    let w = option_and_then-Some if_no_leaf_type (as_str t) u.0 u.1 in
    let other = other_type (is_among w.0 leaf_types) w.0 u.0 w.2 in
    let one = node_reads n F A r x y.0 h y.1 in
    let word : t ≡ string u.0 = is_string t w.0 w.1 ∙ ap string other.1 in
    let no_leaf : is_among u.0 leaf_types ≡ false = subst (λ (z : List ℕ). is_among z leaf_types ≡ false) other.1 other.0 in
    subst (λ (z : NewNode). (list_data (x ∷ t ∷ []) ≡ new_data n z) × NewIsWithin A z) u.2 ((λ i. list_data (one.0 i ∷ word i ∷ [])), (one.1, no_leaf))

new_leaf_reads : (n : Naming) (F : NameForm) (A : Atom → Type 0) → Reads F.atom n.atom A → (x t v : Data) (m : NewNode) → NumbersAreSigned x → NumbersAreSigned v → leaf_node_of F x t v ≡ Some m
    → (list_data (x ∷ t ∷ v ∷ []) ≡ new_data n m) × NewIsWithin A m
new_leaf_reads n F A r x t v m h hv e =
    let y = option_and_then-Some (λ node. option_and_then (λ ty. typed_leaf node ty v) (as_str t)) (node_of F x) m e in
    let u = option_and_then-Some (λ ty. typed_leaf y.0 ty v) (as_str t) m y.2 in
    let made : Leaf → NewNode = λ leaf. record { node = y.0; ty = u.0; leaf = Some leaf } in
    let l = option_map-Some made (option_and_then (if_of_type u.0) (leaf_of v)) m u.2 in
    let k = option_and_then-Some (if_of_type u.0) (leaf_of v) l.0 l.1 in
    let typed = if_some (same u.0 (leaf_type k.0)) k.0 l.0 k.2 in
    let of_type : u.0 ≡ leaf_type l.0 = text_same u.0 (leaf_type k.0) typed.0 ∙ ap leaf_type typed.1 in
    let value : (v ≡ leaf_data l.0) × LeafIsShort l.0 = subst (λ (w : Leaf). (v ≡ leaf_data w) × LeafIsShort w) typed.1 (leaf_reads v k.0 hv k.1) in
    let one = node_reads n F A r x y.0 h y.1 in
    let word : t ≡ string u.0 = is_string t u.0 u.1 in
    subst (λ (z : NewNode). (list_data (x ∷ t ∷ v ∷ []) ≡ new_data n z) × NewIsWithin A z) l.2 ((λ i. list_data (one.0 i ∷ word i ∷ value.0 i ∷ [])), (one.1, (of_type, value.1)))

pub new_reads : (n : Naming) (F : NameForm) (A : Atom → Type 0) → Reads F.atom n.atom A → Reads (new_of F) (new_data n) (NewIsWithin A)
new_reads n F A r d m h e =
    let ds = option_and_then-Some (new_in F) (as_array d) m e in
    let form = is_array d ds.0 ds.1 in
    go ds.0 form (signed_items d ds.0 form h) (two_in ds.0) refl ds.2
  where
    go : (ds : Items) → d ≡ array ds → ItemsAreSigned ds → (o : Option (Data × Data)) → two_in ds ≡ o → first_of o (λ p. branch_node_of F p.0 p.1) (option_and_then (λ p. leaf_node_of F p.0 p.1 p.2) (three_in ds)) ≡ Some m → (d ≡ new_data n m) × NewIsWithin A m
    go ds form signed (Some p) two q =
        let items = two_back ds p two in
        let s : ItemsAreSigned (item p.0 (item p.1 no_items)) = subst ItemsAreSigned items signed in
        let one = branch_reads n F A r p.0 p.1 m s.0 q in
        (form ∙ ap array items ∙ one.0, one.1)
    go ds form signed None two q =
        let p = option_and_then-Some (λ (p : Data × Data × Data). leaf_node_of F p.0 p.1 p.2) (three_in ds) m q in
        let items = three_back ds p.0 p.1 in
        let s : ItemsAreSigned (item p.0.0 (item p.0.1 (item p.0.2 no_items))) = subst ItemsAreSigned items signed in
        let one = new_leaf_reads n F A r p.0.0 p.0.1 p.0.2 m s.0 s.1.1.0 p.2 in
        (form ∙ ap array items ∙ one.0, one.1)
