-- A tree of the shape that values show is written as its JSON form.
use Rattle.std.proofs.Common.{◌≡◌, ◌∙◌, ℕ, zero, suc, ◌+◌, ◌<◌, ◌≤◌, Bool, true, false, not, ◌&&◌, List, [], ◌∷◌, ◌++◌, length, take, drop, take_all, get_or, map, None, Less, String, string_bytes, Vec, BTreeMap, refl, sym, ap, arith, append_assoc}
use Rattle.std.specs.Prelude.{Result, Ok, Err, IfOk}
use Rattle.std.specs.BTreeMap.{insert_entry}
use Rattle.std.specs.String.{string_cmp}
use Rattle.std.specs.declared.alloc.Global.{Global}
use Rattle.std.specs.Ordering.{nat_cmp, is_lt, match_ordering, ordering_reverse}
use Rattle.std.specs.Cmp.Lexicographic.{slice_cmp}
use Rattle.std.proofs.lemmas.Cmp.{nat_list_cmp_total}
use Rattle.std.proofs.lemmas.List.{map-append, take-append-drop}
use Rattle.std.proofs.Math.Seq.{take-suc}
use Rattle.serde_json.specs.Data.{Data, array, object, item, Members, no_members, member, put}
use Rattle.serde_json.specs.View.{view as value_view, items_of, members_view}
use Rattle.serde_json.proofs.Views.{view-Array, view-Object, members_view-insert_entry}
use Rattle.serde_json.specs.declared.value.Value.{Value, Array, Object}
use Rattle.st_tree.specs.declared.tree.Tree.{Tree}
use Rattle.st_tree.specs.declared.tree.Field.{Field}
use Rattle.st_tree.specs.Node.{Node, node, Fields, field, Nodes, no_nodes, first, view, trees_view}
use Rattle.st_tree.specs.inside.Node.{field_view, fields_view}
use Rattle.st_tree.specs.declared.tree.Field.TheViews.{out-Tree, out-Field}
use Rattle.st_tree.proofs.Views.{view_out}
use Rattle.st_tree.specs.Form.{is_single, keys_rise}
use Rattle.st_schema.specs.Shape.{members_rise, fields_shaped, has_shape, fields_have_shape, all_have_shape}
use Rattle.st_schema.specs.TreeText.{tree_data, body_data, keyed_data, members_data, trees_data}
use Rattle.st_schema.proofs.Walking.{field_whole, field_key}
use Rattle.st_lemmas.proofs.Orders.{is_lt-Less}
use Rattle.st_lemmas.proofs.Bools.{and-true}

-- ---- tests

-- ---- the items of a row

abbrev pub shown : Tree → Data
shown t = tree_data (view t)

shape_at : (ts : List Tree) (i : ℕ) (t : Tree) → all_have_shape (trees_view ts) ≡ true → i < length ts → has_shape (view (get_or ts i t)) ≡ true
shape_at [] i t h within = absurd (omega arith)
shape_at (u ∷ ts) zero t h within = (and-true (has_shape (view u)) (all_have_shape (trees_view ts)) h).0
shape_at (u ∷ ts) (suc i) t h within = shape_at ts i t (and-true (has_shape (view u)) (all_have_shape (trees_view ts)) h).1 (omega arith)

-- one item more is written
pub item_written : (ts : List Tree) (i : ℕ) (t : Tree) (old new : List Value) (v : Value) → i < length ts → t ≡ get_or ts i t → (has_shape (view t) ≡ true → value_view v ≡ shown t) → new ≡ old ++ v ∷ []
    → (all_have_shape (trees_view ts) ≡ true → map value_view old ≡ map shown (take i ts)) → all_have_shape (trees_view ts) ≡ true → map value_view new ≡ map shown (take (i + 1) ts)
item_written ts i t old new v within is value put so_far form =
    let here : take (suc i) ts ≡ take i ts ++ t ∷ [] = take-suc ts i t within ∙ ap (λ u. take i ts ++ u ∷ []) (sym is) in
    let one : i + 1 ≡ suc i = omega arith in
    let formed : has_shape (view t) ≡ true = ap (λ u. has_shape (view u)) is ∙ shape_at ts i t form within in
    ap (map value_view) put
    ∙ map-append value_view old (v ∷ [])
    ∙ (λ j. so_far form j ++ value formed j ∷ [])
    ∙ sym (map-append shown (take i ts) (t ∷ []))
    ∙ ap (map shown) (sym here)
    ∙ ap (λ n. map shown (take n ts)) (sym one)

items_shown : (ts : List Tree) → items_of (map shown ts) ≡ trees_data (trees_view ts)
items_shown [] = refl
items_shown (t ∷ ts) = ap (item (shown t)) (items_shown ts)

-- all items are written
pub row_written : (v : Vec Value Global) (ts : List Tree) (i : ℕ) (items : Nodes) → items ≡ trees_view ts → length ts ≤ i
    → (all_have_shape (trees_view ts) ≡ true → map value_view v.items ≡ map shown (take i ts)) → all_have_shape items ≡ true → value_view (Array v) ≡ array (trees_data items)
row_written v ts i items is all so_far form =
    view-Array v
    ∙ ap (λ ds. array (items_of ds)) (so_far (ap all_have_shape (sym is) ∙ form) ∙ ap (map shown) (take_all i ts all))
    ∙ ap array (items_shown ts)
    ∙ ap (λ us. array (trees_data us)) (sym is)

-- ---- the members of a node

-- a single item
sole : (ts : Nodes) → is_single ts ≡ true → (t : Node) × (ts ≡ first t no_nodes)
sole no_nodes h = absurd (cc)
sole (first t no_nodes) h = (t, refl)
sole (first t (first u ts)) h = absurd (cc)

-- a member goes behind one of a lesser key
put_over : (k key : List ℕ) (d : Data) (items : Nodes) (ms ns : Members) → is_single items ≡ true → slice_cmp nat_cmp k key ≡ Less → put key d ms ≡ ns → put key d (keyed_data k items ms) ≡ keyed_data k items ns
put_over k key d no_nodes ms ns single is later = absurd (cc)
put_over k key d (first t no_nodes) ms ns single is later =
    ap (λ o. match_ordering o (member key d (member k (tree_data t) ms)) (member k d ms) (member k (tree_data t) (put key d ms))) (nat_list_cmp_total.antisymm key k ∙ ap ordering_reverse is)
    ∙ ap (member k (tree_data t)) later
put_over k key d (first t (first u ts)) ms ns single is later = absurd (cc)

-- what rising keys say of the first field
record Rises (before key : List ℕ) (row : Bool) (items : Nodes) (rest : Fields) : Type 0 where
  single : row ≡ false
  one : is_single items ≡ true
  above : slice_cmp nat_cmp before key ≡ Less
  later : keys_rise key rest ≡ true

rises : (before key : List ℕ) (row : Bool) (items : Nodes) (rest : Fields) → keys_rise before (field key row items rest) ≡ true → Rises before key row items rest
rises before key true items rest h = absurd (cc)
rises before key false items rest h =
    let parts = and-true (is_single items) (is_lt (slice_cmp nat_cmp before key) && keys_rise key rest) h in
    let rise = and-true (is_lt (slice_cmp nat_cmp before key)) (keys_rise key rest) parts.1 in
    record { single = refl; one = parts.0; above = is_lt-Less _ rise.0; later = rise.1 }

first_rises : (before : List ℕ) (f : Field) (rest : List Field) → keys_rise before (fields_view (f ∷ rest)) ≡ true → Rises before (field_view f).key (field_view f).row (field_view f).items (fields_view rest)
first_rises before f rest h = rises before (field_view f).key (field_view f).row (field_view f).items (fields_view rest) h

-- each key is above the first bound
above_all : (before : List ℕ) (done : List Field) (f : Field) (rest : List Field) → keys_rise before (fields_view (done ++ f ∷ rest)) ≡ true → slice_cmp nat_cmp before (field_view f).key ≡ Less
above_all before [] f rest h = (first_rises before f rest h).above
above_all before (e ∷ done) f rest h =
    let r = first_rises before e (done ++ f ∷ rest) h in
    nat_list_cmp_total.trans before (field_view e).key (field_view f).key r.above (above_all (field_view e).key done f rest r.later)

put_last : (before : List ℕ) (done : List Field) (f : Field) (rest : List Field) (t : Node) → (field_view f).items ≡ first t no_nodes → keys_rise before (fields_view (done ++ f ∷ rest)) ≡ true
    → put (field_view f).key (tree_data t) (members_data (fields_view done)) ≡ members_data (fields_view (done ++ f ∷ []))
put_last before [] f rest t is h = ap (λ ts. keyed_data (field_view f).key ts no_members) (sym is)
put_last before (e ∷ done) f rest t is h =
    let r = first_rises before e (done ++ f ∷ rest) h in
    put_over (field_view e).key (field_view f).key (tree_data t) (field_view e).items (members_data (fields_view done)) (members_data (fields_view (done ++ f ∷ []))) r.one
    (above_all (field_view e).key done f rest r.later) (put_last (field_view e).key done f rest t is r.later)

single_at : (before : List ℕ) (fs : List Field) (i : ℕ) (f : Field) → keys_rise before (fields_view fs) ≡ true → i < length fs → is_single (field_view (get_or fs i f)).items ≡ true
single_at before [] i f h within = absurd (omega arith)
single_at before (e ∷ fs) zero f h within = (first_rises before e fs h).one
single_at before (e ∷ fs) (suc i) f h within = single_at (field_view e).key fs i f (first_rises before e fs h).later (omega arith)

-- single items whose keys rise after the first
rise_parts : (f : Field) (rest : List Field) → members_rise (fields_view (f ∷ rest)) ≡ true → (is_single (field_view f).items ≡ true) × (keys_rise (field_view f).key (fields_view rest) ≡ true)
rise_parts f rest h = go (field_view f).row h
  where
    go : (row : Bool) → not row && (is_single (field_view f).items && keys_rise (field_view f).key (fields_view rest)) ≡ true
        → (is_single (field_view f).items ≡ true) × (keys_rise (field_view f).key (fields_view rest) ≡ true)
    go true h = absurd (cc)
    go false h = and-true (is_single (field_view f).items) (keys_rise (field_view f).key (fields_view rest)) h

put_behind : (done : List Field) (f : Field) (rest : List Field) (t : Node) → (field_view f).items ≡ first t no_nodes → members_rise (fields_view (done ++ f ∷ rest)) ≡ true
    → put (field_view f).key (tree_data t) (members_data (fields_view done)) ≡ members_data (fields_view (done ++ f ∷ []))
put_behind [] f rest t is h = ap (λ ts. keyed_data (field_view f).key ts no_members) (sym is)
put_behind (e ∷ done) f rest t is h =
    let r = rise_parts e (done ++ f ∷ rest) h in
    put_over (field_view e).key (field_view f).key (tree_data t) (field_view e).items (members_data (fields_view done)) (members_data (fields_view (done ++ f ∷ []))) r.0
    (above_all (field_view e).key done f rest r.1) (put_last (field_view e).key done f rest t is r.1)

single_among : (fs : List Field) (i : ℕ) (f : Field) → members_rise (fields_view fs) ≡ true → i < length fs → is_single (field_view (get_or fs i f)).items ≡ true
single_among [] i f h within = absurd (omega arith)
single_among (e ∷ fs) zero f h within = (rise_parts e fs h).0
single_among (e ∷ fs) (suc i) f h within = single_at (field_view e).key fs i f (rise_parts e fs h).1 (omega arith)

items_shape_at : (fs : List Field) (i : ℕ) (f : Field) → fields_have_shape (fields_view fs) ≡ true → i < length fs → all_have_shape (field_view (get_or fs i f)).items ≡ true
items_shape_at [] i f h within = absurd (omega arith)
items_shape_at (e ∷ fs) zero f h within = (and-true (all_have_shape (field_view e).items) (fields_have_shape (fields_view fs)) h).0
items_shape_at (e ∷ fs) (suc i) f h within = items_shape_at fs i f (and-true (all_have_shape (field_view e).items) (fields_have_shape (fields_view fs)) h).1 (omega arith)

-- one field more is written
pub member_written : (fs : List Field) (i : ℕ) (f : Field) (old new : List (String Global × Value)) → i < length fs → f ≡ get_or fs i f
    → ((t : Node) → (field_view f).items ≡ first t no_nodes → has_shape t ≡ true → members_view new ≡ put (field_view f).key (tree_data t) (members_view old))
    → (members_rise (fields_view fs) ≡ true → fields_have_shape (fields_view fs) ≡ true → members_view old ≡ members_data (fields_view (take i fs)))
    → members_rise (fields_view fs) ≡ true → fields_have_shape (fields_view fs) ≡ true → members_view new ≡ members_data (fields_view (take (i + 1) fs))
member_written fs i f old new within is written so_far rise form =
    let here : take (suc i) fs ≡ take i fs ++ f ∷ [] = take-suc fs i f within ∙ ap (λ g. take i fs ++ g ∷ []) (sym is) in
    let one : i + 1 ≡ suc i = omega arith in
    let whole : take i fs ++ f ∷ drop (suc i) fs ≡ fs = sym (append_assoc (take i fs) (f ∷ []) (drop (suc i) fs)) ∙ ap (λ gs. gs ++ drop (suc i) fs) (sym here) ∙ take-append-drop (suc i) fs in
    let t = sole (field_view f).items (ap (λ g. is_single (field_view g).items) is ∙ single_among fs i f rise within) in
    let formed : has_shape t.0 && true ≡ true = sym (ap all_have_shape t.1) ∙ ap (λ g. all_have_shape (field_view g).items) is ∙ items_shape_at fs i f form within in
    written t.0 t.1 (and-true (has_shape t.0) true formed).0
    ∙ ap (put (field_view f).key (tree_data t.0)) (so_far rise form)
    ∙ put_behind (take i fs) f (drop (suc i) fs) t.0 t.1 (ap (λ gs. members_rise (fields_view gs)) whole ∙ rise)
    ∙ ap (λ gs. members_data (fields_view gs)) (sym here)
    ∙ ap (λ n. members_data (fields_view (take n fs))) (sym one)

pub members_written : (m : BTreeMap (String Global) Value) (fs gs : List Field) (i : ℕ) → gs ≡ fs → length gs ≤ i
    → (members_rise (fields_view gs) ≡ true → fields_have_shape (fields_view gs) ≡ true → members_view m.entries ≡ members_data (fields_view (take i gs)))
    → members_rise (fields_view fs) ≡ true → fields_have_shape (fields_view fs) ≡ true → value_view (Object m) ≡ object (members_data (fields_view fs))
members_written m fs gs i same all so_far rise form =
    view-Object m
    ∙ ap object (so_far (ap (λ hs. members_rise (fields_view hs)) same ∙ rise) (ap (λ hs. fields_have_shape (fields_view hs)) same ∙ form)
    ∙ ap (λ hs. members_data (fields_view hs)) (take_all i gs all ∙ same))

-- ---- the item of a field

first_item : (ts : List Tree) (u : Tree) (items : Nodes) (t : Node) → 1 ≤ length ts → u ≡ get_or ts 0 u → items ≡ trees_view ts → items ≡ first t no_nodes → view u ≡ t
first_item [] u items t some is whole one = absurd (omega arith)
first_item (x ∷ ts) u items t some is whole one =
    let e : first (view x) (trees_view ts) ≡ first t no_nodes = sym whole ∙ one in
    let at : view x ≡ t = cc in ap view is ∙ at

-- the item of a field is put under its key
pub field_put : (f : Field) (ts : List Tree) (u : Tree) (v : Value) (k : String Global) (old new : List (String Global × Value)) → 1 ≤ length ts → u ≡ get_or ts 0 u → ts ≡ (out-Field f).items
    → (has_shape (view u) ≡ true → value_view v ≡ tree_data (view u)) → string_bytes k ≡ (out-Field f).key.0 → new ≡ insert_entry string_cmp old k v
    → (t : Node) → (field_view f).items ≡ first t no_nodes → has_shape t ≡ true → members_view new ≡ put (field_view f).key (tree_data t) (members_view old)
field_put f ts u v k old new some is whole value key inserted t one form =
    let at : view u ≡ t = first_item ts u (field_view f).items t some is (field_whole f ts whole) one in
    ap members_view inserted
    ∙ members_view-insert_entry old k v
    ∙ (λ j. put ((key ∙ sym (field_key f)) j) ((value (ap has_shape at ∙ form) ∙ ap tree_data at) j) (members_view old))

-- ---- a node

node_shown : (t : Tree) (name : List ℕ) (body v : Value) → (out-Tree t).leaf ≡ None → name ≡ (out-Tree t).ty
    → (fields_shaped None (fields_view (out-Tree t).fields) ≡ true → fields_have_shape (fields_view (out-Tree t).fields) ≡ true → value_view body ≡ body_data (fields_view (out-Tree t).fields))
    → value_view v ≡ object (member name (value_view body) no_members) → has_shape (view t) ≡ true → value_view v ≡ tree_data (view t)
node_shown t name body v leafless named written is form =
    let x = out-Tree t in
    let seen : view t ≡ node x.ty None (fields_view x.fields) = view_out t ∙ ap (λ o. node x.ty o (fields_view x.fields)) leafless in
    let parts = and-true (fields_shaped None (fields_view x.fields)) (fields_have_shape (fields_view x.fields)) (sym (ap has_shape seen) ∙ form) in
    is ∙ (λ j. object (member (named j) (written parts.0 parts.1 j) no_members)) ∙ ap tree_data (sym seen)

-- a node that is no leaf is written
pub node_written : {E : Type 0} (r : Result Value E) (t : Tree) (name : List ℕ) (body : Value) → (out-Tree t).leaf ≡ None → name ≡ (out-Tree t).ty
    → (fields_shaped None (fields_view (out-Tree t).fields) ≡ true → fields_have_shape (fields_view (out-Tree t).fields) ≡ true → value_view body ≡ body_data (fields_view (out-Tree t).fields))
    → IfOk r (λ v. value_view v ≡ object (member name (value_view body) no_members)) → IfOk r (λ v. has_shape (view t) ≡ true → value_view v ≡ tree_data (view t))
node_written (Ok v) t name body leafless named written is = node_shown t name body v leafless named written is
node_written (Err e) t name body leafless named written is = tt
