-- The opening document of a tree that a schema allows shows that tree, and is as typed.
use Rattle.std.proofs.Common.{◌≡◌, ◌≢◌, ℕ, suc, ◌+◌, ◌<◌, ◌≤◌, ◌^◌, Bool, true, false, cond, List, [], ◌∷◌, ◌++◌, length, length-append, map, append-nil, Option, Some, None, unwrap_or, refl, sym, ap, ◌∙◌, subst, arith, inl, inr, ◌⊎◌}
use Rattle.std.specs.List.{filter_map, cons_option}
use Rattle.std.specs.Option.{option_or}
use Rattle.st_ids.specs.Listing.{Has, AreDistinct}
use Rattle.st_ids.specs.Order.{same_node, same_field}
use Rattle.st_ids.specs.declared.names.FieldId.{FieldId}
use Rattle.st_ids.specs.declared.names.NodeId.{NodeId}
use Rattle.st_ids.specs.declared.names.Rev.{Rev}
use Rattle.st_ids.proofs.Orders.{same_node-true, same_node-itself, same_cell-itself, same_field-true}
use Rattle.st_tree.specs.Node.{Node, node, Fields, no_fields, field, Nodes, no_nodes, first}
use Rattle.st_tree.specs.Preorder.{node_named, cells_taken, cell_count, item_cells, at_of, tree_listed, fields_listed, items_listed, opening_listed}
use Rattle.st_tree.specs.Size.{node_count, field_count, item_count}
use Rattle.st_tree.specs.declared.flat.FlatAt.{FlatAt}
use Rattle.st_tree.specs.declared.flat.FlatNode.{FlatNode}
use Rattle.st_schema.specs.Conforms.{conforms}
use Rattle.st_schema.specs.Schema.{SchemaView}
use Rattle.st_schema.specs.TreeText.{tree_data}
use Rattle.st_schema.proofs.AllowedForm.{conforming_formed}
use Rattle.st_marks.specs.declared.intents.Owned.{Owned}
use Rattle.st_marks.specs.declared.places.Spot.{Spot}
use Rattle.st_marks.specs.Document.{Document, NodeType, IsSoundInForm, is_cell, owned_cell, slot}
use Rattle.st_ids.specs.Root.{opening, root}
use Rattle.st_marks.specs.LiveTree.{Shows, owners_shown}
use Rattle.st_marks.proofs.Members.{distinct-has, has-all}
use Rattle.st_opening.specs.Start.{cell_at, first_said, held_at, place_at, spot_at, start_of, type_at}
use Rattle.st_opening.proofs.StartSound.{start_sound, at_register}
use Rattle.st_edits.specs.New.{cells_under, owned_by, row_cell}
use Rattle.st_opening.proofs.PreorderNames.{same_number}
use Rattle.st_schema_laws.specs.Edited.{TellsRows}
use Rattle.st_schema_laws.specs.Typed.{IsAsTyped}
use Rattle.st_schema_laws.proofs.Named.{own_all}
use Rattle.st_schema_laws.proofs.NewTreesShown.{Keeps, no_under, own_tree, tree_shown}
use Rattle.st_schema_laws.proofs.Rows.{all_full}
use Rattle.st_schema_laws.proofs.TypedTrees.{above_at, tree_own, tree_owner}
use Rattle.st_ids.proofs.Shared.{filter-from}
use Rattle.st_edits.proofs.NewFits.{cells_under_from}

-- ## Names are counted up

abbrev Names : Rev → List FlatNode → ℕ → Type 0
Names rev [] n = Unit {0}
Names rev (x ∷ xs) n = (x.node ≡ node_named rev n) × Names rev xs (n + 1)

names_at : (rev : Rev) (xs : List FlatNode) (n m : ℕ) → n ≡ m → Names rev xs n → Names rev xs m
names_at rev xs n m e h = subst (Names rev xs) e h

names_append : (rev : Rev) (xs ys : List FlatNode) (n : ℕ) → Names rev xs n → Names rev ys (n + length xs) → Names rev (xs ++ ys) n
names_append rev [] ys n h k = names_at rev ys (n + 0) n (omega arith) k
names_append rev (x ∷ xs) ys n h k = (h.0, names_append rev xs ys (n + 1) h.1 (names_at rev ys (n + suc (length xs)) (n + 1 + length xs) (omega arith) k))

abbrev AreNamed : Rev → List FlatNode → ℕ → ℕ → Type 0
AreNamed rev xs n count = (length xs ≡ count) × Names rev xs n

named_append : (rev : Rev) (xs ys : List FlatNode) (n a b : ℕ) → AreNamed rev xs n a → AreNamed rev ys (n + a) b → AreNamed rev (xs ++ ys) n (a + b)
named_append rev xs ys n a b h k = (length-append xs ys ∙ (λ i. h.0 i + k.0 i), names_append rev xs ys n h.1 (names_at rev ys (n + a) (n + length xs) (ap (λ l. n + l) (sym h.0)) k.1))

mutual
  tree_named : (rev : Rev) (at : FlatAt) (n c : ℕ) (t : Node) → AreNamed rev (tree_listed rev at n c t) n (node_count t)
  tree_named rev at n c (node ty leaf fs) = let r = fields_named rev n (n + 1) c fs in let l = r.0 in (omega (arith, l), (refl, r.1))

  fields_named : (rev : Rev) (owner n c : ℕ) (fs : Fields) → AreNamed rev (fields_listed rev owner n c fs) n (field_count fs)
  fields_named rev owner n c no_fields = (refl, tt)
  fields_named rev owner n c (field key row items rest) =
      named_append rev (items_listed rev owner key row n c items) (fields_listed rev owner (n + item_count items) (c + item_cells row items) rest) n (item_count items) (field_count rest) (items_named rev owner key row n c items)
      (fields_named rev owner (n + item_count items) (c + item_cells row items) rest)

  items_named : (rev : Rev) (owner : ℕ) (key : List ℕ) (row : Bool) (n c : ℕ) (ts : Nodes) → AreNamed rev (items_listed rev owner key row n c ts) n (item_count ts)
  items_named rev owner key row n c no_nodes = (refl, tt)
  items_named rev owner key row n c (first t ts) =
      named_append rev (tree_listed rev (at_of rev owner key row c) n (c + cells_taken row) t) (items_listed rev owner key row (n + node_count t) (c + (cells_taken row + cell_count t)) ts) n (node_count t) (item_count ts)
      (tree_named rev (at_of rev owner key row c) n (c + cells_taken row) t) (items_named rev owner key row (n + node_count t) (c + (cells_taken row + cell_count t)) ts)

number_of : (rev : Rev) (xs : List FlatNode) (n : ℕ) (x : FlatNode) → Names rev xs n → Has xs x → (k : ℕ) × (n ≤ k) × (x.node ≡ node_named rev k)
number_of rev [] n x h k = absurd k
number_of rev (y ∷ xs) n x h (inl e) = (n, omega arith, ap (λ (z : FlatNode). z.node) (sym e) ∙ h.0)
number_of rev (y ∷ xs) n x h (inr k) = let r = number_of rev xs (n + 1) x h.1 k in (r.0, omega (arith, r.1), r.2)

names_once : (rev : Rev) (xs : List FlatNode) (n : ℕ) → Names rev xs n → AreDistinct (λ (x : FlatNode). x.node) xs
names_once rev [] n h = tt
names_once rev (x ∷ xs) n h = (
  has-all (λ (y : FlatNode). y.node ≢ x.node) xs (λ y k same.
      let r = number_of rev xs (n + 1) y h.1 k in
      let e : r.0 ≡ n = same_number rev r.0 n (sym r.2 ∙ same ∙ h.0) in
      absurd (omega (arith, e, r.1))),
  names_once rev xs (n + 1) h.1,
)

-- ## What the first node says that says anything

said : {A B : Type 0} (say : A → Option B) (xs : List A) (x : A) (b : B) → Has xs x → say x ≡ Some b → ((y : A) → Has xs y → (say y ≡ None) ⊎ (y ≡ x)) → first_said say xs ≡ Some b
said say [] x b h e alone = absurd h
said say (y ∷ xs) x b (inl q) e alone = ap (λ o. option_or o (first_said say xs)) (ap say q ∙ e)
said say (y ∷ xs) x b (inr h) e alone = elim (alone y (inl refl)) [
  | inl none ↦ ap (λ o. option_or o (first_said say xs)) none ∙ said say xs x b h e (λ z k. alone z (inr k))
  | inr same ↦ ap (λ o. option_or o (first_said say xs)) (ap say same ∙ e)
]

said_from : {A B : Type 0} (say : A → Option B) (xs : List A) (b : B) → first_said say xs ≡ Some b → (x : A) × Has xs x × (say x ≡ Some b)
said_from say [] b e = cc
said_from {A} {B} say (y ∷ xs) b e = go (say y) refl (λ f. said_from say xs b f) e
  where
    go : (o : Option B) → say y ≡ o → (first_said say xs ≡ Some b → (x : A) × Has xs x × (say x ≡ Some b)) → option_or o (first_said say xs) ≡ Some b → (x : A) × Has (y ∷ xs) x × (say x ≡ Some b)
    go None q rest f = let r = rest f in (r.0, inr r.1, r.2)
    go (Some c) q rest f = (y, inl refl, q ∙ f)

if_some : {A : Type 0} (b : Bool) (x y : A) → cond b (Some x) None ≡ Some y → (b ≡ true) × (x ≡ y)
if_some true x y e = let q : x ≡ y = cc in (refl, q)
if_some false x y e = cc

filter_same : {A K : Type 0} (f g : A → Option K) (xs : List A) → ((x : A) → f x ≡ g x) → filter_map f xs ≡ filter_map g xs
filter_same f g [] same = refl
filter_same f g (x ∷ xs) same = (λ i. cons_option (same x i) (filter_same f g xs same i))

cell_same : (n m : NodeId) (at : FlatAt) → cell_at n m at ≡ owned_by m (row_cell n at)
cell_same n m FlatAt.Root = refl
cell_same n m (FlatAt.Top c) = refl
cell_same n m (FlatAt.Register f) = refl
cell_same n m (FlatAt.Row r c) = elim (same_node r n) as (λ b. cond b (Some (owned_cell c m)) None ≡ owned_by m (cond b (Some c) None)) [ true ↦ refl | false ↦ refl ]

cell_place : (n m : NodeId) (o : Owned) (at : FlatAt) → cell_at n m at ≡ Some o → above_at true at ≡ Some n
cell_place n m o FlatAt.Root e = absurd (cc)
cell_place n m o (FlatAt.Top c) e = absurd (cc)
cell_place n m o (FlatAt.Register f) e = absurd (cc)
cell_place n m o (FlatAt.Row r c) e = ap (λ x. Some x) (same_node-true r n (if_some (same_node r n) (owned_cell c m) o e).0)

held_place : (f : FieldId) (n m : NodeId) (at : FlatAt) → held_at f n at ≡ Some m → above_at false at ≡ Some f.node
held_place f n m FlatAt.Root e = absurd (cc)
held_place f n m (FlatAt.Top c) e = absurd (cc)
held_place f n m (FlatAt.Row r c) e = absurd (cc)
held_place f n m (FlatAt.Register g) e = ap (λ (h : FieldId). Some h.node) (same_field-true g f (if_some (same_field g f) n m e).0)

-- ## The opening document

module _ (s : SchemaView) (is_array : List ℕ → Bool) (tells : TellsRows is_array s) (types : List (List ℕ)) (t : Node) (schema : List ℕ) (ok : conforms s types t ≡ true) (few : node_count t < 2 ^ 32) where
  abbrev xs : List FlatNode
  xs = opening_listed t

  abbrev E : Document
  E = start_of xs schema

  sound : IsSoundInForm E
  sound = start_sound t schema (conforming_formed s types t ok) few

  once : AreDistinct (λ (x : FlatNode). x.node) xs
  once = names_once opening xs 0 (tree_named opening FlatAt.Root 0 0 t).1

  -- what is said of a node, only that node says
  of_node : {B : Type 0} (f : FlatNode → B) (z : FlatNode) → Has xs z → first_said (λ (x : FlatNode). cond (same_node x.node z.node) (Some (f x)) None) xs ≡ Some (f z)
  of_node f z h = said (λ (x : FlatNode). cond (same_node x.node z.node) (Some (f x)) None) xs z (f z) h (ap (λ b. cond b (Some (f z)) None) (same_node-itself z.node)) (λ y k. alone y k (same_node y.node z.node) refl)
    where
      alone : (y : FlatNode) → Has xs y → (b : Bool) → same_node y.node z.node ≡ b → (cond (same_node y.node z.node) (Some (f y)) None ≡ None) ⊎ (y ≡ z)
      alone y k false e = inl (ap (λ b. cond b (Some (f y)) None) e)
      alone y k true e = inr (distinct-has (λ (x : FlatNode). x.node) xs y z once k h (same_node-true y.node z.node e))

  node_is : (z : FlatNode) → Has xs z → E.nodes z.node ≡ Some (record { ty = z.ty; leaf = z.leaf })
  node_is z h = of_node (λ (x : FlatNode). record { ty = x.ty; leaf = x.leaf }) z h

  place_is : (z : FlatNode) → Has xs z → E.place z.node ≡ spot_at z.at
  place_is z h = ap (λ o. unwrap_or o Spot.Nowhere) (of_node (λ (x : FlatNode). spot_at x.at) z h)

  rows_are : (n : NodeId) → E.rows n ≡ cells_under xs n
  rows_are n = filter_same (λ (x : FlatNode). cell_at n x.node x.at) (λ (x : FlatNode). owned_by x.node (row_cell n x.at)) xs (λ x. cell_same n x.node x.at)

  kept : Keeps E xs
  kept = record {
    node_is = node_is;
    row_is = λ z h. ap (λ os. owners_shown (map (slot E) os)) (rows_are z.node) ∙ all_full E (cells_under xs z.node) (λ o k. (let y = cells_under_from xs z.node o k in
        ap (is_cell o.cell) (ap E.place (sym y.3) ∙ place_is y.0 y.1 ∙ ap spot_at y.2) ∙ same_cell-itself o.cell));
    in_register = λ v z f h k e own. (sound.one_held v.node f).1 (place_is v k ∙ ap spot_at e);
    from_register = λ z f y h own e. placed f y (first_said (place_at y) xs) refl ((sound.one_held y f).0 e);
  }
    where
      placed : (f : FieldId) (y : NodeId) (o : Option Spot) → first_said (place_at y) xs ≡ o → unwrap_or o Spot.Nowhere ≡ Spot.Register f → (v : FlatNode) × Has xs v × (v.at ≡ FlatAt.Register f)
      placed f y None q e = absurd (cc)
      placed f y (Some spot) q e =
          let v = said_from (place_at y) xs spot q in
          (v.0, v.1, at_register v.0.at f ((if_some (same_node v.0.node y) (spot_at v.0.at) spot v.2).1 ∙ e))

  pub opening_seen : Shows is_array E root (tree_data t)
  opening_seen =
      let o = own_tree opening xs FlatAt.Root 0 0 t [] 0 (0 + node_count t) (omega arith) (omega arith) (no_under opening 0 (0 + node_count t) FlatAt.Root refl) (λ y k _. k)
      (subst (λ l. Rattle.st_schema_laws.proofs.NewTreesShown.Own opening xs l 0 (0 + node_count t)) (sym (append-nil xs)) (own_all opening xs 0 (0 + node_count t))) in
      tree_shown s is_array tells opening E xs kept types FlatAt.Root 0 0 t ok o.0 o.1

  type_said : (n : NodeId) (k : NodeType) → E.nodes n ≡ Some k → (x : FlatNode) × Has xs x × (x.node ≡ n) × (record { ty = x.ty; leaf = x.leaf } ≡ k)
  type_said n k e =
      let x = said_from (type_at n) xs k e in
      let w = if_some (same_node x.0.node n) (record { ty = x.0.ty; leaf = x.0.leaf }) k x.2 in
      (x.0, x.1, same_node-true x.0.node n w.0, w.1)

  owner_typed : (b : Bool) (x : FlatNode) (r : NodeId) (k : NodeType) → Has xs x → above_at b x.at ≡ Some r → E.nodes r ≡ Some k → (k.leaf ≡ None) × (is_array k.ty ≡ b)
  owner_typed b x r k h e known = elim (tree_owner s is_array tells b types opening FlatAt.Root 0 0 t ok x r h e) [
    | inl bad ↦ absurd (cc)
    | inr z ↦ (let both : Some (record { ty = z.0.ty; leaf = z.0.leaf }) ≡ Some k = sym (node_is z.0 z.1) ∙ ap E.nodes z.2 ∙ known in
        let same : record { ty = z.0.ty; leaf = z.0.leaf } ≡ k = cc in
        subst (λ (k : NodeType). (k.leaf ≡ None) × (is_array k.ty ≡ b)) same (z.3, z.4))
  ]

  pub opening_typed : IsAsTyped is_array E
  opening_typed = record {
    leaves = λ n k e v q. (let x = type_said n k e in ap (λ (k : NodeType). k.ty) (sym x.3) ∙ (tree_own s is_array tells types opening FlatAt.Root 0 0 t ok x.0 x.1).leaf v (ap (λ (k : NodeType). k.leaf) x.3 ∙ q));
    cells = λ n o k e h. (let x = filter-from (λ (x : FlatNode). cell_at n x.node x.at) xs o h in owner_typed true x.0 n k x.1 (cell_place n x.0.node o x.0.at x.2) e);
    registers = λ f m k e h. (let x = said_from (λ (x : FlatNode). held_at f x.node x.at) xs m h in owner_typed false x.0 f.node k x.1 (held_place f x.0.node m x.0.at x.2) e);
  }
