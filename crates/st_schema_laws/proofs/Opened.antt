-- The opening document of a tree that the schema allows is conforming.
use Rattle.std.proofs.Common.{◌≡◌, ℕ, suc, ◌+◌, ◌≤◌, Bool, true, false, not, cond, List, [], ◌∷◌, ◌++◌, length, Option, Some, None, IsSome, is_some, unwrap_or, option_and_then, refl, sym, ap, ◌∙◌, subst, arith, inl, inr, Ok}
use Rattle.std.specs.List.{list_all, position_from}
use Rattle.std.specs.Option.{option_map_or}
use Rattle.st_ids.specs.Listing.{Has}
use Rattle.st_ids.specs.Order.{same_node}
use Rattle.st_ids.specs.declared.names.FieldId.{FieldId}
use Rattle.st_ids.specs.declared.names.Key.{Key}
use Rattle.st_ids.specs.declared.names.NodeId.{NodeId}
use Rattle.st_ids.specs.declared.names.Rev.{Rev}
use Rattle.st_ids.proofs.Orders.{same_node-true, same_node-itself, same_field-itself}
use Rattle.st_tree.specs.declared.flat.FlatAt.{FlatAt}
use Rattle.st_tree.specs.declared.flat.FlatNode.{FlatNode}
use Rattle.st_tree.specs.Node.{Node, node, Fields, no_fields, field, Nodes, no_nodes, first}
use Rattle.st_tree.specs.Size.{node_count, item_count}
use Rattle.st_tree.specs.Preorder.{node_named, cells_taken, cell_count, item_cells, at_of, tree_listed, fields_listed, items_listed, opening_listed}
use Rattle.st_schema.specs.Schema.{SchemaView, field_of, is_among, is_sound}
use Rattle.st_schema.specs.Conforms.{verdicts, refusal, allows_of}
use Rattle.st_schema.specs.declared.names.FieldRule.{FieldRule}
use Rattle.st_schema.specs.declared.names.KindName.{KindName}
use Rattle.st_marks.specs.declared.places.Spot.{Spot}
use Rattle.st_marks.specs.Document.{Document, NodeType}
use Rattle.st_ids.specs.Root.{root, opening}
use Rattle.st_opening.specs.Start.{first_said, type_at, spot_at, place_at, held_at, start_of}
use Rattle.st_edits.specs.Paths.{field_at}
use Rattle.st_edits.specs.Resolve.{rule_at, has_type}
use Rattle.st_schema.specs.Kind.{is_required, is_row, is_single_kind}
use Rattle.st_edits.specs.Fields.{row_key, type_fits, register_in}
use Rattle.st_schema_laws.specs.Conforming.{MayStand, IsConforming}
use Rattle.st_schema_laws.proofs.Rules.{required_not_row}
use Rattle.st_schema_laws.proofs.NewTrees.{no_home, one_home}
use Rattle.st_schema_laws.proofs.Simple.{rule_there}
use Rattle.st_schema_laws.proofs.Listed.{HasField, IsPlaced, IsAllowedItem, root_allowed}
use Rattle.st_opening.proofs.PreorderNames.{items_length, listed_length}
use Rattle.st_opening.proofs.StartSound.{place_of, said-has, said_some}
use Rattle.st_lemmas.proofs.Bools.{true-false}
use Rattle.st_lemmas.proofs.Lists.{position_from-None}

-- ## Nodes that are numbered in turn

abbrev Numbered : Rev → List FlatNode → ℕ → Type 0
Numbered rev [] n = Unit {0}
Numbered rev (x ∷ xs) n = (x.node ≡ node_named rev n) × Numbered rev xs (n + 1)

numbered_at : (rev : Rev) (xs : List FlatNode) (n m : ℕ) → n ≡ m → Numbered rev xs n → Numbered rev xs m
numbered_at rev xs n m e h = subst (Numbered rev xs) e h

numbered_append : (rev : Rev) (xs ys : List FlatNode) (n : ℕ) → Numbered rev xs n → Numbered rev ys (n + length xs) → Numbered rev (xs ++ ys) n
numbered_append rev [] ys n h g = numbered_at rev ys (n + 0) n (omega arith) g
numbered_append rev (x ∷ xs) ys n h g = (h.0, numbered_append rev xs ys (n + 1) h.1 (numbered_at rev ys (n + suc (length xs)) (n + 1 + length xs) (omega arith) g))

number_of : (rev : Rev) (xs : List FlatNode) (n : ℕ) (x : FlatNode) → Numbered rev xs n → Has xs x → (k : ℕ) × (n ≤ k) × (x.node ≡ node_named rev k)
number_of rev [] n x h k = absurd k
number_of rev (y ∷ xs) n x h (inl e) = (n, omega arith, ap (λ (z : FlatNode). z.node) (sym e) ∙ h.0)
number_of rev (y ∷ xs) n x h (inr k) = let r = number_of rev xs (n + 1) x h.1 k in (r.0, omega (arith, r.1), r.2)

not_later : (rev : Rev) (xs : List FlatNode) (n : ℕ) (x : FlatNode) → Numbered rev xs (n + 1) → Has xs x → x.node ≡ node_named rev n → ⊥
not_later rev xs n x h k e =
    let r = number_of rev xs (n + 1) x h k in
    let same : n ≡ r.0 = ap (λ (m : NodeId). m.0.at) (sym e ∙ r.2) in
    let low : n + 1 ≤ r.0 = r.1 in
    omega arith

one_named : (rev : Rev) (xs : List FlatNode) (n : ℕ) (x y : FlatNode) → Numbered rev xs n → Has xs x → Has xs y → x.node ≡ y.node → x ≡ y
one_named rev [] n x y h p q e = absurd p
one_named rev (z ∷ xs) n x y h (inl p) (inl q) e = sym p ∙ q
one_named rev (z ∷ xs) n x y h (inl p) (inr q) e = absurd (not_later rev xs n y h.1 q (sym e ∙ ap (λ (w : FlatNode). w.node) (sym p) ∙ h.0))
one_named rev (z ∷ xs) n x y h (inr p) (inl q) e = absurd (not_later rev xs n x h.1 p (e ∙ ap (λ (w : FlatNode). w.node) (sym q) ∙ h.0))
one_named rev (z ∷ xs) n x y h (inr p) (inr q) e = one_named rev xs (n + 1) x y h.1 p q e

mutual
  tree_numbered : (rev : Rev) (at : FlatAt) (n c : ℕ) (t : Node) → Numbered rev (tree_listed rev at n c t) n
  tree_numbered rev at n c (node ty leaf fields) = (refl, fields_numbered rev n (n + 1) c fields)

  fields_numbered : (rev : Rev) (owner n c : ℕ) (fs : Fields) → Numbered rev (fields_listed rev owner n c fs) n
  fields_numbered rev owner n c no_fields = tt
  fields_numbered rev owner n c (field key row items rest) =
      let later = fields_listed rev owner (n + item_count items) (c + item_cells row items) rest in
      numbered_append rev (items_listed rev owner key row n c items) later n (items_numbered rev owner key row n c items)
      (numbered_at rev later (n + item_count items) _ (ap (λ k. n + k) (sym (items_length rev owner key row n c items))) (fields_numbered rev owner (n + item_count items) (c + item_cells row items) rest))

  items_numbered : (rev : Rev) (owner : ℕ) (key : List ℕ) (row : Bool) (n c : ℕ) (ts : Nodes) → Numbered rev (items_listed rev owner key row n c ts) n
  items_numbered rev owner key row n c no_nodes = tt
  items_numbered rev owner key row n c (first t ts) =
      let one = tree_listed rev (at_of rev owner key row c) n (c + cells_taken row) t in
      let later = items_listed rev owner key row (n + node_count t) (c + (cells_taken row + cell_count t)) ts in
      numbered_append rev one later n (tree_numbered rev (at_of rev owner key row c) n (c + cells_taken row) t)
      (numbered_at rev later (n + node_count t) _ (ap (λ k. n + k) (sym (listed_length rev (at_of rev owner key row c) n (c + cells_taken row) t)))
      (items_numbered rev owner key row (n + node_count t) (c + (cells_taken row + cell_count t)) ts))

-- ## The document of the list

type_of_at : (n : NodeId) (x : FlatNode) (t : NodeType) → type_at n x ≡ Some t → (x.node ≡ n) × (record { ty = x.ty; leaf = x.leaf } ≡ t)
type_of_at n x t e = go (same_node x.node n) refl e
  where
    go : (b : Bool) → same_node x.node n ≡ b → cond b (Some (record { ty = x.ty; leaf = x.leaf })) None ≡ Some t → (x.node ≡ n) × (record { ty = x.ty; leaf = x.leaf } ≡ t)
    go true p f = (same_node-true x.node n p, cc)
    go false p f = absurd (cc)

-- the homes of a document's nodes are the registers in which they stand
abbrev AreAtHome : (NodeId → Option FieldId) → Document → Type 0
AreAtHome home D = (m : NodeId) → IsSome (D.nodes m) → home m ≡ register_in (D.place m)

module _ (s : SchemaView) (home : NodeId → Option FieldId) (xs : List FlatNode) (schema : List ℕ) (counted : Numbered opening xs 0) (items : (x : FlatNode) → Has xs x → IsAllowedItem s xs s.root x) (own : AreAtHome home (start_of xs schema)) where
  node_is : (x : FlatNode) → Has xs x → (start_of xs schema).nodes x.node ≡ Some (record { ty = x.ty; leaf = x.leaf })
  node_is x h = go (first_said (type_at x.node) xs) refl
    where
      says : type_at x.node x ≡ Some (record { ty = x.ty; leaf = x.leaf })
      says = ap (λ b. cond b (Some (record { ty = x.ty; leaf = x.leaf })) None) (same_node-itself x.node)

      go : (o : Option NodeType) → first_said (type_at x.node) xs ≡ o → first_said (type_at x.node) xs ≡ Some (record { ty = x.ty; leaf = x.leaf })
      go None q = let some : is_some (first_said (type_at x.node) xs) ≡ true = said_some (type_at x.node) xs x (record { ty = x.ty; leaf = x.leaf }) h says in
          let bad : is_some {T = NodeType} None ≡ true = sym (ap is_some q) ∙ some in cc
      go (Some t) q =
          let z = said-has (type_at x.node) xs t q in
          let is = type_of_at x.node z.0 t z.2 in
          q ∙ ap (λ t. Some t) (sym is.1 ∙ ap (λ (y : FlatNode). record { ty = y.ty; leaf = y.leaf }) (one_named opening xs 0 z.0 x counted z.1 h is.0))

  rule_is : (kinds : KindName → Bool) (n : NodeId) (key : Key) (ty : List ℕ) (h : HasField s xs kinds n key ty) → rule_at (start_of xs schema) s n key ≡ Some h.rule
  rule_is kinds n key ty h =
      subst (λ n. rule_at (start_of xs schema) s n key ≡ Some h.rule) h.named (ap (option_and_then (λ (t : NodeType). field_of s t.ty key.0)) (node_is h.owner h.listed) ∙ h.ruled)

  type_is : (x : FlatNode) (ts : List (List ℕ)) → Has xs x → is_among x.ty ts ≡ true → has_type (start_of xs schema) ts x.node ≡ true
  type_is x ts h e = ap (λ o. option_map_or (λ (t : NodeType). is_among t.ty ts) o false) (node_is x h) ∙ e

  stands : (x : FlatNode) (spot : Spot) → Has xs x → (at : FlatAt) → IsPlaced s xs s.root x.ty at → spot_at at ≡ spot → home x.node ≡ register_in (spot_at at) → MayStand s home (start_of xs schema) x.node spot
  stands x spot h at p e f = subst (MayStand s home (start_of xs schema) x.node) e (go at p f)
    where
      go : (at : FlatAt) → IsPlaced s xs s.root x.ty at → home x.node ≡ register_in (spot_at at) → MayStand s home (start_of xs schema) x.node (spot_at at)
      go FlatAt.Root p f = tt
      go (FlatAt.Top c) p f = tt
      go (FlatAt.Row r c) p f =
          record { rule = p.rule; ruled = rule_is is_row r row_key x.ty p; kind = p.kind; typed = type_is x p.rule.types h p.typed; at_home = λ required. absurd (true-false required (required_not_row p.rule.kind p.kind)); away = λ g e. absurd (no_home home x.node g f e) }
      go (FlatAt.Register g) p f =
          record { rule = p.rule; ruled = rule_is is_single_kind g.node g.key x.ty p; kind = p.kind; typed = type_is x p.rule.types h p.typed; at_home = λ required. f; away = λ g' e. inl (one_home home x.node g g' f e) }

  each_stands : (m : NodeId) → MayStand s home (start_of xs schema) m ((start_of xs schema).place m)
  each_stands m = go (first_said (place_at m) xs) refl
    where
      go : (o : Option Spot) → first_said (place_at m) xs ≡ o → MayStand s home (start_of xs schema) m (unwrap_or (first_said (place_at m) xs) Spot.Nowhere)
      go None q = subst (λ o. MayStand s home (start_of xs schema) m (unwrap_or o Spot.Nowhere)) (sym q) tt
      go (Some spot) q =
          let x = said-has (place_at m) xs spot q in
          let p = place_of m x.0 spot x.2 in
          let here : (start_of xs schema).place m ≡ spot = ap (λ o. unwrap_or o Spot.Nowhere) q in
          let known : IsSome ((start_of xs schema).nodes m) = subst (λ n. IsSome ((start_of xs schema).nodes n)) p.0 (ap is_some (node_is x.0 x.1)) in
          let lives : home x.0.node ≡ register_in (spot_at x.0.at) = ap home p.0 ∙ own m known ∙ ap register_in (here ∙ sym p.1) in
          subst (MayStand s home (start_of xs schema) m) (sym here)
          (subst (λ n. MayStand s home (start_of xs schema) n spot) p.0 (stands x.0 spot x.1 x.0.at (items x.0 x.1).placed p.1 lives))

  from_list : (n : NodeId) (t : NodeType) → (start_of xs schema).nodes n ≡ Some t → (x : FlatNode) × Has xs x × (x.node ≡ n) × (record { ty = x.ty; leaf = x.leaf } ≡ t)
  from_list n t e = let x = said-has (type_at n) xs t e in let is = type_of_at n x.0 t x.2 in (x.0, x.1, is.0, is.1)

  each_filled : (n : NodeId) (key : Key) (rule : FieldRule) → rule_at (start_of xs schema) s n key ≡ Some rule → is_required rule.kind ≡ true → IsSome ((start_of xs schema).held (field_at n key))
  each_filled n key rule e required = go ((start_of xs schema).nodes n) refl e
    where
      held : (x y : FlatNode) → Has xs y → y.at ≡ FlatAt.Register (field_at x.node key) → IsSome ((start_of xs schema).held (field_at x.node key))
      held x y h q = said_some (λ (z : FlatNode). held_at (field_at x.node key) z.node z.at) xs y y.node h
          (ap (held_at (field_at x.node key) y.node) q ∙ ap (λ b. cond b (Some y.node) None) (same_field-itself (field_at x.node key)))

      go : (o : Option NodeType) → (start_of xs schema).nodes n ≡ o → option_and_then (λ (t : NodeType). field_of s t.ty key.0) o ≡ Some rule → IsSome ((start_of xs schema).held (field_at n key))
      go None q f = absurd (cc)
      go (Some t) q f =
          let x = from_list n t q in
          let y = (items x.0 x.1).filled key rule (ap (λ (t : NodeType). field_of s t.ty key.0) x.3 ∙ f) required in
          subst (λ n. IsSome ((start_of xs schema).held (field_at n key))) x.2 (held x.0 y.0 y.1 y.2)

  home_there : (m : NodeId) (f : FieldId) → IsSome ((start_of xs schema).nodes m) → home m ≡ Some f → IsSome ((start_of xs schema).nodes f.node)
  home_there m f known lives = go ((start_of xs schema).place m) (each_stands m) (sym (own m known) ∙ lives)
    where
      go : (spot : Spot) → MayStand s home (start_of xs schema) m spot → register_in spot ≡ Some f → IsSome ((start_of xs schema).nodes f.node)
      go Spot.Nowhere may q = absurd (cc)
      go (Spot.Row n c) may q = absurd (cc)
      go (Spot.Register g) may q =
          let same : g ≡ f = cc in
          subst (λ (f : FieldId). IsSome ((start_of xs schema).nodes f.node)) same (rule_there (start_of xs schema) s g.node g.key may.rule may.ruled)

  pub list_conforms : (x : FlatNode) → Has xs x → x.node ≡ root → is_among x.ty s.root ≡ true → IsConforming s home (start_of xs schema)
  list_conforms x h top among = record {
    types = λ n t e. (let x = from_list n t e in ap (λ (t : NodeType). type_fits s t.ty t.leaf) (sym x.3) ∙ (items x.0 x.1).typed);
    places = each_stands;
    filled = each_filled;
    homes = home_there;
    root_type = subst (λ n. has_type (start_of xs schema) s.root n ≡ true) top (type_is x s.root h among);
  }

-- the root of a tree is the first of its nodes
top_listed : (t : Node) → (x : FlatNode) × Has (opening_listed t) x × (x.node ≡ root) × (x.at ≡ FlatAt.Root)
top_listed (node ty leaf fs) = (_, inl refl, refl, refl)

pub opening_conforms : (s : SchemaView) (home : NodeId → Option FieldId) (t : Node) (schema : List ℕ) → is_sound s ≡ true → list_all (λ ok. ok) (verdicts s s.root t) ≡ true
    → AreAtHome home (start_of (opening_listed t) schema) → IsConforming s home (start_of (opening_listed t) schema)
opening_conforms s home t schema sound ok own =
    let items = root_allowed s sound (opening_listed t) s.root opening t ok (λ x h. h) in
    let x = top_listed t in
    list_conforms s home (opening_listed t) schema (tree_numbered opening FlatAt.Root 0 0 t) items own x.0 x.1 x.2 (subst (IsPlaced s (opening_listed t) s.root x.0.ty) x.3 (items x.0 x.1).placed)

none_refused : (o : Option ℕ) → refusal o ≡ Ok tt → o ≡ None
none_refused None e = refl
none_refused (Some i) e = absurd (cc)

pub allowed_conforms : (s : SchemaView) (home : NodeId → Option FieldId) (t : Node) (schema : List ℕ) → is_sound s ≡ true → allows_of s s.root t ≡ Ok tt
    → AreAtHome home (start_of (opening_listed t) schema) → IsConforming s home (start_of (opening_listed t) schema)
allowed_conforms s home t schema sound e own = opening_conforms s home t schema sound (position_from-None 0 (verdicts s s.root t) (none_refused (position_from (λ ok. not ok) 0 (verdicts s s.root t)) e)) own
