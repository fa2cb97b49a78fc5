-- The list of a tree's nodes builds the tree back.
use Rattle.std.proofs.Common.{◌≡◌, ℕ, ◌+◌, ◌<◌, ◌≤◌, ◌==◌, List, [], ◌∷◌, ◌++◌, ◌∙◌, length, map, Bool, true, false, ◌||◌, Option, None, Some, refl, sym, ap, subst, arith, append_assoc}
use Rattle.std.proofs.lemmas.Bool.Decides.{nat_tests}
use Rattle.std.proofs.lemmas.List.{append-nil}
use Rattle.std.specs.Prelude.{⊤}
use Rattle.std.specs.Ordering.{is_eq}
use Rattle.st_ids.specs.declared.names.Rev.{Rev}
use Rattle.st_ids.specs.declared.names.NodeId.{NodeId}
use Rattle.st_ids.specs.declared.names.Leaf.{Leaf}
use Rattle.st_ids.specs.Order.{node_cmp, same_node}
use Rattle.st_ids.proofs.Orders.{same_node-true, same_node-itself}
use Rattle.st_tree.specs.Node.{Node, node, Fields, no_fields, field, Nodes, no_nodes, first, nodes_of, fields_of, trees_view, view}
use Rattle.st_tree.specs.Size.{node_count, item_count}
use Rattle.st_tree.specs.Form.{is_row_alone, keys_rise, fields_fit_leaf, has_form, fields_have_form, all_have_form}
use Rattle.st_tree.specs.Preorder.{node_named, cell_named, cells_taken, cell_count, item_cells, is_array, at_of, tree_listed, fields_listed, items_listed, tops_listed, opening_listed}
use Rattle.st_tree.specs.inside.Rebuilt.{Waiting, is_below, first_is_below, fields_of_node, fields_of_others, named_field, fields_above, with_parent, trees_rebuilt}
use Rattle.st_tree.specs.declared.flat.FlatAt.{FlatAt}
use Rattle.st_tree.specs.declared.flat.FlatAt.TheVariants.{Root, Top}
use Rattle.st_tree.specs.declared.flat.FlatNode.{FlatNode}
use Rattle.st_tree.specs.declared.tree.Tree.{Tree}
use Rattle.st_tree.proofs.Back.{same_trees}
use Rattle.st_lemmas.proofs.Bools.{refuted-false, and-true}

-- ---- tests

one_node : (a : NodeId) → is_eq (node_cmp a a) ≡ true
unfolding same_node
one_node a = same_node-itself a

equal_nodes : (a b : NodeId) → is_eq (node_cmp a b) ≡ true → a ≡ b
unfolding same_node
equal_nodes a b h = same_node-true a b h

two_nodes : (rev : Rev) (owner m : ℕ) → owner < m → is_eq (node_cmp (node_named rev owner) (node_named rev m)) ≡ false
two_nodes rev owner m h = refuted-false _ (λ e. let same : owner ≡ m = ap (λ (x : NodeId). x.0.at) (equal_nodes (node_named rev owner) (node_named rev m) e) in omega arith)

-- ---- what the fields of a node leave waiting for it

abbrev placed_items : Rev → ℕ → List ℕ → Bool → ℕ → Nodes → List Waiting
placed_items rev owner key row c no_nodes = []
placed_items rev owner key row c (first t ts) = (at_of rev owner key row c, t) ∷ placed_items rev owner key row (c + (cells_taken row + cell_count t)) ts

abbrev placed_fields : Rev → ℕ → ℕ → Fields → List Waiting
placed_fields rev owner c no_fields = []
placed_fields rev owner c (field key row items rest) = placed_items rev owner key row c items ++ placed_fields rev owner (c + item_cells row items) rest

abbrev placed_tops : Rev → ℕ → Nodes → List Waiting
placed_tops rev c no_nodes = []
placed_tops rev c (first t ts) = (Top (cell_named rev c), t) ∷ placed_tops rev (c + (1 + cell_count t)) ts

-- ---- a node takes what stands below it

abbrev AllBelow : NodeId → List Waiting → Type 0
AllBelow n [] = ⊤
AllBelow n (w ∷ ws) = (is_below n w.0 ≡ true) × AllBelow n ws

AllBelow-append : (n : NodeId) (ws xs : List Waiting) → AllBelow n ws → AllBelow n xs → AllBelow n (ws ++ xs)
AllBelow-append n [] xs p q = q
AllBelow-append n (w ∷ ws) xs p q = (p.0, AllBelow-append n ws xs p.1 q)

mine_all : (n : NodeId) (ws xs : List Waiting) → AllBelow n ws → first_is_below n xs ≡ false → fields_of_node n (ws ++ xs) ≡ ws
mine_all n [] [] p q = refl
mine_all n [] (x ∷ xs) p q = rw q
mine_all n (w ∷ ws) xs p q = rw p.0 (ap (λ vs. w ∷ vs) (mine_all n ws xs p.1 q))

others_all : (n : NodeId) (ws xs : List Waiting) → AllBelow n ws → first_is_below n xs ≡ false → fields_of_others n (ws ++ xs) ≡ xs
others_all n [] [] p q = refl
others_all n [] (x ∷ xs) p q = rw q
others_all n (w ∷ ws) xs p q = rw p.0 (others_all n ws xs p.1 q)

at_below : (rev : Rev) (owner : ℕ) (key : List ℕ) (row : Bool) (c : ℕ) → is_below (node_named rev owner) (at_of rev owner key row c) ≡ true
at_below rev owner key true c = one_node (node_named rev owner)
at_below rev owner key false c = one_node (node_named rev owner)

items_below : (rev : Rev) (owner : ℕ) (key : List ℕ) (row : Bool) (c : ℕ) (ts : Nodes) → AllBelow (node_named rev owner) (placed_items rev owner key row c ts)
items_below rev owner key row c no_nodes = tt
items_below rev owner key row c (first t ts) = (at_below rev owner key row c, items_below rev owner key row (c + (cells_taken row + cell_count t)) ts)

fields_below : (rev : Rev) (owner c : ℕ) (fs : Fields) → AllBelow (node_named rev owner) (placed_fields rev owner c fs)
fields_below rev owner c no_fields = tt
fields_below rev owner c (field key row items rest) = AllBelow-append _ (placed_items rev owner key row c items) _ (items_below rev owner key row c items) (fields_below rev owner (c + item_cells row items) rest)

-- ---- what stands below an earlier node is not below a later one

-- what comes first of what waits is below no node from the number n on
abbrev NoneFrom : Rev → ℕ → List Waiting → Type 0
NoneFrom rev n ws = (m : ℕ) → n ≤ m → first_is_below (node_named rev m) ws ≡ false

NoneFrom-later : (rev : Rev) (n k : ℕ) (ws : List Waiting) → n ≤ k → NoneFrom rev n ws → NoneFrom rev k ws
NoneFrom-later rev n k ws h none m later = none m (omega arith)

at_not_below : (rev : Rev) (owner m : ℕ) (key : List ℕ) (row : Bool) (c : ℕ) → owner < m → is_below (node_named rev m) (at_of rev owner key row c) ≡ false
at_not_below rev owner m key true c h = two_nodes rev owner m h
at_not_below rev owner m key false c h = two_nodes rev owner m h

NoneFrom-items : (rev : Rev) (owner n : ℕ) (key : List ℕ) (row : Bool) (c : ℕ) (ts : Nodes) (ws : List Waiting) → owner < n → NoneFrom rev n ws → NoneFrom rev n (placed_items rev owner key row c ts ++ ws)
NoneFrom-items rev owner n key row c no_nodes ws h none = none
NoneFrom-items rev owner n key row c (first t ts) ws h none = λ m later. at_not_below rev owner m key row c (omega arith)

NoneFrom-fields : (rev : Rev) (owner n c : ℕ) (fs : Fields) (ws : List Waiting) → owner < n → NoneFrom rev n ws → NoneFrom rev n (placed_fields rev owner c fs ++ ws)
NoneFrom-fields rev owner n c no_fields ws h none = none
NoneFrom-fields rev owner n c (field key row items rest) ws h none = subst (NoneFrom rev n) (sym (append_assoc (placed_items rev owner key row c items) _ ws))
    (NoneFrom-items rev owner n key row c items _ h (NoneFrom-fields rev owner n (c + item_cells row items) rest ws h none))

NoneFrom-tops : (rev : Rev) (n c : ℕ) (ts : Nodes) → NoneFrom rev n (placed_tops rev c ts)
NoneFrom-tops rev n c no_nodes = λ m later. refl
NoneFrom-tops rev n c (first t ts) = λ m later. refl

-- ---- the fields of a node come back from what waits for it

items_placed : (rev : Rev) (owner : ℕ) (key : List ℕ) (row : Bool) (c : ℕ) (ts : Nodes) → nodes_of (map (λ w. w.1) (placed_items rev owner key row c ts ++ [])) ≡ ts
items_placed rev owner key row c no_nodes = refl
items_placed rev owner key row c (first t ts) = ap (first t) (items_placed rev owner key row (c + (cells_taken row + cell_count t)) ts)

keyed_back : (rev : Rev) (owner c : ℕ) (before : List ℕ) (fs : Fields) → keys_rise before fs ≡ true → fields_of (map named_field (placed_fields rev owner c fs)) ≡ fs
keyed_back rev owner c before no_fields h = refl
keyed_back rev owner c before (field key true items rest) h = absurd (cc)
keyed_back rev owner c before (field key false no_nodes rest) h = absurd (cc)
keyed_back rev owner c before (field key false (first t no_nodes) rest) h = ap (field key false (first t no_nodes)) (keyed_back rev owner (c + item_cells false (first t no_nodes)) key rest (and-true _ _ h).1)
keyed_back rev owner c before (field key false (first t (first u ts)) rest) h = absurd (cc)

empty_key : (key : List ℕ) → length key == 0 ≡ true → key ≡ []
empty_key [] h = refl
empty_key (b ∷ key) h = absurd (grind (arith, nat_tests))

either : (a : Bool) → a || false ≡ true → a ≡ true
either true h = refl
either false h = h

pub not_alone : (key : List ℕ) (items : Nodes) (rest : Fields) → is_row_alone (field key false items rest) ≡ false
not_alone key items no_fields = refl
not_alone key items (field key' row' items' rest) = refl

fields_back : (rev : Rev) (owner c : ℕ) (leaf : Option Leaf) (fs : Fields) → fields_fit_leaf leaf fs ≡ true → fields_above (is_array fs) (placed_fields rev owner c fs) ≡ fs
fields_back rev owner c (Some v) no_fields h = refl
fields_back rev owner c (Some v) (field key row items rest) h = absurd (cc)
fields_back rev owner c None no_fields h = refl
fields_back rev owner c None (field key true items no_fields) h = λ i. field (sym (empty_key key (either (length key == 0) h)) i) true (items_placed rev owner key true c items i) no_fields
fields_back rev owner c None (field key true items (field key' row' items' rest)) h = absurd (cc)
fields_back rev owner c None (field key false items rest) h = keyed_back rev owner c [] (field key false items rest) (subst (λ b. b || keys_rise [] (field key false items rest) ≡ true) (not_alone key items rest) h)

-- ---- a list of nodes builds its trees back

mutual
  tree_rebuilt : (rev : Rev) (at : FlatAt) (n c : ℕ) (t : Node) (rest : List FlatNode) → has_form t ≡ true → NoneFrom rev n (trees_rebuilt rest)
      → trees_rebuilt (tree_listed rev at n c t ++ rest) ≡ (at, t) ∷ trees_rebuilt rest
  tree_rebuilt rev at n c (node ty leaf fields) rest form none =
      let parts = and-true (fields_fit_leaf leaf fields) (fields_have_form fields) form in
      let below = fields_rebuilt rev n (n + 1) c fields rest parts.1 (omega arith) (NoneFrom-later rev n (n + 1) (trees_rebuilt rest) (omega arith) none) in
      let own = fields_below rev n c fields in
      let after = none n (omega arith) in
      let x : FlatNode = record { node = node_named rev n; ty = ty; leaf = leaf; row = is_array fields; at = at } in
      ap (with_parent x) below
      ∙ (λ i. (at, node ty leaf (fields_above (is_array fields) (mine_all (node_named rev n) (placed_fields rev n c fields) (trees_rebuilt rest) own after i))) ∷ others_all (node_named rev n) (placed_fields rev n c fields) (trees_rebuilt rest) own after i)
      ∙ ap (λ fs. (at, node ty leaf fs) ∷ trees_rebuilt rest) (fields_back rev n c leaf fields parts.0)

  fields_rebuilt : (rev : Rev) (owner n c : ℕ) (fs : Fields) (rest : List FlatNode) → fields_have_form fs ≡ true → owner < n → NoneFrom rev n (trees_rebuilt rest)
      → trees_rebuilt (fields_listed rev owner n c fs ++ rest) ≡ placed_fields rev owner c fs ++ trees_rebuilt rest
  fields_rebuilt rev owner n c no_fields rest form h none = refl
  fields_rebuilt rev owner n c (field key row items more) rest form h none =
      let parts = and-true (all_have_form items) (fields_have_form more) form in
      let k = n + item_count items in
      let d = c + item_cells row items in
      let later = fields_rebuilt rev owner k d more rest parts.1 (omega arith) (NoneFrom-later rev n k (trees_rebuilt rest) (omega arith) none) in
      let still = subst (NoneFrom rev n) (sym later) (NoneFrom-fields rev owner n d more (trees_rebuilt rest) h none) in
      ap trees_rebuilt (append_assoc (items_listed rev owner key row n c items) (fields_listed rev owner k d more) rest)
      ∙ items_rebuilt rev owner key row n c items (fields_listed rev owner k d more ++ rest) parts.0 h still
      ∙ ap (λ ws. placed_items rev owner key row c items ++ ws) later
      ∙ sym (append_assoc (placed_items rev owner key row c items) (placed_fields rev owner d more) (trees_rebuilt rest))

  items_rebuilt : (rev : Rev) (owner : ℕ) (key : List ℕ) (row : Bool) (n c : ℕ) (ts : Nodes) (rest : List FlatNode) → all_have_form ts ≡ true → owner < n → NoneFrom rev n (trees_rebuilt rest)
      → trees_rebuilt (items_listed rev owner key row n c ts ++ rest) ≡ placed_items rev owner key row c ts ++ trees_rebuilt rest
  items_rebuilt rev owner key row n c no_nodes rest form h none = refl
  items_rebuilt rev owner key row n c (first t ts) rest form h none =
      let parts = and-true (has_form t) (all_have_form ts) form in
      let k = n + node_count t in
      let d = c + (cells_taken row + cell_count t) in
      let later = items_rebuilt rev owner key row k d ts rest parts.1 (omega arith) (NoneFrom-later rev n k (trees_rebuilt rest) (omega arith) none) in
      let still = subst (NoneFrom rev n) (sym later) (NoneFrom-items rev owner n key row d ts (trees_rebuilt rest) h none) in
      ap trees_rebuilt (append_assoc (tree_listed rev (at_of rev owner key row c) n (c + cells_taken row) t) (items_listed rev owner key row k d ts) rest)
      ∙ tree_rebuilt rev (at_of rev owner key row c) n (c + cells_taken row) t (items_listed rev owner key row k d ts ++ rest) parts.0 still
      ∙ ap (λ ws. (at_of rev owner key row c, t) ∷ ws) later

tops_rebuilt : (rev : Rev) (n c : ℕ) (ts : Nodes) → all_have_form ts ≡ true → trees_rebuilt (tops_listed rev n c ts) ≡ placed_tops rev c ts
tops_rebuilt rev n c no_nodes form = refl
tops_rebuilt rev n c (first t ts) form =
    let parts = and-true _ _ form in
    let k = n + node_count t in
    let d = c + (1 + cell_count t) in
    let later = tops_rebuilt rev k d ts parts.1 in
    tree_rebuilt rev (Top (cell_named rev c)) n (c + 1) t (tops_listed rev k d ts) parts.0 (subst (NoneFrom rev n) (sym later) (NoneFrom-tops rev n d ts))
    ∙ ap (λ ws. (Top (cell_named rev c), t) ∷ ws) later

tops_placed : (rev : Rev) (c : ℕ) (ts : Nodes) → nodes_of (map (λ w. w.1) (placed_tops rev c ts)) ≡ ts
tops_placed rev c no_nodes = refl
tops_placed rev c (first t ts) = ap (first t) (tops_placed rev (c + (1 + cell_count t)) ts)

pub tops_back : (ts us : List Tree) (rev : Rev) (n c : ℕ) → all_have_form (trees_view us) ≡ true → map view ts ≡ map (λ w. w.1) (trees_rebuilt (tops_listed rev n c (trees_view us))) → ts ≡ us
tops_back ts us rev n c form e = same_trees ts us (ap nodes_of (e ∙ ap (λ ws. map (λ (w : Waiting). w.1) ws) (tops_rebuilt rev n c (trees_view us) form)) ∙ tops_placed rev c (trees_view us))

opening_rebuilt : (t : Node) → has_form t ≡ true → trees_rebuilt (opening_listed t) ≡ (Root, t) ∷ []
opening_rebuilt t form = let rev : Rev = record { session = 0; num = 0 } in ap trees_rebuilt (sym (append-nil (tree_listed rev Root 0 0 t))) ∙ tree_rebuilt rev Root 0 0 t [] form (λ m later. refl)

pub opening_back : (ts : List Tree) (u : Tree) → has_form (view u) ≡ true → map view ts ≡ map (λ w. w.1) (trees_rebuilt (opening_listed (view u))) → ts ≡ u ∷ []
opening_back ts u form e = same_trees ts (u ∷ []) (ap nodes_of (e ∙ ap (λ ws. map (λ (w : Waiting). w.1) ws) (opening_rebuilt (view u) form)))
