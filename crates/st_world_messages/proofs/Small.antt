-- How many names an edit, a transaction and a way back make: at most 2,048.
use Rattle.std.proofs.Common.{◌≡◌, ◌≢◌, ◌≤◌, ◌<◌, ◌+◌, ℕ, zero, suc, true, List, [], ◌∷◌, length, map, Option, Some, None, IsSome, is_some, Ok, refl, sym, ap, ◌∙◌, subst, arith, nat_lt, Bool, false, cond, ◌⊎◌, inl, inr}
use Rattle.std.specs.List.{find}
use Rattle.std.specs.Option.{option_or}
use Rattle.std.specs.Prelude.{option_map}
use Rattle.std.proofs.lemmas.Bool.Decides.{nat_tests}
use Rattle.std.proofs.lemmas.List.{length-map}
use Rattle.st_ids.specs.Listing.{AreDistinct, Has}
use Rattle.st_ids.specs.Order.{same_node}
use Rattle.st_ids.proofs.Orders.{same_node-itself}
use Rattle.st_ids.specs.declared.names.NodeId.{NodeId}
use Rattle.st_ids.specs.declared.names.Rev.{Rev}
use Rattle.st_tree.specs.Node.{nodes_of}
use Rattle.st_tree.specs.Preorder.{cell_named, node_named}
use Rattle.st_schema.specs.Schema.{SchemaView}
use Rattle.st_marks.specs.declared.changes.NewNode.{NewNode}
use Rattle.st_marks.specs.declared.intents.Group.{Group}
use Rattle.st_marks.specs.declared.intents.Intent.{Intent}
use Rattle.st_marks.specs.declared.intents.Owned.{Owned}
use Rattle.st_marks.specs.Back.{IsBack}
use Rattle.st_marks.specs.CarryOut.{full}
use Rattle.st_marks.specs.Document.{Document, NodeType}
use Rattle.st_marks.specs.Intent.{IsIntent, group_cells, is_new, new_row_of, new_type}
use Rattle.st_marks.proofs.Contained.{no_longer}
use Rattle.st_marks.proofs.Lookups.{made_there}
use Rattle.st_marks.proofs.Members.{all-has, has-all, has-map}
use Rattle.st_edits.specs.Given.{IsCountedFrom}
use Rattle.st_edits.specs.declared.names.NameCounters.{NameCounters}
use Rattle.st_edits.proofs.Given.{clear_counted, insert_counted, move_counted, put_counted, remove_counted}
use Rattle.st_lists.specs.Names.{names_made}
use Rattle.st_lists.specs.declared.lists.Entry.{Entry}
use Rattle.st_lists.specs.declared.lists.Client.{Client}
use Rattle.st_lists.specs.declared.lists.Transaction.{Transaction}
use Rattle.st_lists.specs.Lines.{Line}
use Rattle.st_lists.specs.Open.{FitsSoFar, with_open}
use Rattle.st_script.specs.Header.{HeaderView}
use Rattle.st_script.specs.Steps.{EditView}
use Rattle.st_script.specs.Steps as step
use Rattle.st_world.specs.World.{cells_given, intent_of, word_of}
use Rattle.st_world.specs.declared.edit_word.EditWord.{EditWord}
use Rattle.st_world_laws.specs.Worlds.{IsTransaction}

-- ## An edit

edit_counted : (D : Document) (s : SchemaView) (G : NameCounters) (e : EditView) (N : Intent) → intent_of D s G e ≡ Ok N → IsCountedFrom G (length N.new) (cells_given (word_of e) N) N
edit_counted D s G (step.insert at key index items) N e = insert_counted D s G at key index (nodes_of items) N e
edit_counted D s G (step.remove at key index count) N e = remove_counted D s G at key index count N e
edit_counted D s G (step.move at key index count to to_key to_index) N e = move_counted D s G at key index count to to_key to_index N e
edit_counted D s G (step.set at key item) N e = put_counted D s G at key item N e
edit_counted D s G (step.clear at key) N e = clear_counted D s G at key N e

cells_low : (word : EditWord) (M : Intent) → length (group_cells M) ≤ cells_given word M
cells_low EditWord.Insert M = omega arith
cells_low EditWord.Remove M = omega arith
cells_low EditWord.Move M = omega arith
cells_low EditWord.Set M = omega arith
cells_low EditWord.Clear M = omega arith
cells_low EditWord.Need M = omega arith

pub edit_small : (D : Document) (s : SchemaView) (G : NameCounters) (e : EditView) (N : Intent) → G.nodes + G.cells ≤ 2048 → intent_of D s G e ≡ Ok N → names_made N ≤ 2048
edit_small D s G e N low is =
    let room = (edit_counted D s G e N is).room low in
    omega (arith, room, cells_low (word_of e) N)

-- ## A way back

pub back_small : {D E : Document} {rev under : Rev} (B : Intent) → IsBack D E rev under B → names_made B ≤ 2048
back_small B is = go B.new B.groups is.nothing_new.0 is.nothing_new.1
  where
    go : (new : List NewNode) (groups : List Group) → new ≡ [] → groups ≡ [] → length new + length (group_cells (record B { groups = groups })) ≤ 2048
    go new groups p q =
        let nodes : length new ≡ 0 = ap (λ (l : List NewNode). length l) p in
        let cells : length (group_cells (record B { groups = groups })) ≡ 0 = ap (λ (l : List Group). length (group_cells (record B { groups = l }))) q in
        omega (arith, nodes, cells)

-- ## Names that are numbered below a number are no more than it

abbrev below : ℕ → List ℕ
below zero = []
below (suc n) = n ∷ below n

below_size : (n : ℕ) → length (below n) ≡ n
below_size zero = refl
below_size (suc n) = ap (λ k. suc k) (below_size n)

below_has : (n k : ℕ) → k < n → Has (below n) k
below_has zero k low = absurd (omega (arith, low))
below_has (suc n) k low = go (nat_lt k n) refl (below_has n k)
  where
    go : (b : Bool) → nat_lt k n ≡ b → (k < n → Has (below n) k) → (n ≡ k) ⊎ Has (below n) k
    go true e rest = inr (rest (grind (arith, nat_tests)))
    go false e rest = let same : n ≡ k = grind (arith, nat_tests, low) in inl same

numbers_apart : {X K : Type 0} (key : X → K) (num : X → ℕ) (xs : List X) → AreDistinct key xs → ((x y : X) → Has xs x → Has xs y → num x ≡ num y → key x ≡ key y) → AreDistinct (λ (k : ℕ). k) (map num xs)
numbers_apart key num [] d same = tt
numbers_apart key num (x ∷ xs) d same = (
  has-all (λ (k : ℕ). k ≢ num x) (map num xs) (λ k i e. let y = has-map num xs k i in all-has (λ z. key z ≢ key x) xs y.0 d.0 y.1 (same y.0 x (inr y.1) (inl refl) (y.2 ∙ e))),
  numbers_apart key num xs d.1 (λ y z i j. same y z (inr i) (inr j)),
)

few_numbered : {X K : Type 0} (key : X → K) (num : X → ℕ) (xs : List X) (n : ℕ) → AreDistinct key xs → ((x y : X) → Has xs x → Has xs y → num x ≡ num y → key x ≡ key y) → ((x : X) → Has xs x → num x < n) → length xs ≤ n
few_numbered key num xs n d same low =
    let few = no_longer (λ (k : ℕ). k) (map num xs) (below n) (numbers_apart key num xs d same) (λ k i. let y = has-map num xs k i in subst (Has (below n)) y.2 (below_has n (num y.0) (low y.0 y.1))) in
    omega (arith, few, below_size n, length-map xs num)

-- ## A transaction

-- a node that is listed as new is new
found : (p : NewNode → Bool) (xs : List NewNode) (m : NewNode) → Has xs m → p m ≡ true → is_some (find p xs) ≡ true
found p [] m i h = absurd i
found p (x ∷ xs) m i h = go (p x) refl (λ j. found p xs m j h) i
  where
    go : (b : Bool) → p x ≡ b → (Has xs m → is_some (find p xs) ≡ true) → (x ≡ m) ⊎ Has xs m → is_some (cond b (Some x) (find p xs)) ≡ true
    go true e rest j = refl
    go false e rest (inl same) = let bad : true ≡ false = sym h ∙ ap p (sym same) ∙ e in cc
    go false e rest (inr j) = rest j

abbrev typed : NewNode → NodeType
typed x = record { ty = x.ty; leaf = x.leaf }

listed_new : (N : Intent) (m : NewNode) → Has N.new m → is_new N m.node ≡ true
listed_new N m i = there (find (λ (x : NewNode). same_node x.node m.node) N.new) (found (λ (x : NewNode). same_node x.node m.node) N.new m i (same_node-itself m.node))
  where
    there : (o : Option NewNode) → is_some o ≡ true → is_some (option_map typed o) ≡ true
    there None e = cc
    there (Some x) e = refl

-- what is new is there
there_new : (o : Option NodeType) (p : Option NodeType) → is_some p ≡ true → option_or o p ≡ None → ⊥
there_new None None is e = cc
there_new None (Some t) is e = cc
there_new (Some t) p is e = cc

there_made : (o p : Option NodeId) → IsSome p → option_or o p ≡ None → ⊥
there_made None None is e = cc
there_made None (Some t) is e = cc
there_made (Some t) p is e = cc

module _ (D : Document) (J : Intent) (r : Rev) (nodes cells : ℕ) (k : IsIntent J) (rev : J.rev ≡ r) (no_node : (j : ℕ) → nodes ≤ j → (full D J).nodes (node_named r j) ≡ None) (no_cell : (j : ℕ) → cells ≤ j → (full D J).row_of (cell_named r j) ≡ None) where
  node_low : (m : NewNode) → Has J.new m → m.node.0.at < nodes
  node_low m i = go (nat_lt m.node.0.at nodes) refl
    where
      is : m.node.0.rev ≡ r
      is = all-has (λ (x : NewNode). x.node.0.rev ≡ J.rev) J.new m k.new_rev i ∙ rev

      named : m.node ≡ node_named r m.node.0.at
      named = λ j. record { 0 = record { rev = is j; at = m.node.0.at } }

      go : (b : Bool) → nat_lt m.node.0.at nodes ≡ b → m.node.0.at < nodes
      go true e = grind (arith, nat_tests)
      go false e =
          let past : nodes ≤ m.node.0.at = grind (arith, nat_tests) in
          let none : (full D J).nodes m.node ≡ None = ap (full D J).nodes named ∙ no_node m.node.0.at past in
          absurd (there_new (D.nodes m.node) (new_type J m.node) (listed_new J m i) none)

  cell_low : (o : Owned) → Has (group_cells J) o → o.cell.0.at < cells
  cell_low o i = go (nat_lt o.cell.0.at cells) refl
    where
      is : o.cell.0.rev ≡ r
      is = all-has (λ (x : Owned). x.cell.0.rev ≡ J.rev) (group_cells J) o k.cell_rev i ∙ rev

      named : o.cell ≡ cell_named r o.cell.0.at
      named = λ j. record { 0 = record { rev = is j; at = o.cell.0.at } }

      go : (b : Bool) → nat_lt o.cell.0.at cells ≡ b → o.cell.0.at < cells
      go true e = grind (arith, nat_tests)
      go false e =
          let past : cells ≤ o.cell.0.at = grind (arith, nat_tests) in
          let none : (full D J).row_of o.cell ≡ None = ap (full D J).row_of named ∙ no_cell o.cell.0.at past in
          absurd (there_made (D.row_of o.cell) (new_row_of J o.cell) (made_there J o i) none)

  same_node_of : (x y : NewNode) → Has J.new x → Has J.new y → x.node.0.at ≡ y.node.0.at → x.node ≡ y.node
  same_node_of x y i j e =
      let p = all-has (λ (z : NewNode). z.node.0.rev ≡ J.rev) J.new x k.new_rev i in
      let q = all-has (λ (z : NewNode). z.node.0.rev ≡ J.rev) J.new y k.new_rev j in
      let rev = p ∙ sym q in
      λ t. record { 0 = record { rev = rev t; at = e t } }

  same_cell_of : (x y : Owned) → Has (group_cells J) x → Has (group_cells J) y → x.cell.0.at ≡ y.cell.0.at → x.cell ≡ y.cell
  same_cell_of x y i j e =
      let p = all-has (λ (z : Owned). z.cell.0.rev ≡ J.rev) (group_cells J) x k.cell_rev i in
      let q = all-has (λ (z : Owned). z.cell.0.rev ≡ J.rev) (group_cells J) y k.cell_rev j in
      let rev = p ∙ sym q in
      λ t. record { 0 = record { rev = rev t; at = e t } }

  few_names : names_made J ≤ nodes + cells
  few_names =
      let ns = few_numbered (λ (m : NewNode). m.node) (λ (m : NewNode). m.node.0.at) J.new nodes k.new_once same_node_of node_low in
      let cs = few_numbered (λ (o : Owned). o.cell) (λ (o : Owned). o.cell.0.at) (group_cells J) cells k.cell_once same_cell_of cell_low in
      omega (arith, ns, cs)

pub edited_small : (h : HeaderView) (log : List Entry) (l : Line) (c : Client) (t : Transaction) (J : Intent) → IsTransaction h log l c t → t.joined ≡ Some J → names_made J ≤ 2048
edited_small h log l c t J x is =
    let so : FitsSoFar x.before t.rev t.under (Some J) = subst (FitsSoFar x.before t.rev t.under) is x.so_far in
    let shows : with_open x.before t.joined ≡ full x.before J = ap (with_open x.before) is in
    let few = few_names x.before J t.rev t.nodes t.cells so.0.itself so.1 (λ j past. subst (λ (E : Document). E.nodes (node_named t.rev j) ≡ None) shows (x.nodes j past)) (λ j past. subst (λ (E : Document). E.row_of (cell_named t.rev j) ≡ None) shows (x.cells j past)) in
    omega (arith, few, x.counted)
