-- The opening document of a tree of the form is sound in form.
use Rattle.std.proofs.Common.{◌≡◌, ◌≢◌, ℕ, zero, suc, ◌+◌, ◌<◌, ◌≤◌, ◌^◌, Bool, true, false, cond, List, [], ◌∷◌, ◌++◌, length, Option, Some, None, IsSome, is_some, option_and_then, unwrap_or, refl, sym, ap, ◌∙◌, subst, arith, ◌⊎◌, inl, inr, nat_lt, Result, Ok, Err}
use Rattle.std.specs.List.{filter_map, cons_option}
use Rattle.std.specs.Option.{option_or}
use Rattle.std.proofs.lemmas.Bool.{cases_lt}
use Rattle.std.proofs.lemmas.Bool.Decides.{nat_tests}
use Rattle.st_ids.specs.Listing.{AreDistinct, Has}
use Rattle.st_ids.specs.Order.{same_node, same_cell, same_field}
use Rattle.st_ids.specs.declared.names.CellId.{CellId}
use Rattle.st_ids.specs.declared.names.FieldId.{FieldId}
use Rattle.st_ids.specs.declared.names.NodeId.{NodeId}
use Rattle.st_ids.specs.declared.names.Rev.{Rev}
use Rattle.st_ids.proofs.Orders.{same_node-true, same_node-itself, same_cell-true, same_cell-itself, same_field-true, same_field-itself}
use Rattle.st_marks.specs.declared.intents.Owned.{Owned}
use Rattle.st_marks.specs.declared.places.Spot.{Spot}
use Rattle.st_marks.specs.Document.{IsSoundInForm, ClimbsToAnEnd, above, climb, node_of, owned_cell}
use Rattle.st_ids.specs.Root.{root, opening}
use Rattle.st_marks.proofs.Members.{has-all, has-filter_map, distinct-filter_map}
use Rattle.st_tree.specs.declared.flat.FlatAt.{FlatAt}
use Rattle.st_tree.specs.declared.flat.FlatNode.{FlatNode}
use Rattle.st_tree.specs.Node.{Node, node, Fields, no_fields, field, Nodes, no_nodes, first}
use Rattle.st_tree.specs.Size.{node_count, field_count, item_count, height, check_of}
use Rattle.st_tree.specs.declared.limits.TreeFault.{TreeFault}
use Rattle.st_tree.specs.declared.limits.TreeFault.TheVariants.{TooDeep, TooMany}
use Rattle.st_tree.specs.Form.{has_form}
use Rattle.st_tree.specs.Preorder.{node_named, cell_named, cells_taken, cell_count, item_cells, is_array, at_of, tree_listed, fields_listed, items_listed, opening_listed}
use Rattle.st_opening.specs.Start.{first_said, type_at, spot_at, place_at, row_at, cell_at, held_at, start_of, registers, register_at}
use Rattle.st_opening.proofs.PreorderNames.{tree_regs, fields_under, row_regs, same_number, taken, cells_used, taken_at, listed_length, items_length, listed_cells, items_cells}
use Rattle.st_lemmas.proofs.Lists.{filter_map-length}
use Rattle.st_ids.proofs.Shared.{filter-from}
use Rattle.st_lemmas.proofs.Bools.{and-true}

-- ## Lists

module _ {A B : Type 0} (say : A → Option B) where
  -- what is said, an item says
  pub said-has : (xs : List A) (b : B) → first_said say xs ≡ Some b → (x : A) × Has xs x × (say x ≡ Some b)
  said-has [] b e = cc
  said-has (x ∷ xs) b e = go (say x) refl (λ f. said-has xs b f) e
    where
      go : (o : Option B) → say x ≡ o → (first_said say xs ≡ Some b → (z : A) × Has xs z × (say z ≡ Some b)) → option_or o (first_said say xs) ≡ Some b → (z : A) × Has (x ∷ xs) z × (say z ≡ Some b)
      go None q rest f = let z = rest f in (z.0, inr z.1, z.2)
      go (Some w) q rest f = (x, inl refl, q ∙ f)

  -- where an item says something, something is said
  pub said_some : (xs : List A) (x : A) (b : B) → Has xs x → say x ≡ Some b → IsSome (first_said say xs)
  said_some [] x b h e = absurd h
  said_some (y ∷ xs) x b h e = go (say y) refl (λ k. said_some xs x b k e) h
    where
      go : (o : Option B) → say y ≡ o → (Has xs x → IsSome (first_said say xs)) → (y ≡ x) ⊎ Has xs x → IsSome (option_or o (first_said say xs))
      go (Some w) q rest k = refl
      go None q rest (inl s) = let bad : None ≡ Some b = sym q ∙ ap say s ∙ e in cc
      go None q rest (inr k) = rest k

  -- what one item says is said, if no other says something else
  has-said : (xs : List A) (x : A) (b : B) → Has xs x → say x ≡ Some b → ((y : A) (d : B) → Has xs y → say y ≡ Some d → d ≡ b) → first_said say xs ≡ Some b
  has-said xs x b h e one = go (first_said say xs) refl
    where
      go : (o : Option B) → first_said say xs ≡ o → first_said say xs ≡ Some b
      go None q = let there : is_some (first_said say xs) ≡ true = said_some xs x b h e in let bad : is_some {T = B} None ≡ true = sym (ap is_some q) ∙ there in cc
      go (Some d) q = let z = said-has xs d q in q ∙ ap (λ a. Some a) (one z.0 d z.1 z.2)

-- ## Names that are counted up

-- a place of the node of the number n, where c is the next cell's number: in the row or register of an earlier node
abbrev IsAt : Rev → ℕ → ℕ → FlatAt → Type 0
IsAt rev n c FlatAt.Root = Unit {0}
IsAt rev n c (FlatAt.Top d) = ⊥
IsAt rev n c (FlatAt.Row r d) = (d ≡ cell_named rev c) × ((k : ℕ) × (k < n) × (r ≡ node_named rev k))
IsAt rev n c (FlatAt.Register f) = (k : ℕ) × (k < n) × (f.node ≡ node_named rev k)

-- nodes from the number n on, and cells from the number c on
abbrev Counted : Rev → List FlatNode → ℕ → ℕ → Type 0
Counted rev [] n c = Unit {0}
Counted rev (x ∷ xs) n c = (x.node ≡ node_named rev n) × IsAt rev n c x.at × Counted rev xs (n + 1) (c + taken x.at)

counted_at : (rev : Rev) (xs : List FlatNode) (n m c d : ℕ) → n ≡ m → c ≡ d → Counted rev xs n c → Counted rev xs m d
counted_at rev xs n m c d p q h = subst (λ a. Counted rev xs a d) p (subst (λ b. Counted rev xs n b) q h)

counted_append : (rev : Rev) (xs ys : List FlatNode) (n c : ℕ) → Counted rev xs n c → Counted rev ys (n + length xs) (c + cells_used xs) → Counted rev (xs ++ ys) n c
counted_append rev [] ys n c h g = counted_at rev ys (n + 0) n (c + 0) c (omega arith) (omega arith) g
counted_append rev (x ∷ xs) ys n c h g = (
  h.0,
  h.1,
  counted_append rev xs ys (n + 1) (c + taken x.at) h.2
      (counted_at rev ys (n + suc (length xs)) (n + 1 + length xs) (c + (taken x.at + cells_used xs)) (c + taken x.at + cells_used xs) (omega arith) (omega arith) g),
)

at_is : (rev : Rev) (owner n c : ℕ) (key : List ℕ) (row : Bool) → owner < n → IsAt rev n c (at_of rev owner key row c)
at_is rev owner n c key true less = (refl, (owner, less, refl))
at_is rev owner n c key false less = (owner, less, refl)

mutual
  tree_counted : (rev : Rev) (at : FlatAt) (n c d : ℕ) (t : Node) → d ≡ c + taken at → IsAt rev n c at → Counted rev (tree_listed rev at n d t) n c
  tree_counted rev at n c d (node ty leaf fields) e is =
      (refl, is, counted_at rev (fields_listed rev n (n + 1) d fields) (n + 1) (n + 1) d (c + taken at) refl e (fields_counted rev n (n + 1) d fields (omega arith)))

  fields_counted : (rev : Rev) (owner n c : ℕ) (fs : Fields) → owner < n → Counted rev (fields_listed rev owner n c fs) n c
  fields_counted rev owner n c no_fields less = tt
  fields_counted rev owner n c (field key row items rest) less =
      let m = n + item_count items in
      let d = c + item_cells row items in
      counted_append rev (items_listed rev owner key row n c items) (fields_listed rev owner m d rest) n c (items_counted rev owner key row n c items less)
      (counted_at rev (fields_listed rev owner m d rest) m _ d _ (ap (λ k. n + k) (sym (items_length rev owner key row n c items))) (ap (λ k. c + k) (sym (items_cells rev owner key row n c items)))
      (fields_counted rev owner m d rest (omega arith)))

  items_counted : (rev : Rev) (owner : ℕ) (key : List ℕ) (row : Bool) (n c : ℕ) (ts : Nodes) → owner < n → Counted rev (items_listed rev owner key row n c ts) n c
  items_counted rev owner key row n c no_nodes less = tt
  items_counted rev owner key row n c (first t ts) less =
      let at = at_of rev owner key row c in
      let one = tree_listed rev at n (c + cells_taken row) t in
      let m = n + node_count t in
      let d = c + (cells_taken row + cell_count t) in
      counted_append rev one (items_listed rev owner key row m d ts) n c
      (tree_counted rev at n c (c + cells_taken row) t (ap (λ k. c + k) (sym (taken_at rev owner key row c))) (at_is rev owner n c key row less))
      (counted_at rev (items_listed rev owner key row m d ts) m _ d _ (ap (λ k. n + k) (sym (listed_length rev at n (c + cells_taken row) t)))
      (ap (λ k. c + k) (sym (listed_cells rev at n (c + cells_taken row) t ∙ ap (λ k. k + cell_count t) (taken_at rev owner key row c))))
      (items_counted rev owner key row m d ts (omega arith)))

-- ## What follows for the nodes of such a list

-- the number of a node, and its place
pub record IsNumbered (rev : Rev) (xs : List FlatNode) (n c : ℕ) (x : FlatNode) : Type 0 where
  pub number : ℕ
  pub cell : ℕ
  pub low : n ≤ number
  pub high : number < n + length xs
  pub cell_low : c ≤ cell
  pub named : x.node ≡ node_named rev number
  pub at : IsAt rev number cell x.at

numbered : (rev : Rev) (xs : List FlatNode) (n c : ℕ) (x : FlatNode) → Counted rev xs n c → Has xs x → IsNumbered rev xs n c x
numbered rev [] n c x h k = absurd k
numbered rev (y ∷ xs) n c x h (inl e) = record {
  number = n;
  cell = c;
  low = omega arith;
  high = omega arith;
  cell_low = omega arith;
  named = ap (λ (z : FlatNode). z.node) (sym e) ∙ h.0;
  at = subst (λ (z : FlatNode). IsAt rev n c z.at) e h.1;
}
numbered rev (y ∷ xs) n c x h (inr k) =
    let r = numbered rev xs (n + 1) (c + taken y.at) x h.2 k in
    let low : n + 1 ≤ r.number = r.low in
    let high : r.number < n + 1 + length xs = r.high in
    let cell_low : c + taken y.at ≤ r.cell = r.cell_low in
    record { number = r.number; cell = r.cell; low = omega arith; high = omega arith; cell_low = omega arith; named = r.named; at = r.at }

pub same_cell_number : (rev : Rev) (j k : ℕ) → cell_named rev j ≡ cell_named rev k → j ≡ k
same_cell_number rev j k e = ap (λ (n : CellId). n.0.at) e

-- each number is some node's
there_is : (rev : Rev) (xs : List FlatNode) (n c k : ℕ) → Counted rev xs n c → n ≤ k → k < n + length xs → (x : FlatNode) × Has xs x × (x.node ≡ node_named rev k)
there_is rev [] n c k h low high = absurd (omega arith)
there_is rev (y ∷ xs) n c k h low high = elim (cases_lt n k) [
  | inl less ↦ (let r = there_is rev xs (n + 1) (c + taken y.at) k h.2 (omega arith) (omega arith) in (r.0, inr r.1, r.2))
  | inr past ↦ (let e : n ≡ k = omega arith in (y, inl refl, h.0 ∙ ap (node_named rev) e))
]

-- one node of each name
one_named : (rev : Rev) (xs : List FlatNode) (n c : ℕ) (x y : FlatNode) → Counted rev xs n c → Has xs x → Has xs y → x.node ≡ y.node → x ≡ y
one_named rev [] n c x y h p q e = absurd p
one_named rev (z ∷ xs) n c x y h (inl p) (inl q) e = sym p ∙ q
one_named rev (z ∷ xs) n c x y h (inl p) (inr q) e =
    let r = numbered rev xs (n + 1) (c + taken z.at) y h.2 q in
    let same : n ≡ r.number = same_number rev n r.number (sym h.0 ∙ ap (λ (w : FlatNode). w.node) p ∙ e ∙ r.named) in
    let low : n + 1 ≤ r.number = r.low in
    absurd (omega arith)
one_named rev (z ∷ xs) n c x y h (inr p) (inl q) e =
    let r = numbered rev xs (n + 1) (c + taken z.at) x h.2 p in
    let same : n ≡ r.number = same_number rev n r.number (sym h.0 ∙ ap (λ (w : FlatNode). w.node) q ∙ sym e ∙ r.named) in
    let low : n + 1 ≤ r.number = r.low in
    absurd (omega arith)
one_named rev (z ∷ xs) n c x y h (inr p) (inr q) e = one_named rev xs (n + 1) (c + taken z.at) x y h.2 p q e

-- the cell of a node in a row
row_cell : (rev : Rev) (n c : ℕ) (r : NodeId) (d : CellId) (at : FlatAt) → IsAt rev n c at → at ≡ FlatAt.Row r d → (d ≡ cell_named rev c) × ((k : ℕ) × (k < n) × (r ≡ node_named rev k))
row_cell rev n c r d at is e = subst (IsAt rev n c) e is

took_one : (r : NodeId) (d : CellId) (at : FlatAt) → at ≡ FlatAt.Row r d → taken at ≡ 1
took_one r d at e = ap taken e

-- one node in each cell
one_in_cell : (rev : Rev) (xs : List FlatNode) (n c : ℕ) (x y : FlatNode) (r s : NodeId) (d : CellId) → Counted rev xs n c → Has xs x → Has xs y → x.at ≡ FlatAt.Row r d → y.at ≡ FlatAt.Row s d → x ≡ y
one_in_cell rev [] n c x y r s d h p q e f = absurd p
one_in_cell rev (z ∷ xs) n c x y r s d h (inl p) (inl q) e f = sym p ∙ q
one_in_cell rev (z ∷ xs) n c x y r s d h (inl p) (inr q) e f =
    let w = numbered rev xs (n + 1) (c + taken z.at) y h.2 q in
    let at_z = ap (λ (v : FlatNode). v.at) p ∙ e in
    let here = (row_cell rev n c r d z.at h.1 at_z).0 in
    let there = (row_cell rev w.number w.cell s d y.at w.at f).0 in
    let same : c ≡ w.cell = same_cell_number rev c w.cell (sym here ∙ there) in
    let one : taken z.at ≡ 1 = took_one r d z.at at_z in
    let low : c + taken z.at ≤ w.cell = w.cell_low in
    absurd (omega arith)
one_in_cell rev (z ∷ xs) n c x y r s d h (inr p) (inl q) e f =
    let w = numbered rev xs (n + 1) (c + taken z.at) x h.2 p in
    let at_z = ap (λ (v : FlatNode). v.at) q ∙ f in
    let here = (row_cell rev n c s d z.at h.1 at_z).0 in
    let there = (row_cell rev w.number w.cell r d x.at w.at e).0 in
    let same : c ≡ w.cell = same_cell_number rev c w.cell (sym here ∙ there) in
    let one : taken z.at ≡ 1 = took_one s d z.at at_z in
    let low : c + taken z.at ≤ w.cell = w.cell_low in
    absurd (omega arith)
one_in_cell rev (z ∷ xs) n c x y r s d h (inr p) (inr q) e f = one_in_cell rev xs (n + 1) (c + taken z.at) x y r s d h.2 p q e f

-- ## What the document says of the list

pub place_of : (n : NodeId) (x : FlatNode) (s : Spot) → place_at n x ≡ Some s → (x.node ≡ n) × (spot_at x.at ≡ s)
place_of n x s e = go (same_node x.node n) refl e
  where
    go : (b : Bool) → same_node x.node n ≡ b → cond b (Some (spot_at x.at)) None ≡ Some s → (x.node ≡ n) × (spot_at x.at ≡ s)
    go true p e = (same_node-true x.node n p, cc)
    go false p e = cc

row_of_at : (c : CellId) (n : NodeId) (at : FlatAt) → row_at c at ≡ Some n → at ≡ FlatAt.Row n c
row_of_at c n FlatAt.Root e = cc
row_of_at c n (FlatAt.Top d) e = cc
row_of_at c n (FlatAt.Register f) e = cc
row_of_at c n (FlatAt.Row r d) e = go (same_cell d c) refl e
  where
    go : (b : Bool) → same_cell d c ≡ b → cond b (Some r) None ≡ Some n → FlatAt.Row r d ≡ FlatAt.Row n c
    go true p e = let q : r ≡ n = cc in λ i. FlatAt.Row (q i) (same_cell-true d c p i)
    go false p e = cc

row_at_itself : (c : CellId) (n : NodeId) → row_at c (FlatAt.Row n c) ≡ Some n
row_at_itself c n = ap (λ b. cond b (Some n) None) (same_cell-itself c)

cell_of_at : (n m : NodeId) (o : Owned) (at : FlatAt) → cell_at n m at ≡ Some o → (at ≡ FlatAt.Row n o.cell) × (o.node ≡ m)
cell_of_at n m o FlatAt.Root e = cc
cell_of_at n m o (FlatAt.Top d) e = cc
cell_of_at n m o (FlatAt.Register f) e = cc
cell_of_at n m o (FlatAt.Row r d) e = go (same_node r n) refl e
  where
    go : (b : Bool) → same_node r n ≡ b → cond b (Some (owned_cell d m)) None ≡ Some o → (FlatAt.Row r d ≡ FlatAt.Row n o.cell) × (o.node ≡ m)
    go true p e = let q : owned_cell d m ≡ o = cc in ((λ i. FlatAt.Row (same_node-true r n p i) (q i).cell), ap (λ (o : Owned). o.node) (sym q))
    go false p e = cc

cell_at_itself : (n m : NodeId) (c : CellId) → cell_at n m (FlatAt.Row n c) ≡ Some (owned_cell c m)
cell_at_itself n m c = ap (λ b. cond b (Some (owned_cell c m)) None) (same_node-itself n)

held_of_at : (f : FieldId) (n m : NodeId) (at : FlatAt) → held_at f m at ≡ Some n → (at ≡ FlatAt.Register f) × (m ≡ n)
held_of_at f n m FlatAt.Root e = cc
held_of_at f n m (FlatAt.Top d) e = cc
held_of_at f n m (FlatAt.Row r c) e = cc
held_of_at f n m (FlatAt.Register g) e = go (same_field g f) refl e
  where
    go : (b : Bool) → same_field g f ≡ b → cond b (Some m) None ≡ Some n → (FlatAt.Register g ≡ FlatAt.Register f) × (m ≡ n)
    go true p e = (ap (λ h. FlatAt.Register h) (same_field-true g f p), cc)
    go false p e = cc

held_at_itself : (f : FieldId) (m : NodeId) → held_at f m (FlatAt.Register f) ≡ Some m
held_at_itself f m = ap (λ b. cond b (Some m) None) (same_field-itself f)

at_row : (at : FlatAt) (n : NodeId) (c : CellId) → spot_at at ≡ Spot.Row n c → at ≡ FlatAt.Row n c
at_row FlatAt.Root n c e = cc
at_row (FlatAt.Top d) n c e = cc
at_row (FlatAt.Register f) n c e = cc
at_row (FlatAt.Row r d) n c e = let p : r ≡ n = cc in let q : d ≡ c = cc in λ i. FlatAt.Row (p i) (q i)

pub at_register : (at : FlatAt) (f : FieldId) → spot_at at ≡ Spot.Register f → at ≡ FlatAt.Register f
at_register FlatAt.Root f e = cc
at_register (FlatAt.Top d) f e = cc
at_register (FlatAt.Row r d) f e = cc
at_register (FlatAt.Register g) f e = let p : g ≡ f = cc in ap (λ h. FlatAt.Register h) p

-- ## Sound in form

-- what the list of an opening tree is
pub record IsOpening (xs : List FlatNode) : Type 0 where
  pub counted : Counted opening xs 0 0
  pub once : AreDistinct (λ (f : FieldId). f) (registers xs)
  pub keys : (f : FieldId) → Has (registers xs) f → f.key.0 ≢ []
  pub top : (x : FlatNode) × Has xs x × (x.node ≡ root) × (x.at ≡ FlatAt.Root)
  pub few : length xs < 2 ^ 32

is_opening : (t : Node) → has_form t ≡ true → node_count t < 2 ^ 32 → IsOpening (opening_listed t)
is_opening (node ty leaf fields) form few =
    let b = and-true _ _ form in
    let r = tree_regs opening 0 0 (0 + 1 + field_count fields) leaf fields (omega arith) b.0
    (λ keys. fields_under opening 0 (0 + 1) 0 (0 + 1 + field_count fields) [] fields (omega arith) (omega arith) keys b.1)
    (λ alone. row_regs opening 0 (0 + 1) 0 (0 + 1 + field_count fields) fields (omega arith) alone b.1) in
    let many : length (opening_listed (node ty leaf fields)) ≡ node_count (node ty leaf fields) = listed_length opening FlatAt.Root 0 0 (node ty leaf fields) in
    record {
      counted = tree_counted opening FlatAt.Root 0 0 0 (node ty leaf fields) refl tt;
      once = r.once;
      keys = λ f h. (r.between f h).0;
      top = (record { node = root; ty = ty; leaf = leaf; row = is_array fields; at = FlatAt.Root }, inl refl, refl, refl);
      few = rw many few;
    }

rows_once : (rev : Rev) (xs : List FlatNode) (n c : ℕ) (r : NodeId) → Counted rev xs n c → AreDistinct (λ (o : Owned). o.cell) (filter_map (λ (x : FlatNode). cell_at r x.node x.at) xs)
rows_once rev [] n c r h = tt
rows_once rev (x ∷ xs) n c r h = go (cell_at r x.node x.at) refl (rows_once rev xs (n + 1) (c + taken x.at) r h.2)
  where
    go : (o : Option Owned) → cell_at r x.node x.at ≡ o → AreDistinct (λ (o : Owned). o.cell) (filter_map (λ (x : FlatNode). cell_at r x.node x.at) xs)
        → AreDistinct (λ (o : Owned). o.cell) (cons_option o (filter_map (λ (x : FlatNode). cell_at r x.node x.at) xs))
    go None e d = d
    go (Some o) e d = (has-all (λ (p : Owned). p.cell ≢ o.cell) (filter_map (λ (x : FlatNode). cell_at r x.node x.at) xs) other, d)
      where
        other : (p : Owned) → Has (filter_map (λ (x : FlatNode). cell_at r x.node x.at) xs) p → p.cell ≢ o.cell
        other p k same =
            let y = filter-from (λ (x : FlatNode). cell_at r x.node x.at) xs p k in
            let w = numbered rev xs (n + 1) (c + taken x.at) y.0 h.2 y.1 in
            let at_x = (cell_of_at r x.node o x.at e).0 in
            let here = (row_cell rev n c r o.cell x.at h.1 at_x).0 in
            let there = (row_cell rev w.number w.cell r p.cell y.0.at w.at (cell_of_at r y.0.node p y.0.at y.2).0).0 in
            let one : taken x.at ≡ 1 = took_one r o.cell x.at at_x in
            let low : c + taken x.at ≤ w.cell = w.cell_low in
            let equal : c ≡ w.cell = same_cell_number rev c w.cell (sym here ∙ sym same ∙ there) in
            omega arith

-- the node above one of a number has a lower number
parent : (rev : Rev) (k c : ℕ) (at : FlatAt) → IsAt rev k c at → (node_of (spot_at at) ≡ None) ⊎ ((j : ℕ) × (j < k) × (node_of (spot_at at) ≡ Some (node_named rev j)))
parent rev k c FlatAt.Root is = inl refl
parent rev k c (FlatAt.Top d) is = absurd is
parent rev k c (FlatAt.Row r d) is = inr (is.1.0, is.1.1, ap (λ x. Some x) is.1.2)
parent rev k c (FlatAt.Register f) is = inr (is.0, is.1, ap (λ x. Some x) is.2)

abbrev HasLower : Rev → (NodeId → Option NodeId) → NodeId → Type 0
HasLower rev up n = (up n ≡ None) ⊎ ((j : ℕ) × (k : ℕ) × (j < k) × (n ≡ node_named rev k) × (up n ≡ Some (node_named rev j)))

-- where each step up leads to a lower number, steps end
pub lower_ends : (rev : Rev) (up : NodeId → Option NodeId) → ((n : NodeId) → HasLower rev up n) → (fuel k : ℕ) → k < fuel → ClimbsToAnEnd up (node_named rev k)
lower_ends rev up lower zero k less = absurd (omega arith)
lower_ends rev up lower (suc fuel) k less = go (lower (node_named rev k)) (λ j l. lower_ends rev up lower fuel j l)
  where
    go : HasLower rev up (node_named rev k) → ((j : ℕ) → j < fuel → ClimbsToAnEnd up (node_named rev j)) → ClimbsToAnEnd up (node_named rev k)
    go (inl e) rest = (1, ap (option_and_then (λ p. Some p)) e)
    go (inr h) rest =
        let same : k ≡ h.1 = same_number rev k h.1 h.3 in
        let r = rest h.0 (omega (arith, h.2, same)) in
        (suc r.0, ap (option_and_then (climb up r.0)) h.4 ∙ r.1)

pub all_end : (rev : Rev) (up : NodeId → Option NodeId) → ((n : NodeId) → HasLower rev up n) → (n : NodeId) → ClimbsToAnEnd up n
all_end rev up lower n = go (lower n)
  where
    go : HasLower rev up n → ClimbsToAnEnd up n
    go (inl e) = (1, ap (option_and_then (λ p. Some p)) e)
    go (inr h) = subst (ClimbsToAnEnd up) (sym h.3) (lower_ends rev up lower (h.1 + 1) h.1 (omega arith))

module _ (xs : List FlatNode) (schema : List ℕ) (w : IsOpening xs) where
  spot_named : (x : FlatNode) → place_at x.node x ≡ Some (spot_at x.at)
  spot_named x = ap (λ b. cond b (Some (spot_at x.at)) None) (same_node-itself x.node)

  -- a node stands where the list says
  stands : (x : FlatNode) → Has xs x → (start_of xs schema).place x.node ≡ spot_at x.at
  stands x h = ap (λ o. unwrap_or o Spot.Nowhere) (has-said (place_at x.node) xs x (spot_at x.at) h (spot_named x)
      (λ y d k e. let p = place_of x.node y d e in sym p.1 ∙ ap (λ (z : FlatNode). spot_at z.at) (one_named opening xs 0 0 y x w.counted k h p.0)))

  stands_at : (x : FlatNode) (m : NodeId) (s : Spot) → Has xs x → x.node ≡ m → spot_at x.at ≡ s → (start_of xs schema).place m ≡ s
  stands_at x m s h e f = ap (start_of xs schema).place (sym e) ∙ stands x h ∙ f

  place_is : (m : NodeId) (s : Spot) → (start_of xs schema).place m ≡ s → (s ≡ Spot.Nowhere) ⊎ ((x : FlatNode) × Has xs x × (x.node ≡ m) × (spot_at x.at ≡ s))
  place_is m s e = go (first_said (place_at m) xs) refl e
    where
      go : (o : Option Spot) → first_said (place_at m) xs ≡ o → unwrap_or o Spot.Nowhere ≡ s → (s ≡ Spot.Nowhere) ⊎ ((x : FlatNode) × Has xs x × (x.node ≡ m) × (spot_at x.at ≡ s))
      go None q f = inl (sym f)
      go (Some v) q f = let z = said-has (place_at m) xs v q in let p = place_of m z.0 v z.2 in inr (z.0, z.1, p.0, p.1 ∙ f)

  there : (x : FlatNode) (n : NodeId) → Has xs x → x.node ≡ n → IsSome ((start_of xs schema).nodes n)
  there x n h e = said_some (type_at n) xs x (record { ty = x.ty; leaf = x.leaf }) h
      (ap (λ b. cond b (Some (record { ty = x.ty; leaf = x.leaf })) None) (ap (λ m. same_node m n) e ∙ same_node-itself n))

  -- a node of a lower number than a listed one is listed
  lower_there : (k : ℕ) (n : NodeId) → k < 0 + length xs → n ≡ node_named opening k → IsSome ((start_of xs schema).nodes n)
  lower_there k n less e = let y = there_is opening xs 0 0 k w.counted (omega arith) less in there y.0 n y.1 (y.2 ∙ sym e)

  row_item : (n : NodeId) (o : Owned) → Has ((start_of xs schema).rows n) o → (x : FlatNode) × Has xs x × (x.at ≡ FlatAt.Row n o.cell) × (o.node ≡ x.node)
  row_item n o h =
      let x = filter-from (λ (x : FlatNode). cell_at n x.node x.at) xs o h in
      let c = cell_of_at n x.0.node o x.0.at x.2 in
      (x.0, x.1, c.0, c.1)

  item_row : (x : FlatNode) (n : NodeId) (c : CellId) → Has xs x → x.at ≡ FlatAt.Row n c → Has ((start_of xs schema).rows n) (owned_cell c x.node)
  item_row x n c h e = has-filter_map (λ (x : FlatNode). cell_at n x.node x.at) xs x (owned_cell c x.node) h (ap (cell_at n x.node) e ∙ cell_at_itself n x.node c)

  row_of_has : (c : CellId) (n : NodeId) → (start_of xs schema).row_of c ≡ Some n → (m : NodeId) × Has ((start_of xs schema).rows n) (owned_cell c m)
  row_of_has c n e =
      let x = said-has (λ (x : FlatNode). row_at c x.at) xs n e in
      (x.0.node, item_row x.0 n c x.1 (row_of_at c n x.0.at x.2))

  has_row_of : (c : CellId) (n m : NodeId) → Has ((start_of xs schema).rows n) (owned_cell c m) → (start_of xs schema).row_of c ≡ Some n
  has_row_of c n m h =
      let x = row_item n (owned_cell c m) h in
      has-said (λ (x : FlatNode). row_at c x.at) xs x.0 n x.1 (ap (row_at c) x.2 ∙ row_at_itself c n)
      (λ y d k e.
      let at_y = row_of_at c d y.at e in
      let same = one_in_cell opening xs 0 0 y x.0 d n c w.counted k x.1 at_y x.2 in
      let rows : FlatAt.Row d c ≡ FlatAt.Row n c = sym at_y ∙ ap (λ (z : FlatNode). z.at) same ∙ x.2 in
      cc)

  in_own_cell : (m n : NodeId) (c : CellId) → (start_of xs schema).place m ≡ Spot.Row n c → Has ((start_of xs schema).rows n) (owned_cell c m)
  in_own_cell m n c e = elim (place_is m (Spot.Row n c) e) [
    | inl bad ↦ absurd (let no : Spot.Row n c ≡ Spot.Nowhere = bad in cc)
    | inr x ↦ subst (λ k. Has ((start_of xs schema).rows n) (owned_cell c k)) x.2 (item_row x.0 n c x.1 (at_row x.0.at n c x.3))
  ]

  held_item : (m : NodeId) (f : FieldId) → (start_of xs schema).held f ≡ Some m → (x : FlatNode) × Has xs x × (x.at ≡ FlatAt.Register f) × (x.node ≡ m)
  held_item m f e =
      let x = said-has (λ (x : FlatNode). held_at f x.node x.at) xs m e in
      let h = held_of_at f m x.0.node x.0.at x.2 in
      (x.0, x.1, h.0, h.1)

  held_stands : (m : NodeId) (f : FieldId) → (start_of xs schema).held f ≡ Some m → (start_of xs schema).place m ≡ Spot.Register f
  held_stands m f e = let x = held_item m f e in stands_at x.0 m (Spot.Register f) x.1 x.3 (ap spot_at x.2)

  stands_held : (m : NodeId) (f : FieldId) → (start_of xs schema).place m ≡ Spot.Register f → (start_of xs schema).held f ≡ Some m
  stands_held m f e = elim (place_is m (Spot.Register f) e) [
    | inl bad ↦ absurd (let no : Spot.Register f ≡ Spot.Nowhere = bad in cc)
    | inr x ↦
        (let at_x = at_register x.0.at f x.3 in
        has-said (λ (x : FlatNode). held_at f x.node x.at) xs x.0 m x.1 (ap (held_at f x.0.node) at_x ∙ held_at_itself f x.0.node ∙ ap (λ k. Some k) x.2)
        (λ y d k g.
        let h = held_of_at f d y.node y.at g in
        let same = distinct-filter_map (λ (x : FlatNode). register_at x.at) xs y x.0 f w.once k x.1 (ap register_at h.0) (ap register_at at_x) in
        sym h.1 ∙ ap (λ (z : FlatNode). z.node) same ∙ x.2))
  ]

  cells_there : (n : NodeId) (o : Owned) → Has ((start_of xs schema).rows n) o → IsSome ((start_of xs schema).nodes n) × IsSome ((start_of xs schema).nodes o.node)
  cells_there n o h =
      let x = row_item n o h in
      let r = numbered opening xs 0 0 x.0 w.counted x.1 in
      let above = (row_cell opening r.number r.cell n o.cell x.0.at r.at x.2).1 in
      let high : r.number < 0 + length xs = r.high in
      (lower_there above.0 n (omega (arith, above.1)) above.2, there x.0 o.node x.1 (sym x.3))

  held_there : (m : NodeId) (f : FieldId) → (start_of xs schema).held f ≡ Some m → IsSome ((start_of xs schema).nodes m) × IsSome ((start_of xs schema).nodes f.node)
  held_there m f e =
      let x = held_item m f e in
      let r = numbered opening xs 0 0 x.0 w.counted x.1 in
      let is : IsAt opening r.number r.cell (FlatAt.Register f) = subst (IsAt opening r.number r.cell) x.2 r.at in
      let high : r.number < 0 + length xs = r.high in
      (there x.0 m x.1 x.3, lower_there is.0 f.node (omega (arith, is.1)) is.2)

  keyed : (m : NodeId) (f : FieldId) → (start_of xs schema).held f ≡ Some m → f.key.0 ≢ []
  keyed m f e = let x = held_item m f e in w.keys f (has-filter_map (λ (x : FlatNode). register_at x.at) xs x.0 f x.1 (ap register_at x.2))

  has_lower : (n : NodeId) → HasLower opening (above (start_of xs schema)) n
  has_lower n = elim (place_is n ((start_of xs schema).place n) refl) [
    | inl e ↦ inl (ap node_of e)
    | inr x ↦
        (let r = numbered opening xs 0 0 x.0 w.counted x.1 in
        elim (parent opening r.number r.cell x.0.at r.at) [
          | inl e ↦ inl (ap node_of (sym x.3) ∙ e)
          | inr h ↦ inr (h.0, r.number, h.1, sym x.2 ∙ r.named, ap node_of (sym x.3) ∙ h.2)
        ])
  ]

  pub list_sound : IsSoundInForm (start_of xs schema)
  list_sound = record {
    root_known = there w.top.0 root w.top.1 w.top.2;
    root_nowhere = stands_at w.top.0 root Spot.Nowhere w.top.1 w.top.2 (ap spot_at w.top.3);
    one_row = λ c n. (row_of_has c n, λ h. has_row_of c n h.0 h.1);
    once = λ n. rows_once opening xs 0 0 n w.counted;
    short = λ n. (let short : length (filter_map (λ (x : FlatNode). cell_at n x.node x.at) xs) ≤ length xs = filter_map-length (λ (x : FlatNode). cell_at n x.node x.at) xs in let few : length xs < 2 ^ 32 = w.few in omega arith);
    own_cell = in_own_cell;
    one_held = λ m f. (held_stands m f, stands_held m f);
    cells_known = cells_there;
    held_known = held_there;
    register_key = keyed;
    no_ring = all_end opening (above (start_of xs schema)) has_lower;
    in_effect = record { begun = refl; once = (tt, tt) };
  }

pub start_sound : (t : Node) (schema : List ℕ) → has_form t ≡ true → node_count t < 2 ^ 32 → IsSoundInForm (start_of (opening_listed t) schema)
start_sound t schema form few = list_sound (opening_listed t) schema (is_opening t form few)

-- a tree within the limits has few nodes
pub within_few : (t : Node) → check_of t ≡ Ok tt → node_count t < 2 ^ 32
within_few t h = go (nat_lt 1024 (node_count t)) refl h
  where
    go : (b : Bool) → nat_lt 1024 (node_count t) ≡ b → ◌≡◌ {A = Result (Unit {0}) TreeFault} (cond b (Err TooMany) (cond (nat_lt 48 (height t)) (Err TooDeep) (Ok tt))) (Ok tt) → node_count t < 2 ^ 32
    go true e f = absurd (cc)
    go false e f = grind (arith, nat_tests)
