-- The nodes of new trees: their names are counted up, a row's cells have an array node, and no two nodes stand in one register.
use Rattle.std.proofs.Common.{◌≡◌, ◌≢◌, ℕ, suc, ◌+◌, ◌<◌, ◌≤◌, ◌||◌, Bool, true, false, List, [], ◌∷◌, ◌++◌, length, Option, Some, None, refl, sym, ap, ◌∙◌, subst, arith, inl, inr}
use Rattle.std.specs.List.{filter_map, cons_option, flat_map}
use Rattle.std.proofs.lemmas.Bool.{cases_lt}
use Rattle.st_ids.specs.Listing.{AreDistinct, Has}
use Rattle.st_ids.specs.declared.names.CellId.{CellId}
use Rattle.st_ids.specs.declared.names.NodeId.{NodeId}
use Rattle.st_ids.specs.declared.names.Leaf.{Leaf}
use Rattle.st_ids.specs.declared.names.Rev.{Rev}
use Rattle.st_marks.proofs.Members.{has-all, all-has, has-append, append_left, append_right, has-flat_map, distinct-append}
use Rattle.st_tree.specs.declared.flat.FlatAt.{FlatAt}
use Rattle.st_tree.specs.declared.flat.FlatNode.{FlatNode}
use Rattle.st_tree.specs.Node.{Node, node, Fields, no_fields, field, Nodes, no_nodes, first}
use Rattle.st_tree.specs.Size.{node_count, item_count}
use Rattle.st_tree.specs.Form.{is_row_alone, keys_rise, fields_fit_leaf, has_form, fields_have_form, all_have_form}
use Rattle.st_tree.specs.Preorder.{node_named, cell_named, cells_taken, cell_count, field_cells, item_cells, is_array, at_of, tree_listed, fields_listed, items_listed, tops_listed}
use Rattle.st_opening.specs.Start.{registers, register_at}
use Rattle.st_opening.proofs.PreorderNames.{AreBetween, none_between, between_append, tree_regs, fields_under, row_regs, same_number, taken, cells_used, taken_at, listed_length, items_length, listed_cells, items_cells}
use Rattle.st_lemmas.proofs.Bools.{or-right, and-true}
use Rattle.st_opening.proofs.StartSound.{same_cell_number}
use Rattle.st_ids.proofs.Shared.{filter-from}
use Rattle.st_lemmas.proofs.Lists.{filter_map-append}

-- ## Lists

-- items of lists that are distinct by a name, what a filter makes of them being distinct by a key
pub distinct_filter : {A B K L : Type 0} (name : A → L) (g : A → Option B) (key : B → K) (xs : List A) → AreDistinct name xs
    → ((x y : A) (a b : B) → Has xs x → Has xs y → g x ≡ Some a → g y ≡ Some b → key b ≡ key a → name y ≡ name x) → AreDistinct key (filter_map g xs)
distinct_filter name g key [] d one = tt
distinct_filter {A} {B} {K} {L} name g key (x ∷ xs) d one = go (g x) refl (distinct_filter name g key xs d.1 (λ y z a b h k. one y z a b (inr h) (inr k)))
  where
    go : (o : Option B) → g x ≡ o → AreDistinct key (filter_map g xs) → AreDistinct key (cons_option o (filter_map g xs))
    go None e rest = rest
    go (Some a) e rest = (
      has-all (λ b. key b ≢ key a) (filter_map g xs) (λ b k same.
          let y = filter-from g xs b k in
          all-has (λ z. name z ≢ name x) xs y.0 d.0 y.1 (one x y.0 a b (inl refl) (inr y.1) e y.2 same)),
      rest,
    )

-- lists that are distinct by a name, their items being distinct by a key in each and between them
pub distinct_flat : {A B K L : Type 0} (name : A → L) (f : A → List B) (key : B → K) (gs : List A) → AreDistinct name gs → ((g : A) → Has gs g → AreDistinct key (f g))
    → ((g h : A) (x y : B) → Has gs g → Has gs h → Has (f g) x → Has (f h) y → key y ≡ key x → name h ≡ name g) → AreDistinct key (flat_map f gs)
distinct_flat name f key [] d each one = tt
distinct_flat name f key (g ∷ gs) d each one =
    distinct-append key (f g) (flat_map f gs) (each g (inl refl)) (distinct_flat name f key gs d.1 (λ h k. each h (inr k)) (λ h i x y k l. one h i x y (inr k) (inr l)))
    (λ x y h i same.
    let w = has-flat_map f gs y i in
    all-has (λ z. name z ≢ name g) gs w.0 d.0 w.1 (one g w.0 x y (inl refl) (inr w.1) h w.2 same))

-- ## Names that are counted up

-- a place of the node of the number n, where c is the next cell's number: in its cell, or in the register, of a node of a
-- number from l on and before n
abbrev pub IsAt : Rev → ℕ → ℕ → ℕ → FlatAt → Type 0
IsAt rev l n c FlatAt.Root = ⊥
IsAt rev l n c (FlatAt.Top d) = d ≡ cell_named rev c
IsAt rev l n c (FlatAt.Row r d) = (d ≡ cell_named rev c) × ((k : ℕ) × (l ≤ k) × (k < n) × (r ≡ node_named rev k))
IsAt rev l n c (FlatAt.Register f) = (k : ℕ) × (l ≤ k) × (k < n) × (f.node ≡ node_named rev k)

-- nodes from the number n on, and cells from the number c on
abbrev pub Counted : Rev → ℕ → List FlatNode → ℕ → ℕ → Type 0
Counted rev l [] n c = Unit {0}
Counted rev l (x ∷ xs) n c = (x.node ≡ node_named rev n) × IsAt rev l n c x.at × Counted rev l xs (n + 1) (c + taken x.at)

counted_at : (rev : Rev) (l : ℕ) (xs : List FlatNode) (n m c d : ℕ) → n ≡ m → c ≡ d → Counted rev l xs n c → Counted rev l xs m d
counted_at rev l xs n m c d p q h = subst (λ a. Counted rev l xs a d) p (subst (λ b. Counted rev l xs n b) q h)

counted_append : (rev : Rev) (l : ℕ) (xs ys : List FlatNode) (n c : ℕ) → Counted rev l xs n c → Counted rev l ys (n + length xs) (c + cells_used xs) → Counted rev l (xs ++ ys) n c
counted_append rev l [] ys n c h g = counted_at rev l ys (n + 0) n (c + 0) c (omega arith) (omega arith) g
counted_append rev l (x ∷ xs) ys n c h g = (
  h.0,
  h.1,
  counted_append rev l xs ys (n + 1) (c + taken x.at) h.2
      (counted_at rev l ys (n + suc (length xs)) (n + 1 + length xs) (c + (taken x.at + cells_used xs)) (c + taken x.at + cells_used xs) (omega arith) (omega arith) g),
)

at_is : (rev : Rev) (l owner n c : ℕ) (key : List ℕ) (row : Bool) → l ≤ owner → owner < n → IsAt rev l n c (at_of rev owner key row c)
at_is rev l owner n c key true low less = (refl, (owner, low, less, refl))
at_is rev l owner n c key false low less = (owner, low, less, refl)

mutual
  tree_counted : (rev : Rev) (l : ℕ) (at : FlatAt) (n c d : ℕ) (t : Node) → l ≤ n → d ≡ c + taken at → IsAt rev l n c at → Counted rev l (tree_listed rev at n d t) n c
  tree_counted rev l at n c d (node ty leaf fields) low e is =
      (refl, is, counted_at rev l (fields_listed rev n (n + 1) d fields) (n + 1) (n + 1) d (c + taken at) refl e (fields_counted rev l n (n + 1) d fields low (omega arith)))

  fields_counted : (rev : Rev) (l : ℕ) (owner n c : ℕ) (fs : Fields) → l ≤ owner → owner < n → Counted rev l (fields_listed rev owner n c fs) n c
  fields_counted rev l owner n c no_fields low less = tt
  fields_counted rev l owner n c (field key row items rest) low less =
      let m = n + item_count items in
      let d = c + item_cells row items in
      counted_append rev l (items_listed rev owner key row n c items) (fields_listed rev owner m d rest) n c (items_counted rev l owner key row n c items low less)
      (counted_at rev l (fields_listed rev owner m d rest) m _ d _ (ap (λ k. n + k) (sym (items_length rev owner key row n c items))) (ap (λ k. c + k) (sym (items_cells rev owner key row n c items)))
      (fields_counted rev l owner m d rest low (omega arith)))

  items_counted : (rev : Rev) (l : ℕ) (owner : ℕ) (key : List ℕ) (row : Bool) (n c : ℕ) (ts : Nodes) → l ≤ owner → owner < n → Counted rev l (items_listed rev owner key row n c ts) n c
  items_counted rev l owner key row n c no_nodes low less = tt
  items_counted rev l owner key row n c (first t ts) low less =
      let at = at_of rev owner key row c in
      let one = tree_listed rev at n (c + cells_taken row) t in
      let m = n + node_count t in
      let d = c + (cells_taken row + cell_count t) in
      counted_append rev l one (items_listed rev owner key row m d ts) n c
      (tree_counted rev l at n c (c + cells_taken row) t (omega arith) (ap (λ k. c + k) (sym (taken_at rev owner key row c))) (at_is rev l owner n c key row low less))
      (counted_at rev l (items_listed rev owner key row m d ts) m _ d _ (ap (λ k. n + k) (sym (listed_length rev at n (c + cells_taken row) t)))
      (ap (λ k. c + k) (sym (listed_cells rev at n (c + cells_taken row) t ∙ ap (λ k. k + cell_count t) (taken_at rev owner key row c))))
      (items_counted rev l owner key row m d ts low (omega arith)))

pub tops_counted : (rev : Rev) (l n c : ℕ) (ts : Nodes) → l ≤ n → Counted rev l (tops_listed rev n c ts) n c
tops_counted rev l n c no_nodes low = tt
tops_counted rev l n c (first t ts) low =
    let one = tree_listed rev (FlatAt.Top (cell_named rev c)) n (c + 1) t in
    let m = n + node_count t in
    let d = c + (1 + cell_count t) in
    counted_append rev l one (tops_listed rev m d ts) n c
    (tree_counted rev l (FlatAt.Top (cell_named rev c)) n c (c + 1) t low refl refl)
    (counted_at rev l (tops_listed rev m d ts) m _ d _ (ap (λ k. n + k) (sym (listed_length rev (FlatAt.Top (cell_named rev c)) n (c + 1) t)))
    (ap (λ k. c + k) (sym (listed_cells rev (FlatAt.Top (cell_named rev c)) n (c + 1) t)))
    (tops_counted rev l m d ts (omega arith)))

-- ## What follows for the nodes of such a list

-- the number of a node, and its place
pub record IsNumbered (rev : Rev) (l : ℕ) (xs : List FlatNode) (n c : ℕ) (x : FlatNode) : Type 0 where
  pub number : ℕ
  pub cell : ℕ
  pub low : n ≤ number
  pub high : number < n + length xs
  pub cell_low : c ≤ cell
  pub named : x.node ≡ node_named rev number
  pub at : IsAt rev l number cell x.at

pub numbered : (rev : Rev) (l : ℕ) (xs : List FlatNode) (n c : ℕ) (x : FlatNode) → Counted rev l xs n c → Has xs x → IsNumbered rev l xs n c x
numbered rev l [] n c x h k = absurd k
numbered rev l (y ∷ xs) n c x h (inl e) = record {
  number = n;
  cell = c;
  low = omega arith;
  high = omega arith;
  cell_low = omega arith;
  named = ap (λ (z : FlatNode). z.node) (sym e) ∙ h.0;
  at = subst (λ (z : FlatNode). IsAt rev l n c z.at) e h.1;
}
numbered rev l (y ∷ xs) n c x h (inr k) =
    let r = numbered rev l xs (n + 1) (c + taken y.at) x h.2 k in
    let low : n + 1 ≤ r.number = r.low in
    let high : r.number < n + 1 + length xs = r.high in
    let cell_low : c + taken y.at ≤ r.cell = r.cell_low in
    record { number = r.number; cell = r.cell; low = omega arith; high = omega arith; cell_low = omega arith; named = r.named; at = r.at }

-- each number is some node's
pub there_is : (rev : Rev) (l : ℕ) (xs : List FlatNode) (n c k : ℕ) → Counted rev l xs n c → n ≤ k → k < n + length xs → (x : FlatNode) × Has xs x × (x.node ≡ node_named rev k)
there_is rev l [] n c k h low high = absurd (omega arith)
there_is rev l (y ∷ xs) n c k h low high = elim (cases_lt n k) [
  | inl less ↦ (let r = there_is rev l xs (n + 1) (c + taken y.at) k h.2 (omega arith) (omega arith) in (r.0, inr r.1, r.2))
  | inr past ↦ (let e : n ≡ k = omega arith in (y, inl refl, h.0 ∙ ap (node_named rev) e))
]

-- one node of each name
pub one_named : (rev : Rev) (l : ℕ) (xs : List FlatNode) (n c : ℕ) (x y : FlatNode) → Counted rev l xs n c → Has xs x → Has xs y → x.node ≡ y.node → x ≡ y
one_named rev l [] n c x y h p q e = absurd p
one_named rev l (z ∷ xs) n c x y h (inl p) (inl q) e = sym p ∙ q
one_named rev l (z ∷ xs) n c x y h (inl p) (inr q) e =
    let r = numbered rev l xs (n + 1) (c + taken z.at) y h.2 q in
    let same : n ≡ r.number = same_number rev n r.number (sym h.0 ∙ ap (λ (w : FlatNode). w.node) p ∙ e ∙ r.named) in
    let low : n + 1 ≤ r.number = r.low in
    absurd (omega arith)
one_named rev l (z ∷ xs) n c x y h (inr p) (inl q) e =
    let r = numbered rev l xs (n + 1) (c + taken z.at) x h.2 p in
    let same : n ≡ r.number = same_number rev n r.number (sym h.0 ∙ ap (λ (w : FlatNode). w.node) q ∙ sym e ∙ r.named) in
    let low : n + 1 ≤ r.number = r.low in
    absurd (omega arith)
one_named rev l (z ∷ xs) n c x y h (inr p) (inr q) e = one_named rev l xs (n + 1) (c + taken z.at) x y h.2 p q e

-- the nodes are distinct
pub nodes_distinct : (rev : Rev) (l : ℕ) (xs : List FlatNode) (n c : ℕ) → Counted rev l xs n c → AreDistinct (λ (x : FlatNode). x.node) xs
nodes_distinct rev l [] n c h = tt
nodes_distinct rev l (x ∷ xs) n c h = (
  has-all (λ (y : FlatNode). y.node ≢ x.node) xs (λ y k same.
      let r = numbered rev l xs (n + 1) (c + taken x.at) y h.2 k in
      let e : r.number ≡ n = same_number rev r.number n (sym r.named ∙ same ∙ h.0) in
      let low : n + 1 ≤ r.number = r.low in
      absurd (omega arith)),
  nodes_distinct rev l xs (n + 1) (c + taken x.at) h.2,
)

-- the cell that a node takes
abbrev pub own_cell : FlatAt → Option CellId
own_cell FlatAt.Root = None
own_cell (FlatAt.Top c) = Some c
own_cell (FlatAt.Row n c) = Some c
own_cell (FlatAt.Register f) = None

pub cell_is : (rev : Rev) (l n c : ℕ) (d : CellId) (at : FlatAt) → IsAt rev l n c at → own_cell at ≡ Some d → (d ≡ cell_named rev c) × (taken at ≡ 1)
cell_is rev l n c d FlatAt.Root is e = cc
cell_is rev l n c d (FlatAt.Top b) is e = let q : b ≡ d = cc in (sym q ∙ is, refl)
cell_is rev l n c d (FlatAt.Row r b) is e = let q : b ≡ d = cc in (sym q ∙ is.0, refl)
cell_is rev l n c d (FlatAt.Register f) is e = cc

-- one node in each cell
pub one_in_cell : (rev : Rev) (l : ℕ) (xs : List FlatNode) (n c : ℕ) (x y : FlatNode) (d : CellId) → Counted rev l xs n c → Has xs x → Has xs y → own_cell x.at ≡ Some d → own_cell y.at ≡ Some d → x ≡ y
one_in_cell rev l [] n c x y d h p q e f = absurd p
one_in_cell rev l (z ∷ xs) n c x y d h (inl p) (inl q) e f = sym p ∙ q
one_in_cell rev l (z ∷ xs) n c x y d h (inl p) (inr q) e f =
    let w = numbered rev l xs (n + 1) (c + taken z.at) y h.2 q in
    let here = cell_is rev l n c d z.at h.1 (ap (λ (v : FlatNode). own_cell v.at) p ∙ e) in
    let there = (cell_is rev l w.number w.cell d y.at w.at f).0 in
    let same : c ≡ w.cell = same_cell_number rev c w.cell (sym here.0 ∙ there) in
    let one : taken z.at ≡ 1 = here.1 in
    let low : c + taken z.at ≤ w.cell = w.cell_low in
    absurd (omega arith)
one_in_cell rev l (z ∷ xs) n c x y d h (inr p) (inl q) e f =
    let w = numbered rev l xs (n + 1) (c + taken z.at) x h.2 p in
    let here = cell_is rev l n c d z.at h.1 (ap (λ (v : FlatNode). own_cell v.at) q ∙ f) in
    let there = (cell_is rev l w.number w.cell d x.at w.at e).0 in
    let same : c ≡ w.cell = same_cell_number rev c w.cell (sym here.0 ∙ there) in
    let one : taken z.at ≡ 1 = here.1 in
    let low : c + taken z.at ≤ w.cell = w.cell_low in
    absurd (omega arith)
one_in_cell rev l (z ∷ xs) n c x y d h (inr p) (inr q) e f = one_in_cell rev l xs (n + 1) (c + taken z.at) x y d h.2 p q e f

-- ## Rows

abbrev pub IsArray : List FlatNode → NodeId → Type 0
IsArray ys r = (y : FlatNode) × Has ys y × (y.node ≡ r) × (y.row ≡ true)

-- a node in a row stands under an array node
abbrev pub IsUnderArray : List FlatNode → FlatAt → Type 0
IsUnderArray ys FlatAt.Root = Unit {0}
IsUnderArray ys (FlatAt.Top c) = Unit {0}
IsUnderArray ys (FlatAt.Row r c) = IsArray ys r
IsUnderArray ys (FlatAt.Register f) = Unit {0}

-- whether a field is a row
abbrev any_row : Fields → Bool
any_row no_fields = false
any_row (field key row items rest) = row || any_row rest

none_row : (before : List ℕ) (fs : Fields) → keys_rise before fs ≡ true → any_row fs ≡ true → ⊥
none_row before no_fields rises e = cc
none_row before (field key true items rest) rises e = cc
none_row before (field key false items rest) rises e = none_row key rest (and-true _ _ (and-true _ _ rises).1).1 e

row_alone_array : (fs : Fields) → is_row_alone fs ≡ true → is_array fs ≡ true
row_alone_array no_fields e = cc
row_alone_array (field key row items no_fields) e = (and-true _ _ e).0
row_alone_array (field key row items (field key' row' items' rest)) e = cc

array_of_row : (leaf : Option Leaf) (fs : Fields) → fields_fit_leaf leaf fs ≡ true → any_row fs ≡ true → is_array fs ≡ true
array_of_row (Some v) no_fields fit e = cc
array_of_row (Some v) (field key row items rest) fit e = cc
array_of_row None fs fit e = go (is_row_alone fs) refl fit
  where
    go : (b : Bool) → is_row_alone fs ≡ b → (b || keys_rise [] fs) ≡ true → is_array fs ≡ true
    go true f g = row_alone_array fs f
    go false f g = absurd (none_row [] fs g e)

at_under : (ys : List FlatNode) (rev : Rev) (owner c : ℕ) (key : List ℕ) (row : Bool) → (row ≡ true → IsArray ys (node_named rev owner)) → IsUnderArray ys (at_of rev owner key row c)
at_under ys rev owner c key true own = own refl
at_under ys rev owner c key false own = tt

mutual
  tree_rows : (ys : List FlatNode) (rev : Rev) (at : FlatAt) (n c : ℕ) (t : Node) → has_form t ≡ true → IsUnderArray ys at → ((x : FlatNode) → Has (tree_listed rev at n c t) x → Has ys x)
      → (x : FlatNode) → Has (tree_listed rev at n c t) x → IsUnderArray ys x.at
  tree_rows ys rev at n c (node ty leaf fs) form here inside x (inl e) = subst (λ (z : FlatNode). IsUnderArray ys z.at) e here
  tree_rows ys rev at n c (node ty leaf fs) form here inside x (inr h) =
      let b = and-true _ _ form in
      fields_rows ys rev n (n + 1) c fs b.1
      (λ some. (record { node = node_named rev n; ty = ty; leaf = leaf; row = is_array fs; at = at }, inside _ (inl refl), refl, array_of_row leaf fs b.0 some))
      (λ z k. inside z (inr k)) x h

  fields_rows : (ys : List FlatNode) (rev : Rev) (owner n c : ℕ) (fs : Fields) → fields_have_form fs ≡ true → (any_row fs ≡ true → IsArray ys (node_named rev owner)) → ((x : FlatNode) → Has (fields_listed rev owner n c fs) x → Has ys x)
      → (x : FlatNode) → Has (fields_listed rev owner n c fs) x → IsUnderArray ys x.at
  fields_rows ys rev owner n c no_fields form own inside x h = absurd h
  fields_rows ys rev owner n c (field key row items rest) form own inside x h =
      let b = and-true _ _ form in
      let here = items_listed rev owner key row n c items in
      let later = fields_listed rev owner (n + item_count items) (c + item_cells row items) rest in
      elim (has-append here later x h) [
        | inl k ↦ items_rows ys rev owner key row n c items b.0 (λ r. own (ap (λ q. q || any_row rest) r)) (λ z l. inside z (append_left here later z l)) x k
        | inr k ↦ fields_rows ys rev owner (n + item_count items) (c + item_cells row items) rest b.1 (λ r. own (or-right row (any_row rest) r)) (λ z l. inside z (append_right here later z l)) x k
      ]

  items_rows : (ys : List FlatNode) (rev : Rev) (owner : ℕ) (key : List ℕ) (row : Bool) (n c : ℕ) (ts : Nodes) → all_have_form ts ≡ true → (row ≡ true → IsArray ys (node_named rev owner)) → ((x : FlatNode) → Has (items_listed rev owner key row n c ts) x → Has ys x)
      → (x : FlatNode) → Has (items_listed rev owner key row n c ts) x → IsUnderArray ys x.at
  items_rows ys rev owner key row n c no_nodes form own inside x h = absurd h
  items_rows ys rev owner key row n c (first t ts) form own inside x h =
      let b = and-true _ _ form in
      let here = tree_listed rev (at_of rev owner key row c) n (c + cells_taken row) t in
      let later = items_listed rev owner key row (n + node_count t) (c + (cells_taken row + cell_count t)) ts in
      elim (has-append here later x h) [
        | inl k ↦ tree_rows ys rev (at_of rev owner key row c) n (c + cells_taken row) t b.0 (at_under ys rev owner c key row own) (λ z l. inside z (append_left here later z l)) x k
        | inr k ↦ items_rows ys rev owner key row (n + node_count t) (c + (cells_taken row + cell_count t)) ts b.1 own (λ z l. inside z (append_right here later z l)) x k
      ]

pub tops_rows : (ys : List FlatNode) (rev : Rev) (n c : ℕ) (ts : Nodes) → all_have_form ts ≡ true → ((x : FlatNode) → Has (tops_listed rev n c ts) x → Has ys x)
    → (x : FlatNode) → Has (tops_listed rev n c ts) x → IsUnderArray ys x.at
tops_rows ys rev n c no_nodes form inside x h = absurd h
tops_rows ys rev n c (first t ts) form inside x h =
    let b = and-true _ _ form in
    let here = tree_listed rev (FlatAt.Top (cell_named rev c)) n (c + 1) t in
    let later = tops_listed rev (n + node_count t) (c + (1 + cell_count t)) ts in
    elim (has-append here later x h) [
      | inl k ↦ tree_rows ys rev (FlatAt.Top (cell_named rev c)) n (c + 1) t b.0 tt (λ z l. inside z (append_left here later z l)) x k
      | inr k ↦ tops_rows ys rev (n + node_count t) (c + (1 + cell_count t)) ts b.1 (λ z l. inside z (append_right here later z l)) x k
    ]

-- ## Top items

-- a place that isn't a top item's
abbrev pub IsInner : FlatAt → Type 0
IsInner FlatAt.Root = Unit {0}
IsInner (FlatAt.Top c) = ⊥
IsInner (FlatAt.Row r c) = Unit {0}
IsInner (FlatAt.Register f) = Unit {0}

at_inner : (rev : Rev) (owner c : ℕ) (key : List ℕ) (row : Bool) → IsInner (at_of rev owner key row c)
at_inner rev owner c key true = tt
at_inner rev owner c key false = tt

mutual
  tree_inner : (rev : Rev) (at : FlatAt) (n c : ℕ) (t : Node) → IsInner at → (x : FlatNode) → Has (tree_listed rev at n c t) x → IsInner x.at
  tree_inner rev at n c (node ty leaf fs) here x (inl e) = subst (λ (z : FlatNode). IsInner z.at) e here
  tree_inner rev at n c (node ty leaf fs) here x (inr h) = fields_inner rev n (n + 1) c fs x h

  pub fields_inner : (rev : Rev) (owner n c : ℕ) (fs : Fields) (x : FlatNode) → Has (fields_listed rev owner n c fs) x → IsInner x.at
  fields_inner rev owner n c no_fields x h = absurd h
  fields_inner rev owner n c (field key row items rest) x h =
      elim (has-append (items_listed rev owner key row n c items) (fields_listed rev owner (n + item_count items) (c + item_cells row items) rest) x h) [
        | inl k ↦ items_inner rev owner key row n c items x k
        | inr k ↦ fields_inner rev owner (n + item_count items) (c + item_cells row items) rest x k
      ]

  items_inner : (rev : Rev) (owner : ℕ) (key : List ℕ) (row : Bool) (n c : ℕ) (ts : Nodes) (x : FlatNode) → Has (items_listed rev owner key row n c ts) x → IsInner x.at
  items_inner rev owner key row n c no_nodes x h = absurd h
  items_inner rev owner key row n c (first t ts) x h =
      elim (has-append (tree_listed rev (at_of rev owner key row c) n (c + cells_taken row) t) (items_listed rev owner key row (n + node_count t) (c + (cells_taken row + cell_count t)) ts) x h) [
        | inl k ↦ tree_inner rev (at_of rev owner key row c) n (c + cells_taken row) t (at_inner rev owner c key row) x k
        | inr k ↦ items_inner rev owner key row (n + node_count t) (c + (cells_taken row + cell_count t)) ts x k
      ]

-- ## Registers, in a tree of the form

pub tops_regs : (rev : Rev) (n c high : ℕ) (ts : Nodes) → n + item_count ts ≤ high → all_have_form ts ≡ true → AreBetween rev n high (registers (tops_listed rev n c ts))
tops_regs rev n c high no_nodes le form = none_between rev n high
tops_regs rev n c high (first (node ty leaf fields) ts) le form =
    let m = n + node_count (node ty leaf fields) in
    let d = c + (1 + field_cells fields) in
    let below = fields_listed rev n (n + 1) (c + 1) fields in
    let later = tops_listed rev m d ts in
    let forms = and-true _ _ form in
    let own = and-true _ _ forms.0 in
    subst (AreBetween rev n high) (sym (filter_map-append (λ (x : FlatNode). register_at x.at) below later))
    (between_append rev n m high (registers below) (registers later) (omega arith) (omega arith)
    (tree_regs rev n (c + 1) m leaf fields (omega arith) own.0
    (λ keys. fields_under rev n (n + 1) (c + 1) m [] fields (omega arith) (omega arith) keys own.1)
    (λ alone. row_regs rev n (n + 1) (c + 1) m fields (omega arith) alone own.1))
    (tops_regs rev m d high ts (omega arith) forms.1))
