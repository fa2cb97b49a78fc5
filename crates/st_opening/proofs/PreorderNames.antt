-- The nodes of a tree in preorder, under names that are counted up: how many there are, how many cells they take, and in
-- which registers they stand: each of a node of the tree, under a key that isn't empty, and none twice.
use Rattle.std.proofs.Common.{◌≡◌, ◌≢◌, ℕ, ◌+◌, ◌<◌, ◌≤◌, ◌||◌, Bool, true, false, List, [], ◌∷◌, ◌++◌, length, length-append, Option, Some, None, refl, sym, ap, ◌∙◌, subst, arith, ◌⊎◌, inl, inr}
use Rattle.std.specs.Ordering.{nat_cmp}
use Rattle.std.specs.Cmp.Lexicographic.{slice_cmp, nat_list_cmp_total}
use Rattle.std.specs.declared.cmp.Ordering.TheVariants.{Less, Equal}
use Rattle.std.proofs.lemmas.Cmp.{tied_itself}
use Rattle.std.proofs.lemmas.List.{append-nil}
use Rattle.st_ids.specs.Listing.{AreDistinct, Has}
use Rattle.st_ids.specs.declared.names.FieldId.{FieldId}
use Rattle.st_ids.specs.declared.names.NodeId.{NodeId}
use Rattle.st_ids.specs.declared.names.Leaf.{Leaf}
use Rattle.st_ids.specs.declared.names.Rev.{Rev}
use Rattle.st_marks.proofs.Members.{has-all, has-append, distinct-append}
use Rattle.st_tree.specs.declared.flat.FlatAt.{FlatAt}
use Rattle.st_tree.specs.declared.flat.FlatNode.{FlatNode}
use Rattle.st_tree.specs.Node.{Node, node, Fields, no_fields, field, Nodes, no_nodes, first}
use Rattle.st_tree.specs.Size.{node_count, field_count, item_count}
use Rattle.st_tree.specs.Form.{is_row_alone, keys_rise, fields_fit_leaf, fields_have_form, all_have_form}
use Rattle.st_tree.specs.Preorder.{node_named, cells_taken, cell_count, field_cells, item_cells, at_of, tree_listed, fields_listed, items_listed}
use Rattle.st_opening.specs.Start.{register_at, registers}
use Rattle.st_lemmas.proofs.Orders.{is_lt-Less}
use Rattle.st_lemmas.proofs.Lists.{filter_map-append}
use Rattle.st_lemmas.proofs.Bools.{and-true}

-- ## Names that are counted up

-- how many cells a place takes
abbrev pub taken : FlatAt → ℕ
taken FlatAt.Root = 0
taken (FlatAt.Top c) = 1
taken (FlatAt.Row n c) = 1
taken (FlatAt.Register f) = 0

abbrev pub cells_used : List FlatNode → ℕ
cells_used [] = 0
cells_used (x ∷ xs) = taken x.at + cells_used xs

pub cells_append : (xs ys : List FlatNode) → cells_used (xs ++ ys) ≡ cells_used xs + cells_used ys
cells_append [] ys = omega arith
cells_append (x ∷ xs) ys = let rest = cells_append xs ys in omega (arith, rest)

pub taken_at : (rev : Rev) (owner : ℕ) (key : List ℕ) (row : Bool) (c : ℕ) → taken (at_of rev owner key row c) ≡ cells_taken row
taken_at rev owner key true c = refl
taken_at rev owner key false c = refl

mutual
  pub listed_length : (rev : Rev) (at : FlatAt) (n c : ℕ) (t : Node) → length (tree_listed rev at n c t) ≡ node_count t
  listed_length rev at n c (node ty leaf fields) = let h = fields_length rev n (n + 1) c fields in omega (arith, h)

  pub fields_length : (rev : Rev) (owner n c : ℕ) (fs : Fields) → length (fields_listed rev owner n c fs) ≡ field_count fs
  fields_length rev owner n c no_fields = refl
  fields_length rev owner n c (field key row items rest) =
      let a = items_length rev owner key row n c items in
      let b = fields_length rev owner (n + item_count items) (c + item_cells row items) rest in
      length-append (items_listed rev owner key row n c items) _ ∙ (λ i. a i + b i)

  pub items_length : (rev : Rev) (owner : ℕ) (key : List ℕ) (row : Bool) (n c : ℕ) (ts : Nodes) → length (items_listed rev owner key row n c ts) ≡ item_count ts
  items_length rev owner key row n c no_nodes = refl
  items_length rev owner key row n c (first t ts) =
      let a = listed_length rev (at_of rev owner key row c) n (c + cells_taken row) t in
      let b = items_length rev owner key row (n + node_count t) (c + (cells_taken row + cell_count t)) ts in
      length-append (tree_listed rev (at_of rev owner key row c) n (c + cells_taken row) t) _ ∙ (λ i. a i + b i)

mutual
  pub listed_cells : (rev : Rev) (at : FlatAt) (n c : ℕ) (t : Node) → cells_used (tree_listed rev at n c t) ≡ taken at + cell_count t
  listed_cells rev at n c (node ty leaf fields) = ap (λ k. taken at + k) (fields_cells rev n (n + 1) c fields)

  pub fields_cells : (rev : Rev) (owner n c : ℕ) (fs : Fields) → cells_used (fields_listed rev owner n c fs) ≡ field_cells fs
  fields_cells rev owner n c no_fields = refl
  fields_cells rev owner n c (field key row items rest) =
      let a = items_cells rev owner key row n c items in
      let b = fields_cells rev owner (n + item_count items) (c + item_cells row items) rest in
      cells_append (items_listed rev owner key row n c items) _ ∙ (λ i. a i + b i)

  pub items_cells : (rev : Rev) (owner : ℕ) (key : List ℕ) (row : Bool) (n c : ℕ) (ts : Nodes) → cells_used (items_listed rev owner key row n c ts) ≡ item_cells row ts
  items_cells rev owner key row n c no_nodes = refl
  items_cells rev owner key row n c (first t ts) =
      let a = listed_cells rev (at_of rev owner key row c) n (c + cells_taken row) t ∙ ap (λ k. k + cell_count t) (taken_at rev owner key row c) in
      let b = items_cells rev owner key row (n + node_count t) (c + (cells_taken row + cell_count t)) ts in
      cells_append (tree_listed rev (at_of rev owner key row c) n (c + cells_taken row) t) _ ∙ (λ i. a i + b i)

-- ## Registers, in a tree of the form

pub same_number : (rev : Rev) (j k : ℕ) → node_named rev j ≡ node_named rev k → j ≡ k
same_number rev j k e = ap (λ (n : NodeId). n.0.at) e

abbrev pub IsWithin : Rev → ℕ → ℕ → FieldId → Type 0
IsWithin rev low high f = (k : ℕ) × (low ≤ k) × (k < high) × (f.node ≡ node_named rev k)

-- registers of nodes between two numbers, or of one owner under keys above one
abbrev pub IsUnder : Rev → ℕ → List ℕ → ℕ → ℕ → FieldId → Type 0
IsUnder rev owner before low high f = (f.key.0 ≢ []) × (((f.node ≡ node_named rev owner) × (slice_cmp nat_cmp before f.key.0 ≡ Less)) ⊎ IsWithin rev low high f)

pub record AreBetween (rev : Rev) (low high : ℕ) (fs : List FieldId) : Type 0 where
  pub once : AreDistinct (λ (f : FieldId). f) fs
  pub between : (f : FieldId) → Has fs f → (f.key.0 ≢ []) × IsWithin rev low high f

pub record AreUnder (rev : Rev) (owner : ℕ) (before : List ℕ) (low high : ℕ) (fs : List FieldId) : Type 0 where
  pub once : AreDistinct (λ (f : FieldId). f) fs
  pub under : (f : FieldId) → Has fs f → IsUnder rev owner before low high f

pub none_between : (rev : Rev) (low high : ℕ) → AreBetween rev low high []
none_between rev low high = record { once = tt; between = λ f h. absurd h }

pub within_more : (rev : Rev) (low high l h : ℕ) (f : FieldId) → l ≤ low → high ≤ h → IsWithin rev low high f → IsWithin rev l h f
within_more rev low high l h f p q w = (w.0, omega (arith, w.1, w.2), omega (arith, w.1, w.2), w.3)

pub between_more : (rev : Rev) (low high l h : ℕ) (fs : List FieldId) → l ≤ low → high ≤ h → AreBetween rev low high fs → AreBetween rev l h fs
between_more rev low high l h fs p q b = record { once = b.once; between = λ f k. (let w = b.between f k in (w.0, within_more rev low high l h f p q w.1)) }

pub apart_within : (rev : Rev) (low middle high : ℕ) (f g : FieldId) → IsWithin rev low middle f → IsWithin rev middle high g → g ≡ f → ⊥
apart_within rev low middle high f g w v e =
    let same : v.0 ≡ w.0 = same_number rev v.0 w.0 (sym v.3 ∙ ap (λ (h : FieldId). h.node) e ∙ w.3) in
    omega (arith, same, w.2, v.1)

pub between_append : (rev : Rev) (low middle high : ℕ) (fs gs : List FieldId) → low ≤ middle → middle ≤ high → AreBetween rev low middle fs → AreBetween rev middle high gs → AreBetween rev low high (fs ++ gs)
between_append rev low middle high fs gs p q a b = record {
  once = distinct-append (λ (f : FieldId). f) fs gs a.once b.once (λ f g k l. apart_within rev low middle high f g (a.between f k).1 (b.between g l).1);
  between = λ f k. elim (has-append fs gs f k) [
    | inl l ↦ (let w = a.between f l in (w.0, within_more rev low middle low high f (omega arith) q w.1))
    | inr l ↦ (let w = b.between f l in (w.0, within_more rev middle high low high f p (omega arith) w.1))
  ];
}

-- a key above another isn't empty, and is another
pub above_some : (a b : List ℕ) → slice_cmp nat_cmp a b ≡ Less → b ≢ []
above_some [] b h e = let bad : slice_cmp nat_cmp [] [] ≡ Less = ap (slice_cmp nat_cmp []) (sym e) ∙ h in cc
above_some (x ∷ a) b h e = let bad : slice_cmp nat_cmp (x ∷ a) [] ≡ Less = ap (slice_cmp nat_cmp (x ∷ a)) (sym e) ∙ h in cc

pub above_other : (a b : List ℕ) → slice_cmp nat_cmp a b ≡ Less → b ≢ a
above_other a b h e = let bad : Equal ≡ Less = sym (tied_itself nat_list_cmp_total a) ∙ ap (slice_cmp nat_cmp a) (sym e) ∙ h in cc

pub none_under : (rev : Rev) (owner : ℕ) (before : List ℕ) (low high : ℕ) → AreUnder rev owner before low high []
none_under rev owner before low high = record { once = tt; under = λ f h. absurd h }

-- one register more under a higher key, and those below its occupant, before those under still higher keys
pub under_more : (rev : Rev) (owner low middle high : ℕ) (before key : List ℕ) (f : FieldId) (fs gs : List FieldId) → owner < low → low ≤ middle → middle ≤ high
    → f ≡ record { node = node_named rev owner; key = record { 0 = key } } → slice_cmp nat_cmp before key ≡ Less
    → AreBetween rev low middle fs → AreUnder rev owner key middle high gs → AreUnder rev owner before low high (f ∷ (fs ++ gs))
under_more rev owner low middle high before key f fs gs less p q is rises a b = record { once = (has-all (λ g. g ≢ f) (fs ++ gs) other, distinct-append (λ (f : FieldId). f) fs gs a.once b.once apart); under = under }
  where
    own_key : f.key.0 ≡ key
    own_key = ap (λ (g : FieldId). g.key.0) is

    own_node : f.node ≡ node_named rev owner
    own_node = ap (λ (g : FieldId). g.node) is

    not_own : (g : FieldId) (l h : ℕ) → owner < l → IsWithin rev l h g → g.node ≡ node_named rev owner → ⊥
    not_own g l h past w e = let same : w.0 ≡ owner = same_number rev w.0 owner (sym w.3 ∙ e) in omega (arith, w.1)

    other_under : (g : FieldId) → IsUnder rev owner key middle high g → g ≢ f
    other_under g u e = elim u.1 [
      | inl own ↦ above_other key g.key.0 own.1 (ap (λ (h : FieldId). h.key.0) e ∙ own_key)
      | inr w ↦ not_own g middle high (omega arith) w (ap (λ (h : FieldId). h.node) e ∙ own_node)
    ]

    other : (g : FieldId) → Has (fs ++ gs) g → g ≢ f
    other g k e = elim (has-append fs gs g k) [
      | inl l ↦ not_own g low middle less (a.between g l).1 (ap (λ (h : FieldId). h.node) e ∙ own_node)
      | inr l ↦ other_under g (b.under g l) e
    ]

    apart_under : (g h : FieldId) → IsWithin rev low middle g → IsUnder rev owner key middle high h → h ≢ g
    apart_under g h w u e = elim u.1 [
      | inl own ↦ not_own g low middle less w (ap (λ (x : FieldId). x.node) (sym e) ∙ own.0)
      | inr v ↦ apart_within rev low middle high g h w v e
    ]

    apart : (g h : FieldId) → Has fs g → Has gs h → h ≢ g
    apart g h k l = apart_under g h (a.between g k).1 (b.under h l)

    wider : (g : FieldId) → IsUnder rev owner key middle high g → IsUnder rev owner before low high g
    wider g u = elim u.1 [
      | inl own ↦ (u.0, inl (own.0, nat_list_cmp_total.trans before key g.key.0 rises own.1))
      | inr w ↦ (u.0, inr (within_more rev middle high low high g p (omega arith) w))
    ]

    under : (g : FieldId) → Has (f ∷ (fs ++ gs)) g → IsUnder rev owner before low high g
    under g (inl e) = (
      λ none. above_some before key rises (sym own_key ∙ ap (λ (h : FieldId). h.key.0) e ∙ none),
      inl (ap (λ (h : FieldId). h.node) (sym e) ∙ own_node, ap (λ k. slice_cmp nat_cmp before k) (ap (λ (h : FieldId). h.key.0) (sym e) ∙ own_key) ∙ rises),
    )
    under g (inr k) = elim (has-append fs gs g k) [
      | inl l ↦ (let w = a.between g l in (w.0, inr (within_more rev low middle low high g (omega arith) q w.1)))
      | inr l ↦ wider g (b.under g l)
    ]

pub from_under : (rev : Rev) (owner high : ℕ) (fs : List FieldId) → owner + 1 ≤ high → AreUnder rev owner [] (owner + 1) high fs → AreBetween rev owner high fs
from_under rev owner high fs le u = record {
  once = u.once;
  between = λ f h. (let g = u.under f h in (
    g.0,
    elim g.1 [ inl own ↦ (owner, omega arith, omega arith, own.0) | inr v ↦ within_more rev (owner + 1) high owner high f (omega arith) (omega arith) v ],
  ));
}

-- what stands below a node, from what its fields are
pub tree_regs : (rev : Rev) (n c high : ℕ) (leaf : Option Leaf) (fields : Fields) → n + 1 + field_count fields ≤ high → fields_fit_leaf leaf fields ≡ true
    → (keys_rise [] fields ≡ true → AreUnder rev n [] (n + 1) high (registers (fields_listed rev n (n + 1) c fields)))
    → (is_row_alone fields ≡ true → AreBetween rev (n + 1) high (registers (fields_listed rev n (n + 1) c fields)))
    → AreBetween rev n high (registers (fields_listed rev n (n + 1) c fields))
tree_regs rev n c high (Some v) no_fields le fit keys rowed = none_between rev n high
tree_regs rev n c high (Some v) (field key row items rest) le fit keys rowed = absurd (cc)
tree_regs rev n c high None fields le fit keys rowed = go (is_row_alone fields) refl fit
  where
    go : (b : Bool) → is_row_alone fields ≡ b → (b || keys_rise [] fields) ≡ true → AreBetween rev n high (registers (fields_listed rev n (n + 1) c fields))
    go true e f = between_more rev (n + 1) high n high (registers (fields_listed rev n (n + 1) c fields)) (omega arith) (omega arith) (rowed e)
    go false e f = from_under rev n high (registers (fields_listed rev n (n + 1) c fields)) (omega arith) (keys f)

mutual
  pub fields_under : (rev : Rev) (owner n c high : ℕ) (before : List ℕ) (fs : Fields) → owner < n → n + field_count fs ≤ high → keys_rise before fs ≡ true → fields_have_form fs ≡ true
      → AreUnder rev owner before n high (registers (fields_listed rev owner n c fs))
  fields_under rev owner n c high before no_fields less le rises form = none_under rev owner before n high
  fields_under rev owner n c high before (field key true items rest) less le rises form = absurd (cc)
  fields_under rev owner n c high before (field key false no_nodes rest) less le rises form = absurd (cc)
  fields_under rev owner n c high before (field key false (first t (first u ts)) rest) less le rises form = absurd (cc)
  fields_under rev owner n c high before (field key false (first (node ty leaf fields) no_nodes) rest) less le rises form =
      let m = n + item_count (first (node ty leaf fields) no_nodes) in
      let d = c + item_cells false (first (node ty leaf fields) no_nodes) in
      let below = fields_listed rev n (n + 1) (c + 0) fields in
      let later = fields_listed rev owner m d rest in
      let up = and-true _ _ rises in
      let forms = and-true _ _ form in
      let own = and-true _ _ (and-true _ _ forms.0).0 in
      let split : registers ((below ++ []) ++ later) ≡ registers below ++ registers later = filter_map-append (λ (x : FlatNode). register_at x.at) (below ++ []) later ∙ ap (λ xs. registers xs ++ registers later) (append-nil below) in
      subst (AreUnder rev owner before n high) (ap (λ fs. record { node = node_named rev owner; key = record { 0 = key } } ∷ fs) (sym split))
      (under_more rev owner n m high before key (record { node = node_named rev owner; key = record { 0 = key } }) (registers below) (registers later) less (omega arith) (omega arith) refl (is_lt-Less _ up.0)
      (tree_regs rev n (c + 0) m leaf fields (omega arith) own.0
      (λ keys. fields_under rev n (n + 1) (c + 0) m [] fields (omega arith) (omega arith) keys own.1)
      (λ alone. row_regs rev n (n + 1) (c + 0) m fields (omega arith) alone own.1))
      (fields_under rev owner m d high key rest (omega arith) (omega arith) up.1 forms.1))

  pub row_regs : (rev : Rev) (owner n c high : ℕ) (fs : Fields) → n + field_count fs ≤ high → is_row_alone fs ≡ true → fields_have_form fs ≡ true → AreBetween rev n high (registers (fields_listed rev owner n c fs))
  row_regs rev owner n c high no_fields le alone form = absurd (cc)
  row_regs rev owner n c high (field key false items no_fields) le alone form = absurd (cc)
  row_regs rev owner n c high (field key row items (field key' row' items' rest)) le alone form = absurd (cc)
  row_regs rev owner n c high (field key true items no_fields) le alone form =
      rw append-nil (items_regs rev owner key n c high items (omega arith) (and-true _ _ form).0)

  pub items_regs : (rev : Rev) (owner : ℕ) (key : List ℕ) (n c high : ℕ) (ts : Nodes) → n + item_count ts ≤ high → all_have_form ts ≡ true → AreBetween rev n high (registers (items_listed rev owner key true n c ts))
  items_regs rev owner key n c high no_nodes le form = none_between rev n high
  items_regs rev owner key n c high (first (node ty leaf fields) ts) le form =
      let m = n + node_count (node ty leaf fields) in
      let d = c + (1 + field_cells fields) in
      let below = fields_listed rev n (n + 1) (c + 1) fields in
      let later = items_listed rev owner key true m d ts in
      let forms = and-true _ _ form in
      let own = and-true _ _ forms.0 in
      subst (AreBetween rev n high) (sym (filter_map-append (λ (x : FlatNode). register_at x.at) below later))
      (between_append rev n m high (registers below) (registers later) (omega arith) (omega arith)
      (tree_regs rev n (c + 1) m leaf fields (omega arith) own.0
      (λ keys. fields_under rev n (n + 1) (c + 1) m [] fields (omega arith) (omega arith) keys own.1)
      (λ alone. row_regs rev n (n + 1) (c + 1) m fields (omega arith) alone own.1))
      (items_regs rev owner key m d high ts (omega arith) forms.1))
