-- What is tested is that a document extends another.
use Rattle.std.proofs.Common.{◌≡◌, ◌↔◌, ℕ, zero, suc, ◌+◌, ◌<◌, ◌≤◌, Bool, true, false, cond, ◌&&◌, nat_eq, List, [], ◌∷◌, length, drop, slice_get, Option, Some, None, IsSome, is_some, option_map, option_and_then, refl, sym, ap, ◌∙◌, subst, inl, arith}
use Rattle.std.proofs.lemmas.Bool.Decides.{nat_tests}
use Rattle.std.proofs.lemmas.Option.{slice_get_within}
use Rattle.std.specs.List.{list_all, AllByRecursion}
use Rattle.std.specs.Option.{option_map_or}
use Rattle.std.specs.Ordering.{int_eq}
use Rattle.std.specs.Bool.{beq}
use Rattle.std.specs.Cmp.{booleans_Decides, signed_Decides}
use Rattle.std.specs.Cmp.Lexicographic.{bytes_decides}
use Rattle.st_ids.specs.Listing.{Has}
use Rattle.st_ids.specs.Order.{same_cell, same_node, same_rev}
use Rattle.st_ids.specs.declared.names.Leaf.{Leaf}
use Rattle.st_ids.specs.declared.names.NodeId.{NodeId}
use Rattle.st_ids.proofs.Orders.{same_cell-true, same_cell-itself, same_node-true, same_node-itself, same_rev-true, same_rev-itself}
use Rattle.st_intent.proofs.Tells.{Tells, tells_all, tells_as, tells_both}
use Rattle.st_lemmas.proofs.Bools.{true-false}
use Rattle.st_marks.specs.declared.intents.Owned.{Owned}
use Rattle.st_marks.specs.declared.schemas.SchemaEntry.{SchemaEntry}
use Rattle.st_marks.specs.Document.{Document, IsSoundInForm, NodeType, first_of}
use Rattle.st_marks.specs.Extends.{IsExtendedBy, no_more, item_gained, item_kept}
use Rattle.st_marks.specs.Intent.{same_option}
use Rattle.st_marks.proofs.Members.{all-has, has-all}
use Rattle.st_marks.proofs.NewRows.{KeepsOrder}
use Rattle.st_later.specs.inside.Extending.{begin_alike, is_sublist, keeps_node, leaf_of, next_after, same_entry, same_owned, same_text, same_value, type_of}

-- ## Values

text_told : (s t : List ℕ) → Tells (same_text s t) (s ≡ t)
text_told s t = bytes_decides s t

value_told : (a b : Leaf) → Tells (same_value a b) (a ≡ b)
value_told Leaf.Null Leaf.Null = (λ e. refl, λ e. refl)
value_told Leaf.Null (Leaf.Bool b) = (λ e. cc, λ e. cc)
value_told Leaf.Null (Leaf.Int j) = (λ e. cc, λ e. cc)
value_told Leaf.Null (Leaf.Words u) = (λ e. cc, λ e. cc)
value_told (Leaf.Bool a) Leaf.Null = (λ e. cc, λ e. cc)
value_told (Leaf.Bool a) (Leaf.Bool b) = tells_as (beq a b) (a ≡ b) (Leaf.Bool a ≡ Leaf.Bool b) (ap Leaf.Bool) (λ e. cc) (booleans_Decides a b)
value_told (Leaf.Bool a) (Leaf.Int j) = (λ e. cc, λ e. cc)
value_told (Leaf.Bool a) (Leaf.Words u) = (λ e. cc, λ e. cc)
value_told (Leaf.Int i) Leaf.Null = (λ e. cc, λ e. cc)
value_told (Leaf.Int i) (Leaf.Bool b) = (λ e. cc, λ e. cc)
value_told (Leaf.Int i) (Leaf.Int j) = tells_as (int_eq i j) (i ≡ j) (Leaf.Int i ≡ Leaf.Int j) (ap Leaf.Int) (λ e. cc) (signed_Decides i j)
value_told (Leaf.Int i) (Leaf.Words u) = (λ e. cc, λ e. cc)
value_told (Leaf.Words t) Leaf.Null = (λ e. cc, λ e. cc)
value_told (Leaf.Words t) (Leaf.Bool b) = (λ e. cc, λ e. cc)
value_told (Leaf.Words t) (Leaf.Int j) = (λ e. cc, λ e. cc)
value_told (Leaf.Words t) (Leaf.Words u) = tells_as (same_text t u) (t ≡ u) (Leaf.Words t ≡ Leaf.Words u) (ap Leaf.Words) (λ e. cc) (text_told t u)

option_told : {A : Type 0} (same : A → A → Bool) → ((x y : A) → Tells (same x y) (x ≡ y)) → (a b : Option A) → Tells (same_option same a b) (a ≡ b)
option_told same h None None = (λ e. refl, λ e. refl)
option_told same h None (Some y) = (λ e. cc, λ e. cc)
option_told same h (Some x) None = (λ e. cc, λ e. cc)
option_told same h (Some x) (Some y) = tells_as (same x y) (x ≡ y) (Some x ≡ Some y) (ap Some) (λ e. cc) (h x y)

owned_told : (a b : Owned) → Tells (same_owned a b) (a ≡ b)
owned_told a b = tells_as (same_owned a b) ((a.cell ≡ b.cell) × (a.node ≡ b.node)) (a ≡ b) (λ e i. record { cell = e.0 i; node = e.1 i }) (λ e. (ap (λ (o : Owned). o.cell) e, ap (λ (o : Owned). o.node) e))
    (tells_both (same_cell a.cell b.cell) (same_node a.node b.node) (a.cell ≡ b.cell) (a.node ≡ b.node)
    (same_cell-true a.cell b.cell, λ e. subst (λ c. same_cell a.cell c ≡ true) e (same_cell-itself a.cell))
    (same_node-true a.node b.node, λ e. subst (λ n. same_node a.node n ≡ true) e (same_node-itself a.node)))

entry_told : (a b : SchemaEntry) → Tells (same_entry a b) (a ≡ b)
entry_told a b = tells_as (same_entry a b) ((a.rev ≡ b.rev) × (a.text ≡ b.text)) (a ≡ b) (λ e i. record { rev = e.0 i; text = e.1 i }) (λ e. (ap (λ (o : SchemaEntry). o.rev) e, ap (λ (o : SchemaEntry). o.text) e))
    (tells_both (same_rev a.rev b.rev) (same_text a.text b.text) (a.rev ≡ b.rev) (a.text ≡ b.text)
    (same_rev-true a.rev b.rev, λ e. subst (λ r. same_rev a.rev r ≡ true) e (same_rev-itself a.rev))
    (text_told a.text b.text))

-- ## Rows

without_first : {x : Owned} {xs ys : List Owned} → KeepsOrder (x ∷ xs) ys → KeepsOrder xs ys
without_first (item_gained g) = item_gained (without_first g)
without_first (item_kept e g) = item_gained g

all_gained : (ys : List Owned) → KeepsOrder [] ys
all_gained [] = no_more
all_gained (y ∷ ys) = item_gained (all_gained ys)

keeps-sublist : (xs ys : List Owned) → KeepsOrder xs ys → is_sublist xs ys ≡ true
keeps-sublist [] ys g = refl
keeps-sublist (x ∷ xs) [] g = elim g [ ]
keeps-sublist (x ∷ xs) (y ∷ ys) (item_gained g) = either (same_owned x y) (is_sublist xs ys) (is_sublist (x ∷ xs) ys) (keeps-sublist xs ys (without_first g)) (keeps-sublist (x ∷ xs) ys g)
  where
    either : (b p q : Bool) → p ≡ true → q ≡ true → cond b p q ≡ true
    either true p q e f = e
    either false p q e f = f
keeps-sublist (x ∷ xs) (y ∷ ys) (item_kept e g) = ap (λ b. cond b (is_sublist xs ys) (is_sublist (x ∷ xs) ys)) ((owned_told x y).1 e) ∙ keeps-sublist xs ys g

sublist-keeps : (xs ys : List Owned) → is_sublist xs ys ≡ true → KeepsOrder xs ys
sublist-keeps [] ys e = all_gained ys
sublist-keeps (x ∷ xs) [] e = cc
sublist-keeps (x ∷ xs) (y ∷ ys) e = go (same_owned x y) refl e (λ f. sublist-keeps xs ys f) (λ f. sublist-keeps (x ∷ xs) ys f)
  where
    go : (b : Bool) → same_owned x y ≡ b → cond b (is_sublist xs ys) (is_sublist (x ∷ xs) ys) ≡ true → (is_sublist xs ys ≡ true → KeepsOrder xs ys) → (is_sublist (x ∷ xs) ys ≡ true → KeepsOrder (x ∷ xs) ys)
        → KeepsOrder (x ∷ xs) (y ∷ ys)
    go true q e kept gained = item_kept ((owned_told x y).0 q) (kept e)
    go false q e kept gained = item_gained (gained e)

row_told : (xs ys : List Owned) → Tells (is_sublist xs ys) (KeepsOrder xs ys)
row_told xs ys = (sublist-keeps xs ys, keeps-sublist xs ys)

-- ## The walk along both rows

-- one more of the longer row was looked at
pub one_looked_at : (xs ys : List Owned) (next : ℕ) (y : Owned) → is_sublist (drop (next_after xs next y) xs) ys ≡ is_sublist (drop next xs) (y ∷ ys)
one_looked_at [] ys zero y = refl
one_looked_at [] ys (suc next) y = refl
one_looked_at (x ∷ xs) ys zero y = go (same_owned x y)
  where
    go : (b : Bool) → is_sublist (drop (cond b (0 + 1) 0) (x ∷ xs)) ys ≡ cond b (is_sublist xs ys) (is_sublist (x ∷ xs) ys)
    go true = refl
    go false = refl
one_looked_at (x ∷ xs) ys (suc next) y = ap (λ l. is_sublist l ys) (go (option_map_or (λ x. same_owned x y) (slice_get xs next) false)) ∙ one_looked_at xs ys next y
  where
    go : (b : Bool) → drop (cond b (suc next + 1) (suc next)) (x ∷ xs) ≡ drop (cond b (next + 1) next) xs
    go true = let q : suc next + 1 ≡ suc (next + 1) = omega arith in ap (λ n. drop n (x ∷ xs)) q
    go false = refl

-- the walk is at its end
pub all_looked_at : (xs : List Owned) (next : ℕ) → next ≤ length xs → nat_eq next (length xs) ≡ is_sublist (drop next xs) []
all_looked_at [] zero l = grind (arith, nat_tests)
all_looked_at [] (suc next) l = absurd (omega (arith, l))
all_looked_at (x ∷ xs) zero l = grind (arith, nat_tests)
all_looked_at (x ∷ xs) (suc next) l = let q : nat_eq (suc next) (length (x ∷ xs)) ≡ nat_eq next (length xs) = grind (arith, nat_tests) in q ∙ all_looked_at xs next (omega (arith, l))

-- the next place stays within the row
pub next_within : (xs : List Owned) (next : ℕ) (y : Owned) → next ≤ length xs → next_after xs next y ≤ length xs
next_within xs next y l = go (slice_get xs next) refl
  where
    go : (o : Option Owned) → slice_get xs next ≡ o → cond (option_map_or (λ x. same_owned x y) o false) (next + 1) next ≤ length xs
    go None e = l
    go (Some x) e = pick (same_owned x y) (slice_get_within xs next x e)
      where
        pick : (b : Bool) → next < length xs → cond b (next + 1) next ≤ length xs
        pick true w = omega (arith, w)
        pick false w = l

-- ## Documents

-- what is known of two documents, node by node
abbrev Keeps : Document → Document → NodeId → Type 0
Keeps D E n = (D.nodes n ≡ E.nodes n) × KeepsOrder (D.rows n) (E.rows n)

type_told : (D E : Document) (n : NodeId) → Tells (same_option same_text (type_of D n) (type_of E n) && same_option same_value (leaf_of D n) (leaf_of E n)) (D.nodes n ≡ E.nodes n)
type_told D E n = tells_as (same_option same_text (type_of D n) (type_of E n) && same_option same_value (leaf_of D n) (leaf_of E n)) ((type_of D n ≡ type_of E n) × (leaf_of D n ≡ leaf_of E n)) (D.nodes n ≡ E.nodes n)
    (λ e. both (D.nodes n) (E.nodes n) e.0 e.1)
    (λ e. (ap (option_map (λ (t : NodeType). t.ty)) e, ap (option_and_then (λ (t : NodeType). t.leaf)) e))
    (tells_both (same_option same_text (type_of D n) (type_of E n)) (same_option same_value (leaf_of D n) (leaf_of E n)) (type_of D n ≡ type_of E n) (leaf_of D n ≡ leaf_of E n)
    (option_told same_text text_told (type_of D n) (type_of E n)) (option_told same_value value_told (leaf_of D n) (leaf_of E n)))
  where
    both : (a b : Option NodeType) → option_map (λ (t : NodeType). t.ty) a ≡ option_map (λ (t : NodeType). t.ty) b → option_and_then (λ (t : NodeType). t.leaf) a ≡ option_and_then (λ (t : NodeType). t.leaf) b → a ≡ b
    both None None e f = refl
    both None (Some u) e f = cc
    both (Some t) None e f = cc
    both (Some t) (Some u) e f = let q : t.ty ≡ u.ty = cc in λ i. Some (record { ty = q i; leaf = f i })

keeps_told : (D E : Document) (n : NodeId) → Tells (keeps_node D E n) (Keeps D E n)
keeps_told D E n = tells_both (same_option same_text (type_of D n) (type_of E n) && same_option same_value (leaf_of D n) (leaf_of E n)) (is_sublist (D.rows n) (E.rows n)) (D.nodes n ≡ E.nodes n) (KeepsOrder (D.rows n) (E.rows n))
    (type_told D E n) (row_told (D.rows n) (E.rows n))

module _ (D E : Document) (s : IsSoundInForm D) (t : IsSoundInForm E) (ns : List NodeId) (all : (n : NodeId) → Has ns n ↔ IsSome (D.nodes n)) where
  -- a node that isn't there has no cells
  no_cells : (n : NodeId) → (Has ns n → ⊥) → (os : List Owned) → D.rows n ≡ os → os ≡ []
  no_cells n out [] e = refl
  no_cells n out (o ∷ os) e = absurd (out ((all n).1 (s.cells_known n o (subst (λ l. Has l o) (sym e) (inl refl))).0))

  rows_keep : (n : NodeId) → (b : Bool) → is_some (D.nodes n) ≡ b → AllByRecursion (Keeps D E) ns → KeepsOrder (D.rows n) (E.rows n)
  rows_keep n true e a = (all-has (Keeps D E) ns n a ((all n).1 e)).1
  rows_keep n false e a = subst (λ l. KeepsOrder l (E.rows n)) (sym (no_cells n (λ h. true-false ((all n).0 h) e) (D.rows n) refl)) (all_gained (E.rows n))

  extends : (first_of D.schemas ≡ first_of E.schemas) × AllByRecursion (Keeps D E) ns → IsExtendedBy D E
  extends k = record {
    before = s;
    after = t;
    nodes = λ n u e. sym (all-has (Keeps D E) ns n k.1 ((all n).1 (ap is_some e))).0 ∙ e;
    rows = λ n. rows_keep n (is_some (D.nodes n)) refl k.1;
    first_schema = k.0;
  }

  kept : IsExtendedBy D E → (first_of D.schemas ≡ first_of E.schemas) × AllByRecursion (Keeps D E) ns
  kept x = (x.first_schema, has-all (Keeps D E) ns (λ n h. (same n (D.nodes n) refl ((all n).0 h), x.rows n)))
    where
      same : (n : NodeId) (o : Option NodeType) → D.nodes n ≡ o → IsSome o → D.nodes n ≡ E.nodes n
      same n None e h = cc
      same n (Some u) e h = e ∙ sym (x.nodes n u e)

  pub extends_told : Tells (begin_alike D E && list_all (keeps_node D E) ns) (IsExtendedBy D E)
  extends_told = tells_as (begin_alike D E && list_all (keeps_node D E) ns) ((first_of D.schemas ≡ first_of E.schemas) × AllByRecursion (Keeps D E) ns) (IsExtendedBy D E) extends kept
      (tells_both (begin_alike D E) (list_all (keeps_node D E) ns) (first_of D.schemas ≡ first_of E.schemas) (AllByRecursion (Keeps D E) ns)
      (option_told same_entry entry_told (first_of D.schemas) (first_of E.schemas)) (tells_all (keeps_node D E) (Keeps D E) (keeps_told D E) ns))
