-- What isn't not so is so, where it is decided.
use Rattle.std.proofs.Common.{◌≡◌, ◌⊎◌, ℕ, zero, suc, Bool, true, false, List, [], ◌∷◌, Option, Some, None, refl, sym, ap, subst, inl, inr, arith}
use Rattle.std.specs.List.{AllZip}
use Rattle.st_ids.specs.Order.{same_cell, same_field, same_node}
use Rattle.st_ids.proofs.Orders.{same_cell-itself, same_cell-true, same_field-itself, same_field-true, same_node-itself, same_node-true}
use Rattle.st_ids.specs.declared.names.CellId.{CellId}
use Rattle.st_ids.specs.declared.names.FieldId.{FieldId}
use Rattle.st_ids.specs.declared.names.NodeId.{NodeId}
use Rattle.st_lemmas.proofs.Bools.{true-false}
use Rattle.st_lemmas.proofs.Options.{one_some}
use Rattle.st_marks.specs.declared.places.Spot.{Spot}
use Rattle.st_marks.specs.Agree.{IsSameView, SameIfBoth}
use Rattle.st_marks.specs.Listings.{CellView}

-- it is so, or it isn't
abbrev pub Decided : Type 0 → Type 0
Decided A = A ⊎ (A → ⊥)

pub stable : (A : Type 0) → Decided A → ((A → ⊥) → ⊥) → A
stable A (inl a) n = a
stable A (inr b) n = absurd (n b)

-- ## Names and numbers

pub by_test : {A : Type 0} (same : A → A → Bool) → ((a b : A) → same a b ≡ true → a ≡ b) → ((a : A) → same a a ≡ true) → (a b : A) → Decided (a ≡ b)
by_test same told itself a b = go (same a b) refl
  where
    go : (z : Bool) → same a b ≡ z → Decided (a ≡ b)
    go true e = inl (told a b e)
    go false e = inr (λ q. true-false (subst (λ c. same a c ≡ true) q (itself a)) e)

pub nodes : (a b : NodeId) → Decided (a ≡ b)
nodes a b = by_test same_node same_node-true same_node-itself a b

pub cells : (a b : CellId) → Decided (a ≡ b)
cells a b = by_test same_cell same_cell-true same_cell-itself a b

pub fields : (a b : FieldId) → Decided (a ≡ b)
fields a b = by_test same_field same_field-true same_field-itself a b

pub numbers : (k l : ℕ) → Decided (k ≡ l)
numbers zero zero = inl refl
numbers zero (suc l) = inr (λ e. omega (arith, e))
numbers (suc k) zero = inr (λ e. omega (arith, e))
numbers (suc k) (suc l) = elim (numbers k l) [ inl e ↦ inl (ap suc e) | inr d ↦ inr (λ e. d (omega (arith, e))) ]

-- ## Options

none-some : {A : Type 0} (a : A) → ◌≡◌ {A = Option A} None (Some a) → ⊥
none-some a e = cc

pub options : {A : Type 0} → ((a b : A) → Decided (a ≡ b)) → (o p : Option A) → Decided (o ≡ p)
options d None None = inl refl
options d None (Some b) = inr (λ e. none-some b e)
options d (Some a) None = inr (λ e. none-some a (sym e))
options d (Some a) (Some b) = elim (d a b) [ inl e ↦ inl (ap (λ x. Some x) e) | inr n ↦ inr (λ e. n (one_some a b e)) ]

both_options : {A : Type 0} → ((a b : A) → Decided (a ≡ b)) → (o p : Option A) → Decided (SameIfBoth o p)
both_options d None p = inl tt
both_options d (Some a) None = inl tt
both_options d (Some a) (Some b) = d a b

-- ## Places

pub spots : (s t : Spot) → Decided (s ≡ t)
spots Spot.Nowhere Spot.Nowhere = inl refl
spots Spot.Nowhere (Spot.Row m d) = inr (λ e. cc)
spots Spot.Nowhere (Spot.Register g) = inr (λ e. cc)
spots (Spot.Row n c) Spot.Nowhere = inr (λ e. cc)
spots (Spot.Row n c) (Spot.Register g) = inr (λ e. cc)
spots (Spot.Register f) Spot.Nowhere = inr (λ e. cc)
spots (Spot.Register f) (Spot.Row m d) = inr (λ e. cc)
spots (Spot.Register f) (Spot.Register g) = elim (fields f g) [ inl e ↦ inl (ap (λ f. Spot.Register f) e) | inr n ↦ inr (λ q. n (one_register f g q)) ]
  where
    one_register : (f g : FieldId) → Spot.Register f ≡ Spot.Register g → f ≡ g
    one_register f g q = cc
spots (Spot.Row n c) (Spot.Row m d) = elim (nodes n m) [
  | inr a ↦ inr (λ q. a (row_node q))
  | inl e ↦ elim (cells c d) [ inl f ↦ inl (λ i. Spot.Row (e i) (f i)) | inr b ↦ inr (λ q. b (row_cell q)) ]
]
  where
    row_node : Spot.Row n c ≡ Spot.Row m d → n ≡ m
    row_node q = cc

    row_cell : Spot.Row n c ≡ Spot.Row m d → c ≡ d
    row_cell q = cc

-- ## Cells as two show them

booleans : (a b : Bool) → Decided (a ≡ b)
booleans true true = inl refl
booleans true false = inr (λ e. true-false refl e)
booleans false true = inr (λ e. true-false e refl)
booleans false false = inl refl

views : (x y : CellView) → Decided (IsSameView x y)
views x y = elim (booleans x.full y.full) [
  | inr n ↦ inr (λ s. n s.full)
  | inl e ↦ elim (both_options cells x.cell y.cell) [
    | inr n ↦ inr (λ s. n s.cell)
    | inl f ↦ elim (both_options nodes x.node y.node) [
      | inr n ↦ inr (λ s. n s.node)
      | inl g ↦ inl (record { full = e; cell = f; node = g })
    ]
  ]
]

pub rows_alike : (xs ys : List CellView) → Decided (AllZip IsSameView xs ys)
rows_alike [] [] = inl tt
rows_alike [] (y ∷ ys) = inr (λ h. h)
rows_alike (x ∷ xs) [] = inr (λ h. h)
rows_alike (x ∷ xs) (y ∷ ys) = elim (views x y) [
  | inr n ↦ inr (λ h. n h.0)
  | inl e ↦ elim (rows_alike xs ys) [ inr n ↦ inr (λ h. n h.1) | inl f ↦ inl (e, f) ]
]
