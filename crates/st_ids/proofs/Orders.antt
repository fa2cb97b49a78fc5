-- The orders of names are total, and names that tie are one. A rising listing is what it has at each name.
use Rattle.std.proofs.Common.{◌≡◌, true, List, [], ◌∷◌, map, refl, sym, ap, ◌∙◌, subst, ℕ}
use lib.Dec.{T}
use Rattle.std.specs.declared.cmp.Ordering.{Ordering}
use Rattle.std.specs.declared.cmp.Ordering.TheVariants.{Less, Equal, Greater}
use Rattle.std.specs.Ordering.{nat_cmp, ordering_then, is_eq, ordering_reverse}
use Rattle.std.specs.Cmp.{IsTotalOrder, nat_cmp_total}
use Rattle.std.specs.Cmp.Lexicographic.{nat_list_cmp_total, pointwise, bytes_decides}
use Rattle.std.specs.FinMap.Entries.{same_entries}
use Rattle.std.proofs.lemmas.Cmp.{on_total, then_total}
use Rattle.std.proofs.lemmas.Map.Lookups.{CmpEqualImpliesEq, exact_unsigned, exact_bytes}
use Rattle.st_ids.specs.declared.names.Rev.{Rev}
use Rattle.st_ids.specs.declared.names.Atom.{Atom}
use Rattle.st_ids.specs.declared.names.NodeId.{NodeId}
use Rattle.st_ids.specs.declared.names.CellId.{CellId}
use Rattle.st_ids.specs.declared.names.FieldId.{FieldId}
use Rattle.st_ids.specs.Order.{same_rev, rev_cmp, atom_cmp, node_cmp, cell_cmp, field_cmp, same_node, same_cell, same_field}
use Rattle.st_ids.specs.Listing.{key_pairs, IsRising, item_of}
use Rattle.std.specs.Prelude.{nat_eq}

-- two orders one after the other tie only where both do
then_equal : (a b : Ordering) → ordering_then a b ≡ Equal → (a ≡ Equal) × (b ≡ Equal)
then_equal Less b e = (cc, cc)
then_equal Equal b e = (refl, e)
then_equal Greater b e = (cc, cc)

pub rev_cmp_exact : CmpEqualImpliesEq rev_cmp
rev_cmp_exact a b e =
    let h = then_equal _ _ e in
    let s = exact_unsigned a.session b.session h.0 in
    let n = exact_unsigned a.num b.num h.1 in
    λ i. record { session = s i; num = n i }

pub atom_cmp_exact : CmpEqualImpliesEq atom_cmp
atom_cmp_exact a b e =
    let h = then_equal _ _ e in
    let r = rev_cmp_exact a.rev b.rev h.0 in
    let n = exact_unsigned a.at b.at h.1 in
    λ i. record { rev = r i; at = n i }

pub node_cmp_exact : CmpEqualImpliesEq node_cmp
node_cmp_exact a b e = let h = atom_cmp_exact a.0 b.0 e in λ i. record { 0 = h i }

pub cell_cmp_exact : CmpEqualImpliesEq cell_cmp
cell_cmp_exact a b e = let h = atom_cmp_exact a.0 b.0 e in λ i. record { 0 = h i }

pub field_cmp_exact : CmpEqualImpliesEq field_cmp
field_cmp_exact a b e =
    let h = then_equal _ _ e in
    let n = node_cmp_exact a.node b.node h.0 in
    let k = exact_bytes a.key.0 b.key.0 h.1 in
    λ i. record { node = n i; key = record { 0 = k i } }

pub rev_cmp_total : IsTotalOrder rev_cmp
rev_cmp_total = then_total (on_total (λ (r : Rev). r.session) nat_cmp_total) (on_total (λ (r : Rev). r.num) nat_cmp_total)

pub atom_cmp_total : IsTotalOrder atom_cmp
atom_cmp_total = then_total (on_total (λ (a : Atom). a.rev) rev_cmp_total) (on_total (λ (a : Atom). a.at) nat_cmp_total)

pub node_cmp_total : IsTotalOrder node_cmp
node_cmp_total = on_total (λ (n : NodeId). n.0) atom_cmp_total

pub cell_cmp_total : IsTotalOrder cell_cmp
cell_cmp_total = on_total (λ (c : CellId). c.0) atom_cmp_total

pub field_cmp_total : IsTotalOrder field_cmp
field_cmp_total = then_total (on_total (λ (f : FieldId). f.node) node_cmp_total) (on_total (λ (f : FieldId). f.key.0) nat_list_cmp_total)

pub is_eq_equal : (o : Ordering) → is_eq o ≡ true → o ≡ Equal
is_eq_equal Less e = cc
is_eq_equal Equal e = refl
is_eq_equal Greater e = cc

pub self_reverse : (o : Ordering) → o ≡ ordering_reverse o → is_eq o ≡ true
self_reverse Less e = cc
self_reverse Equal e = refl
self_reverse Greater e = cc

itself : (o : Ordering) → o ≡ Equal → is_eq o ≡ true
itself o e = ap is_eq e

module _ {K : Type 0} {R : K → K → Ordering} (t : IsTotalOrder R) where
  tied : (x : K) → R x x ≡ Equal
  tied x = self (R x x) (t.antisymm x x)
    where
      self : (o : Ordering) → o ≡ Rattle.std.specs.Ordering.ordering_reverse o → o ≡ Equal
      self Less e = cc
      self Equal e = refl
      self Greater e = cc

pub same_rev-true : (a b : Rev) → same_rev a b ≡ true → a ≡ b
unfolding same_rev
same_rev-true a b e = rev_cmp_exact a b (is_eq_equal _ e)

pub same_rev-itself : (a : Rev) → same_rev a a ≡ true
unfolding same_rev
same_rev-itself a = itself _ (tied rev_cmp_total a)

pub same_node-true : (a b : NodeId) → same_node a b ≡ true → a ≡ b
unfolding same_node
same_node-true a b e = node_cmp_exact a b (is_eq_equal _ e)

pub same_node-itself : (a : NodeId) → same_node a a ≡ true
unfolding same_node
same_node-itself a = itself _ (tied node_cmp_total a)

pub same_cell-true : (a b : CellId) → same_cell a b ≡ true → a ≡ b
unfolding same_cell
same_cell-true a b e = cell_cmp_exact a b (is_eq_equal _ e)

pub same_cell-itself : (a : CellId) → same_cell a a ≡ true
unfolding same_cell
same_cell-itself a = itself _ (tied cell_cmp_total a)

pub same_field-true : (a b : FieldId) → same_field a b ≡ true → a ≡ b
unfolding same_field
same_field-true a b e = field_cmp_exact a b (is_eq_equal _ e)

pub same_field-itself : (a : FieldId) → same_field a a ≡ true
unfolding same_field
same_field-itself a = itself _ (tied field_cmp_total a)

-- two texts of the same bytes
pub bytes-itself : (s : List ℕ) → pointwise nat_eq s s ≡ true
bytes-itself s = (bytes_decides s s).1 refl

unkeyed : {K A : Type 0} (key : A → K) (xs : List A) → map (λ (e : K × A). e.1) (key_pairs key xs) ≡ xs
unkeyed key [] = refl
unkeyed key (x ∷ xs) = ap (λ l. x ∷ l) (unkeyed key xs)

-- two rising listings that have the same item at each name are one
pub same_listing : {K A : Type 0} {R : K → K → Ordering} → IsTotalOrder R → CmpEqualImpliesEq R → (key : A → K) (xs ys : List A) → IsRising R key xs → IsRising R key ys → ((k : K) → item_of R key xs k ≡ item_of R key ys k) → xs ≡ ys
same_listing {R = R} t same key xs ys p q e =
    sym (unkeyed key xs) ∙ ap (map (λ e. e.1)) (same_entries R t same (key_pairs key xs) (key_pairs key ys) (subst T (sym p) tt) (subst T (sym q) tt) e) ∙ unkeyed key ys
