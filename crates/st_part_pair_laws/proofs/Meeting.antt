-- What two changes that agree as parts show doesn't differ.
use Rattle.std.proofs.Common.{◌≡◌, ◌≢◌, ℕ, Bool, true, false, List, [], ◌∷◌, Option, Some, None, IsTrue, refl, sym, ap, ◌∙◌, subst, inl, inr, ◌⊎◌}
use Rattle.std.specs.List.{AllZip}
use Rattle.st_ids.specs.Listing.{Has}
use Rattle.st_ids.specs.Order.{same_cell, same_node}
use Rattle.st_ids.proofs.Orders.{same_cell-itself, same_cell-true, same_node-itself, same_node-true}
use Rattle.st_ids.specs.declared.names.CellId.{CellId}
use Rattle.st_ids.specs.declared.names.FieldId.{FieldId}
use Rattle.st_ids.specs.declared.names.NodeId.{NodeId}
use Rattle.st_marks.specs.declared.places.Spot.{Spot}
use Rattle.st_marks.specs.declared.changes.Change.{Change}
use Rattle.st_marks.specs.Agree.{Agrees, JoinClash, IsSameView, SameIfBoth, cell_again, cell_twice, field_of, node_again, node_twice, owned_early, registers_differ, row_field, rows_differ}
use Rattle.st_marks.specs.Listings.{CellView, ListsCell, Listing, Places, cells_made, listing_after_change, listing_before_change, names_of_change, nodes_new}
use Rattle.st_normal.specs.Rules.{ObeysDataRules, in_rows}
use Rattle.st_normal.proofs.NoRings.{among_has}
use Rattle.st_lemmas.proofs.Bools.{or-left, or-right, true-false, refuted-false}
use Rattle.st_lemmas.proofs.Options.{one_some}
use Rattle.st_part_pair_laws.proofs.Marks.{none-some}
use Rattle.st_part_pair_laws.proofs.Shown.{cell-makes, found-named, left-named, made-left, makes-cell}
use Rattle.st_puts.proofs.StepPlaces.{row-register}
use Rattle.st_puts.proofs.Basics.{row-not-nowhere}
use Rattle.st_puts.proofs.StepPlaces.{same-row}

-- ## What isn't not so is so: of names, of what is seen of a cell, and of rows

abbrev pub NotNot : Type 0 → Type 0
NotNot P = (P → ⊥) → ⊥

pub full-is : (a b : Bool) → NotNot (a ≡ b) → a ≡ b
full-is true true h = refl
full-is true false h = absurd (h (λ e. cc))
full-is false true h = absurd (h (λ e. cc))
full-is false false h = refl

cell-is : (a b : CellId) → NotNot (a ≡ b) → a ≡ b
cell-is a b h = go (same_cell a b) refl
  where
    go : (c : Bool) → same_cell a b ≡ c → a ≡ b
    go true e = same_cell-true a b e
    go false e = absurd (h (λ q. true-false (ap (λ x. same_cell x b) q ∙ same_cell-itself b) e))

node-is : (a b : NodeId) → NotNot (a ≡ b) → a ≡ b
node-is a b h = go (same_node a b) refl
  where
    go : (c : Bool) → same_node a b ≡ c → a ≡ b
    go true e = same_node-true a b e
    go false e = absurd (h (λ q. true-false (ap (λ x. same_node x b) q ∙ same_node-itself b) e))

cells-are : (o p : Option CellId) → NotNot (SameIfBoth o p) → SameIfBoth o p
cells-are None p h = tt
cells-are (Some a) None h = tt
cells-are (Some a) (Some b) h = cell-is a b h

nodes-are : (o p : Option NodeId) → NotNot (SameIfBoth o p) → SameIfBoth o p
nodes-are None p h = tt
nodes-are (Some a) None h = tt
nodes-are (Some a) (Some b) h = node-is a b h

pub held-is : (o p : Option NodeId) → NotNot (o ≡ p) → o ≡ p
held-is None None h = refl
held-is None (Some b) h = absurd (h (λ e. none-some e))
held-is (Some a) None h = absurd (h (λ e. none-some (sym e)))
held-is (Some a) (Some b) h = ap (λ n. Some n) (node-is a b (λ n. h (λ e. n (one_some a b e))))

view-is : (x y : CellView) → NotNot (IsSameView x y) → IsSameView x y
view-is x y h = record {
  full = full-is x.full y.full (λ n. h (λ v. n v.full));
  cell = cells-are x.cell y.cell (λ n. h (λ v. n v.cell));
  node = nodes-are x.node y.node (λ n. h (λ v. n v.node));
}

row-is : (xs ys : List CellView) → NotNot (AllZip IsSameView xs ys) → AllZip IsSameView xs ys
row-is [] [] h = tt
row-is [] (y ∷ ys) h = absurd (h (λ z. z))
row-is (x ∷ xs) [] h = absurd (h (λ z. z))
row-is (x ∷ xs) (y ∷ ys) h = (view-is x y (λ n. h (λ z. n z.0)), row-is xs ys (λ n. h (λ z. n z.1)))

-- ## Two parts

module _ (C K : Change) (s : ObeysDataRules C) (t : ObeysDataRules K) (g : Agrees (JoinClash C K)) where
  abbrev L : Listing
  L = listing_after_change C

  abbrev M : Listing
  M = listing_before_change K

  pub rows-meet : (n : NodeId) (a b : List CellView) → L.row n ≡ Some a → M.row n ≡ Some b → AllZip IsSameView a b
  rows-meet n a b e f = row-is a b (λ bad. g (row_field n) (inl (rows_differ n a b e f bad)))

  pub registers-meet : (f : FieldId) (a b : Option NodeId) → L.register f ≡ Some a → M.register f ≡ Some b → a ≡ b
  registers-meet f a b e h = held-is a b (λ bad. g f (inl (registers_differ f a b e h bad)))

  -- a cell that the first leaves and the second finds is at one place
  pub cells-meet : (c : CellId) (n m : NodeId) (k l : ℕ) (o p : Option NodeId) → ListsCell L c n k o → ListsCell M c m l p → ((n ≡ m) × (k ≡ l) → ⊥) → ⊥
  cells-meet c n m k l o p a b bad = g (row_field n) (inl (cell_twice c n m k l o p a b (λ h. bad (h.0, h.1)) n (or-left _ ((names_of_change K).names_cell n c) (left-named C s c n k o a))))

  -- so is a node
  pub nodes-meet : (n : NodeId) (x y : Spot) → Places L n x → Places M n y → x ≢ y → ⊥
  nodes-meet n x y a b bad = go x y a b bad
    where
      at : (x y : Spot) → Places L n x → Places M n y → x ≢ y → (f : FieldId) → (field_of x ≡ Some f) ⊎ (field_of y ≡ Some f) → ⊥
      at x y a b bad f h = g f (inl (node_twice n x y a b bad f h))

      go : (x y : Spot) → Places L n x → Places M n y → x ≢ y → ⊥
      go (Spot.Row q c) y a b bad = at (Spot.Row q c) y a b bad (row_field q) (inl refl)
      go (Spot.Register f) y a b bad = at (Spot.Register f) y a b bad f (inl refl)
      go Spot.Nowhere (Spot.Row q c) a b bad = at Spot.Nowhere (Spot.Row q c) a b bad (row_field q) (inr refl)
      go Spot.Nowhere (Spot.Register f) a b bad = at Spot.Nowhere (Spot.Register f) a b bad f (inr refl)
      go Spot.Nowhere Spot.Nowhere a b bad = bad refl

  -- the second makes no node that the first names, and no cell
  pub node-fresh : (n : NodeId) → Has (nodes_new K.new) n → IsTrue ((names_of_change C).names_node n) → ⊥
  node-fresh n h named = g (row_field n) (inr (inl (node_again n ((among_has (nodes_new K.new) n).1 h) named)))

  pub cell-fresh : (c : CellId) (q : NodeId) → Has (in_rows cells_made K.rows) c → IsTrue ((names_of_change C).names_cell q c) → ⊥
  cell-fresh c q h named = g (row_field q) (inr (inl (cell_again c q q (makes-cell K t c h) named (or-left _ ((names_of_change K).names_cell q c) named))))

  -- a cell that the second finds, of an owner that the first makes, is one that the first makes
  pub owner-late : (c : CellId) (n q : NodeId) (k : ℕ) → ListsCell M c q k (Some n) → Has (nodes_new C.new) n → (Has (in_rows cells_made C.rows) c → ⊥) → ⊥
  owner-late c n q k l h unmade = g (row_field q) (inr (inr (inl (owned_early c n q q k l ((among_has (nodes_new C.new) n).1 h)
      (refuted-false ((names_of_change C).makes_cell c) (λ e. unmade (cell-makes C s c e)))
      (or-right ((names_of_change C).names_cell q c) _ (found-named K t c q k (Some n) l))))))

  -- ## Where the first leaves something open

  -- the first tells no owner of the cell at that place of a row
  abbrev pub IsUnowned : NodeId → ℕ → Type 0
  IsUnowned n k = (c : CellId) (o : NodeId) → ListsCell L c n k (Some o) → ⊥

  -- nor names it
  abbrev pub IsUnnamed : NodeId → ℕ → Type 0
  IsUnnamed n k = (c : CellId) (o : Option NodeId) → ListsCell L c n k o → ⊥

  -- who owns a cell of which the first tells no owner isn't made by it
  pub owner-old : (c : CellId) (n q : NodeId) (k : ℕ) → ListsCell M c q k (Some n) → IsUnowned q k → Has (nodes_new C.new) n → ⊥
  owner-old c n q k l free h = owner-late c n q k l h (λ made.
      let w = made-left C s c made in
      cells-meet c w.0 q w.1 k (Some w.2) (Some n) w.3 l (λ same. free c w.2 (subst (λ k. ListsCell L c q k (Some w.2)) same.1 (subst (λ r. ListsCell L c r w.1 (Some w.2)) same.0 w.3))))

  -- who stands in it the first neither finds nor makes; here it would be placed by it
  pub stander-unplaced : (c : CellId) (n q : NodeId) (k : ℕ) (x : Spot) → ListsCell M c q k (Some n) → Places M n (Spot.Row q c) → IsUnowned q k → Places L n x → ⊥
  stander-unplaced c n q k x l place free left = nodes-meet n x (Spot.Row q c) left place (λ e. at x left e)
    where
      at : (x : Spot) → Places L n x → x ≡ Spot.Row q c → ⊥
      at x (Places.placed_in_row r n d cells j listed here) e =
          let same = same-row e in
          let m : ListsCell L d r j (Some n) = record { cells = cells; full = true; listed = listed; at_place = here } in
          let m' : ListsCell L c q j (Some n) = subst (λ c. ListsCell L c q j (Some n)) same.1 (subst (λ r. ListsCell L d r j (Some n)) same.0 m) in
          cells-meet c q q j k (Some n) (Some n) m' l (λ z. free c n (subst (λ k. ListsCell L c q k (Some n)) z.1 m'))
      at x (Places.placed_in_register f n e) q = row-register (sym q)
      at x (Places.placed_nowhere n e) q = row-not-nowhere _ _ (sym q)
