-- What can be found together has a seed.
use Rattle.std.proofs.Common.{◌≡◌, ◌≢◌, ◌<◌, ◌≤◌, ◌^◌, ◌++◌, ℕ, zero, suc, Bool, true, false, List, [], ◌∷◌, map, length, Option, Some, None, option_map, cond, refl, sym, ap, ◌∙◌, subst, inl, inr, ◌⊎◌, arith}
use Rattle.std.specs.Option.{option_map_or}
use Rattle.std.specs.List.{find, flat_map}
use Rattle.st_ids.specs.Listing.{AreDistinct, Has}
use Rattle.st_ids.specs.Order.{same_field, same_node}
use Rattle.st_ids.proofs.Orders.{same_field-true, same_node-true}
use Rattle.st_ids.specs.declared.names.Atom.{Atom}
use Rattle.st_ids.specs.declared.names.CellId.{CellId}
use Rattle.st_ids.specs.declared.names.FieldId.{FieldId}
use Rattle.st_ids.specs.declared.names.NodeId.{NodeId}
use Rattle.st_marks.specs.declared.places.Slot.{Slot}
use Rattle.st_marks.specs.declared.places.Spot.{Spot}
use Rattle.st_marks.specs.Agree.{LeadsUp}
use Rattle.st_marks.specs.Agree.LeadsUp.{one_up, further_up}
use Rattle.st_marks.specs.Document.{content, node_of, IsSoundInForm}
use Rattle.st_ids.specs.Root.{root}
use Rattle.st_marks.specs.Listings.{CellView, one_or_none, nodes_standing}
use Rattle.st_marks.proofs.Members.{all-has, has-all, append_left, append_right, has-append, map-has, has-map, flat_map-has, has-flat_map, first-has, distinct-has, distinct-append, distinct-between, distinct-left, distinct-right, one_list}
use Rattle.st_puts.specs.Seen.{AreAsSeen, IfTold}
use Rattle.st_normal_laws.specs.Laid.{LaidRow, LaidHeld, Stand, Layout, stands_in, all_stands, laid_document, StandsAt, IsLayout}
use Rattle.st_normal_laws.specs.Seed.{lift, fresh, fresh_cell, fresh_node, FoundRow, FoundHeld, Finds, lay_cell, lay, lay_row, lay_held, owners_laid, seed, cells_named, nodes_found, IsFoundAt, IsBelow, CanBeFound}
use Rattle.st_normal_laws.proofs.LaidSound.{has-stands, laid_content, laid_sound, has-held}
use Rattle.st_puts.proofs.Basics.{is-one, one-is}

-- ## Fresh names don't clash

pub lift-above : (F k s : ℕ) → F ≤ lift F k s
lift-above F zero s = omega arith
lift-above F (suc k) s = omega (arith, lift-above F k s)

pub lift-one : (F k j s t : ℕ) → s < F → t < F → lift F k s ≡ lift F j t → (k ≡ j) × (s ≡ t)
lift-one F zero zero s t p q e = (refl, omega (arith, e))
lift-one F zero (suc j) s t p q e = absurd (omega (arith, e, p, lift-above F j t))
lift-one F (suc k) zero s t p q e = absurd (omega (arith, e, q, lift-above F k s))
lift-one F (suc k) (suc j) s t p q e = let r = lift-one F k j s t p q (omega (arith, e)) in (ap suc r.0, r.1)

pub fresh-one : (F : ℕ) (n m : NodeId) (k j : ℕ) → IsBelow F n.0 → IsBelow F m.0 → fresh F n k ≡ fresh F m j → (n ≡ m) × (k ≡ j)
fresh-one F n m k j p q e =
    let s = lift-one F k j n.0.rev.session m.0.rev.session p q (ap (λ (a : Atom). a.rev.session) e) in
    (λ i. record { 0 = record { rev = record { session = s.1 i; num = (e i).rev.num }; at = (e i).at } }, s.0)

pub fresh-not : (F : ℕ) (n : NodeId) (k : ℕ) (a : Atom) → IsBelow F a → a ≡ fresh F n k → ⊥
fresh-not F n k a p e = let s = ap (λ (a : Atom). a.rev.session) e in absurd (omega (arith, s, p, lift-above F k n.0.rev.session))

-- ## One row

-- a cell is named, or has a fresh name
pub cell_is : (F : ℕ) (n : NodeId) (xs : List CellView) (s : Slot) → Has (lay F n xs) s → Has (cells_named xs) s.cell ⊎ ((k : ℕ) × (k < length xs) × (s.cell ≡ fresh_cell F n k))
cell_is F n [] s h = absurd h
cell_is F n (x ∷ xs) s (inl e) = go x.cell refl
  where
    go : (o : Option CellId) → x.cell ≡ o → Has (one_or_none x.cell ++ cells_named xs) s.cell ⊎ ((k : ℕ) × (k < suc (length xs)) × (s.cell ≡ fresh_cell F n k))
    go None q = inr (length xs, omega arith, ap (λ (t : Slot). t.cell) (sym e) ∙ ap (λ o. option_map_or (λ (c : CellId). c) o (fresh_cell F n (length xs))) q)
    go (Some c) q = inl (append_left (one_or_none x.cell) (cells_named xs) s.cell (subst (λ o. Has (one_or_none o) s.cell) (sym q)
        (inl (sym (ap (λ (t : Slot). t.cell) (sym e) ∙ ap (λ o. option_map_or (λ (c : CellId). c) o (fresh_cell F n (length xs))) q)))))
cell_is F n (x ∷ xs) s (inr h) = elim (cell_is F n xs s h) [
  | inl i ↦ inl (append_right (one_or_none x.cell) (cells_named xs) s.cell i)
  | inr k ↦ inr (k.0, omega (arith, k.1), k.2)
]

module _ (F : ℕ) (n : NodeId) (below : IsBelow F n.0) where
  pub cells_apart : (xs : List CellView) → AreDistinct (λ c. c) (cells_named xs) → ((c : CellId) → Has (cells_named xs) c → IsBelow F c.0) → AreDistinct (λ (s : Slot). s.cell) (lay F n xs)
  cells_apart [] d b = tt
  cells_apart (x ∷ xs) d b = (has-all (λ (s : Slot). s.cell ≢ (lay_cell F n (length xs) x).cell) (lay F n xs) (λ s h. go x.cell refl s (cell_is F n xs s h)), cells_apart xs (distinct-right (λ c. c) (one_or_none x.cell) (cells_named xs) d) (λ c h. b c (append_right (one_or_none x.cell) (cells_named xs) c h)))
    where
      go : (o : Option CellId) → x.cell ≡ o → (s : Slot) → (Has (cells_named xs) s.cell ⊎ ((k : ℕ) × (k < length xs) × (s.cell ≡ fresh_cell F n k))) → s.cell ≢ (lay_cell F n (length xs) x).cell
      go None q s (inl h) e = fresh-not F n (length xs) s.cell.0 (b s.cell (append_right (one_or_none x.cell) (cells_named xs) s.cell h)) (ap (λ (c : CellId). c.0) (e ∙ ap (λ o. option_map_or (λ (c : CellId). c) o (fresh_cell F n (length xs))) q))
      go None q s (inr k) e =
          let r = fresh-one F n n k.0 (length xs) below below (ap (λ (c : CellId). c.0) (sym k.2 ∙ e ∙ ap (λ o. option_map_or (λ (c : CellId). c) o (fresh_cell F n (length xs))) q)) in
          absurd (omega (arith, k.1, r.1))
      go (Some c) q s (inl h) e = distinct-between (λ c. c) (one_or_none x.cell) (cells_named xs) c s.cell d (subst (λ o. Has (one_or_none o) c) (sym q) (inl refl)) h (e ∙ ap (λ o. option_map_or (λ (c : CellId). c) o (fresh_cell F n (length xs))) q)
      go (Some c) q s (inr k) e = fresh-not F n k.0 c.0 (b c (append_left (one_or_none x.cell) (cells_named xs) c (subst (λ o. Has (one_or_none o) c) (sym q) (inl refl))))
          (ap (λ (c : CellId). c.0) (sym (e ∙ ap (λ o. option_map_or (λ (c : CellId). c) o (fresh_cell F n (length xs))) q) ∙ k.2))

-- the node of a full cell is found there, or has a fresh name
abbrev pub IsNodeOf : ℕ → NodeId → List CellView → NodeId → Type 0
IsNodeOf F n xs m = Has (nodes_standing xs) m ⊎ ((k : ℕ) × (k < length xs) × (m ≡ fresh_node F n k))

head_node : (F : ℕ) (n : NodeId) (k : ℕ) (x : CellView) (o : Option NodeId) → x.full ≡ true → x.node ≡ o → (lay_cell F n k x).node ≡ option_map_or (λ (m : NodeId). m) o (fresh_node F n k)
head_node F n k x o f q = ap (λ b. option_map_or (λ (m : NodeId). m) x.node (cond b (fresh_node F n k) root)) f ∙ ap (λ o. option_map_or (λ (m : NodeId). m) o (fresh_node F n k)) q

shown_head : (x : CellView) (xs : List CellView) (m : NodeId) → x.full ≡ true → x.node ≡ Some m → Has (nodes_standing (x ∷ xs)) m
shown_head x xs m f q = append_left (cond x.full (one_or_none x.node) []) (nodes_standing xs) m (subst (λ b. Has (cond b (one_or_none x.node) []) m) (sym f) (subst (λ o. Has (one_or_none o) m) (sym q) (inl refl)))

pub node_is : (F : ℕ) (n : NodeId) (xs : List CellView) (s : Slot) → Has (lay F n xs) s → s.full ≡ true → IsNodeOf F n xs s.node
node_is F n [] s h f = absurd h
node_is F n (x ∷ xs) s (inl e) f = go x.node refl
  where
    full : x.full ≡ true
    full = ap (λ (t : Slot). t.full) e ∙ f

    go : (o : Option NodeId) → x.node ≡ o → IsNodeOf F n (x ∷ xs) s.node
    go None q = inr (length xs, omega arith, ap (λ (t : Slot). t.node) (sym e) ∙ head_node F n (length xs) x None full q)
    go (Some m) q = inl (shown_head x xs s.node full (q ∙ ap (λ m. Some m) (sym (ap (λ (t : Slot). t.node) (sym e) ∙ head_node F n (length xs) x (Some m) full q))))
node_is F n (x ∷ xs) s (inr h) f = elim (node_is F n xs s h f) [
  | inl i ↦ inl (append_right (cond x.full (one_or_none x.node) []) (nodes_standing xs) s.node i)
  | inr k ↦ inr (k.0, omega (arith, k.1), k.2)
]

module _ (F : ℕ) (n : NodeId) (below : IsBelow F n.0) where
  pub nodes_apart : (xs : List CellView) → AreDistinct (λ m. m) (nodes_standing xs) → ((m : NodeId) → Has (nodes_standing xs) m → IsBelow F m.0) → AreDistinct (λ (s : Stand). s.node) (stands_in n (lay F n xs))
  nodes_apart [] d b = tt
  nodes_apart (x ∷ xs) d b = go x.full refl (nodes_apart xs (distinct-right (λ m. m) (cond x.full (one_or_none x.node) []) (nodes_standing xs) d) (λ m h. b m (append_right (cond x.full (one_or_none x.node) []) (nodes_standing xs) m h)))
    where
      head : Stand
      head = record { node = (lay_cell F n (length xs) x).node; spot = Spot.Row n (lay_cell F n (length xs) x).cell }

      apart : x.full ≡ true → (o : Option NodeId) → x.node ≡ o → (s : Slot) → IsNodeOf F n xs s.node → s.node ≢ (lay_cell F n (length xs) x).node
      apart f None q s (inl h) e = fresh-not F n (length xs) s.node.0 (b s.node (append_right (cond x.full (one_or_none x.node) []) (nodes_standing xs) s.node h)) (ap (λ (m : NodeId). m.0) (e ∙ head_node F n (length xs) x None f q))
      apart f None q s (inr k) e =
          let r = fresh-one F n n k.0 (length xs) below below (ap (λ (m : NodeId). m.0) (sym k.2 ∙ e ∙ head_node F n (length xs) x None f q)) in
          absurd (omega (arith, k.1, r.1))
      apart f (Some m) q s (inl h) e =
          distinct-between (λ m. m) (cond x.full (one_or_none x.node) []) (nodes_standing xs) m s.node d (subst (λ b. Has (cond b (one_or_none x.node) []) m) (sym f) (subst (λ o. Has (one_or_none o) m) (sym q) (inl refl))) h (e ∙ head_node F n (length xs) x (Some m) f q)
      apart f (Some m) q s (inr k) e = fresh-not F n k.0 m.0 (b m (shown_head x xs m f q)) (ap (λ (m : NodeId). m.0) (sym (e ∙ head_node F n (length xs) x (Some m) f q) ∙ k.2))

      go : (c : Bool) → x.full ≡ c → AreDistinct (λ (s : Stand). s.node) (stands_in n (lay F n xs)) → AreDistinct (λ (s : Stand). s.node) (cond c (record { node = (lay_cell F n (length xs) x).node; spot = Spot.Row n (lay_cell F n (length xs) x).cell } ∷ stands_in n (lay F n xs)) (stands_in n (lay F n xs)))
      go true f rest = (
        has-all (λ (s : Stand). s.node ≢ (lay_cell F n (length xs) x).node) (stands_in n (lay F n xs)) (λ s h. let t = has-stands n (lay F n xs) s h in
            λ e. apart f x.node refl t.0 (node_is F n xs t.0 t.1 t.2) (sym t.3 ∙ e)),
        rest,
      )
      go false f rest = rest

pub lay_length : (F : ℕ) (n : NodeId) (xs : List CellView) → length (lay F n xs) ≡ length xs
lay_length F n [] = refl
lay_length F n (x ∷ xs) = ap suc (lay_length F n xs)

pub lay_some : (F : ℕ) (n : NodeId) (xs : List CellView) (s : Slot) → Has (lay F n xs) s → (x : CellView) × Has xs x
lay_some F n [] s h = absurd h
lay_some F n (x ∷ xs) s h = (x, inl refl)

-- the laid row is as it is found
pub lay_describes : (F : ℕ) (n : NodeId) (xs : List CellView) → AreAsSeen (lay F n xs) xs
lay_describes F n [] = tt
lay_describes F n (x ∷ xs) = ((refl, told x.cell (fresh_cell F n (length xs)), told x.node (cond x.full (fresh_node F n (length xs)) root)), lay_describes F n xs)
  where
    told : {A : Type 0} (o : Option A) (a : A) → IfTold o (option_map_or (λ y. y) o a)
    told None a = tt
    told (Some y) a = refl

-- ## All rows

module _ (F : ℕ) (W : Finds) (w : CanBeFound F W) where
  abbrev L : Layout
  L = seed F W

  abbrev cells_of : FoundRow → List Slot
  cells_of r = lay F r.node r.cells

  -- the rows of the seed
  row_from : (rs : List FoundRow) (l : LaidRow) → Has (map (lay_row F) rs) l → (r : FoundRow) × Has rs r × (lay_row F r ≡ l)
  row_from rs l h = has-map (lay_row F) rs l h

  rows_apart : (rs : List FoundRow) → AreDistinct (λ (r : FoundRow). r.node) rs → AreDistinct (λ (l : LaidRow). l.node) (map (lay_row F) rs)
  rows_apart [] d = tt
  rows_apart (r ∷ rs) d = (has-all (λ (l : LaidRow). l.node ≢ r.node) (map (lay_row F) rs) (λ l h. let q = row_from rs l h in λ e. all-has (λ (q : FoundRow). q.node ≢ r.node) rs q.0 d.0 q.1 (ap (λ (l : LaidRow). l.node) q.2 ∙ e)), rows_apart rs d.1)

  all_cells_distinct : (rs : List FoundRow) → ((r : FoundRow) → Has rs r → Has W.rows r) → AreDistinct (λ (r : FoundRow). r.node) rs → AreDistinct (λ c. c) (flat_map (λ (r : FoundRow). cells_named r.cells) rs) → AreDistinct (λ (s : Slot). s.cell) (flat_map (λ (l : LaidRow). l.cells) (map (lay_row F) rs))
  all_cells_distinct [] sub d e = tt
  all_cells_distinct (r ∷ rs) sub d e =
      distinct-append (λ (s : Slot). s.cell) (lay F r.node r.cells) (flat_map (λ (l : LaidRow). l.cells) (map (lay_row F) rs))
      (cells_apart F r.node (w.below_rows r (sub r (inl refl))) r.cells (distinct-left (λ c. c) (cells_named r.cells) (flat_map (λ (r : FoundRow). cells_named r.cells) rs) e) (λ c h. w.below_cells r c (sub r (inl refl)) h))
      (all_cells_distinct rs (λ q h. sub q (inr h)) d.1 (distinct-right (λ c. c) (cells_named r.cells) (flat_map (λ (r : FoundRow). cells_named r.cells) rs) e))
      (λ s t h i. let l = has-flat_map (λ (l : LaidRow). l.cells) (map (lay_row F) rs) t i in let q = row_from rs l.0 l.1 in
      apart s t q.0 q.1 (cell_is F r.node r.cells s h) (cell_is F q.0.node q.0.cells t (subst (λ (l : LaidRow). Has l.cells t) (sym q.2) l.2)))
    where
      apart : (s t : Slot) (q : FoundRow) → Has rs q → (Has (cells_named r.cells) s.cell ⊎ ((k : ℕ) × (k < length r.cells) × (s.cell ≡ fresh_cell F r.node k)))
          → (Has (cells_named q.cells) t.cell ⊎ ((k : ℕ) × (k < length q.cells) × (t.cell ≡ fresh_cell F q.node k))) → t.cell ≢ s.cell
      apart s t q k (inl h) (inl i) f = distinct-between (λ c. c) (cells_named r.cells) (flat_map (λ (r : FoundRow). cells_named r.cells) rs) s.cell t.cell e h (flat_map-has (λ (r : FoundRow). cells_named r.cells) rs q t.cell k i) f
      apart s t q k (inl h) (inr j) f = fresh-not F q.node j.0 s.cell.0 (w.below_cells r s.cell (sub r (inl refl)) h) (ap (λ (c : CellId). c.0) (sym f ∙ j.2))
      apart s t q k (inr j) (inl i) f = fresh-not F r.node j.0 t.cell.0 (w.below_cells q t.cell (sub q (inr k)) i) (ap (λ (c : CellId). c.0) (f ∙ j.2))
      apart s t q k (inr j) (inr i) f = all-has (λ (q : FoundRow). q.node ≢ r.node) rs q d.0 k (fresh-one F q.node r.node i.0 j.0 (w.below_rows q (sub q (inr k))) (w.below_rows r (sub r (inl refl))) (ap (λ (c : CellId). c.0) (sym i.2 ∙ f ∙ j.2))).0

  -- ## Who stands

  abbrev found_in_rows : List FoundRow → List NodeId
  found_in_rows rs = flat_map (λ (r : FoundRow). nodes_standing r.cells) rs

  abbrev stands_of : List FoundRow → List Stand
  stands_of rs = flat_map (λ (l : LaidRow). stands_in l.node l.cells) (map (lay_row F) rs)

  -- who stands in a row is found there, or has a fresh name
  stand_row : (rs : List FoundRow) (x : Stand) → Has (stands_of rs) x → (r : FoundRow) × (c : CellId) × Has rs r × (x.spot ≡ Spot.Row r.node c) × IsNodeOf F r.node r.cells x.node
  stand_row rs x h =
      let l = has-flat_map (λ (l : LaidRow). stands_in l.node l.cells) (map (lay_row F) rs) x h in
      let r = row_from rs l.0 l.1 in
      let s = has-stands r.0.node (lay F r.0.node r.0.cells) x (subst (λ (l : LaidRow). Has (stands_in l.node l.cells) x) (sym r.2) l.2) in
      (r.0, s.0.cell, r.1, s.4, nodes_of r.0 x.node s.0 s.1 s.2 s.3)
    where
      nodes_of : (r : FoundRow) (m : NodeId) (s : Slot) → Has (lay F r.node r.cells) s → s.full ≡ true → m ≡ s.node → IsNodeOf F r.node r.cells m
      nodes_of r m s h f e = subst (IsNodeOf F r.node r.cells) (sym e) (node_is F r.node r.cells s h f)

  below_row : (r : FoundRow) (m : NodeId) → Has W.rows r → Has (nodes_standing r.cells) m → IsBelow F m.0
  below_row r m h i = w.below_nodes m (append_left (found_in_rows W.rows) (flat_map (λ (h : FoundHeld). one_or_none h.node) W.held) m (flat_map-has (λ (r : FoundRow). nodes_standing r.cells) W.rows r m h i))

  stands_apart : (rs : List FoundRow) → ((r : FoundRow) → Has rs r → Has W.rows r) → AreDistinct (λ (r : FoundRow). r.node) rs → AreDistinct (λ n. n) (found_in_rows rs) → AreDistinct (λ (s : Stand). s.node) (stands_of rs)
  stands_apart [] sub d e = tt
  stands_apart (r ∷ rs) sub d e =
      distinct-append (λ (s : Stand). s.node) (stands_in r.node (lay F r.node r.cells)) (stands_of rs)
      (nodes_apart F r.node (w.below_rows r (sub r (inl refl))) r.cells (distinct-left (λ n. n) (nodes_standing r.cells) (found_in_rows rs) e) (λ m h. below_row r m (sub r (inl refl)) h))
      (stands_apart rs (λ q h. sub q (inr h)) d.1 (distinct-right (λ n. n) (nodes_standing r.cells) (found_in_rows rs) e))
      (λ s t h i. let q = stand_row rs t i in let a = has-stands r.node (lay F r.node r.cells) s h in
      apart s.node t.node q.0 q.2 (subst (IsNodeOf F r.node r.cells) (sym a.3) (node_is F r.node r.cells a.0 a.1 a.2)) q.4)
    where
      apart : (m n : NodeId) (q : FoundRow) → Has rs q → IsNodeOf F r.node r.cells m → IsNodeOf F q.node q.cells n → n ≢ m
      apart m n q k (inl h) (inl i) f = distinct-between (λ n. n) (nodes_standing r.cells) (found_in_rows rs) m n e h (flat_map-has (λ (r : FoundRow). nodes_standing r.cells) rs q n k i) f
      apart m n q k (inl h) (inr j) f = fresh-not F q.node j.0 m.0 (below_row r m (sub r (inl refl)) h) (ap (λ (n : NodeId). n.0) (sym f ∙ j.2))
      apart m n q k (inr j) (inl i) f = fresh-not F r.node j.0 n.0 (below_row q n (sub q (inr k)) i) (ap (λ (n : NodeId). n.0) (f ∙ j.2))
      apart m n q k (inr j) (inr i) f = all-has (λ (q : FoundRow). q.node ≢ r.node) rs q d.0 k (fresh-one F q.node r.node i.0 j.0 (w.below_rows q (sub q (inr k))) (w.below_rows r (sub r (inl refl))) (ap (λ (n : NodeId). n.0) (sym i.2 ∙ f ∙ j.2))).0

  -- registers
  pub held_from : (hs : List FoundHeld) (l : LaidHeld) → Has (flat_map lay_held hs) l → (h : FoundHeld) × Has hs h × (h.node ≡ Some l.node) × (h.field ≡ l.field)
  held_from hs l i =
      let h = has-flat_map lay_held hs l i in
      let n = has-map (λ n. let l : LaidHeld = record { field = h.0.field; node = n } in l) (one_or_none h.0.node) l h.2 in
      (h.0, h.1, one-is h.0.node l.node (subst (λ m. Has (one_or_none h.0.node) m) (ap (λ (l : LaidHeld). l.node) n.2) n.1), ap (λ (l : LaidHeld). l.field) n.2)

  pub held_to : (hs : List FoundHeld) (h : FoundHeld) (n : NodeId) → Has hs h → h.node ≡ Some n → Has (flat_map lay_held hs) (record { field = h.field; node = n })
  held_to hs h n i e = flat_map-has lay_held hs h (record { field = h.field; node = n }) i (map-has (λ n. let l : LaidHeld = record { field = h.field; node = n } in l) (one_or_none h.node) n (is-one h.node n e))

  held_apart : {K : Type 0} (key : LaidHeld → K) (hs : List FoundHeld) → ((h k : FoundHeld) (l m : LaidHeld) → Has hs h → h.node ≡ Some l.node → h.field ≡ l.field → Has hs k → k.node ≡ Some m.node → k.field ≡ m.field → key m ≡ key l → h ≡ k) → AreDistinct (λ (h : FoundHeld). h.field) hs → AreDistinct key (flat_map lay_held hs)
  held_apart key [] f d = tt
  held_apart key (h ∷ hs) f d = distinct-append key (lay_held h) (flat_map lay_held hs) (alone h.node) (held_apart key hs (λ a b l m i p q j r s e. f a b l m (inr i) p q (inr j) r s e) d.1)
      (λ l m i j e. let n = has-map (λ n. let l : LaidHeld = record { field = h.field; node = n } in l) (one_or_none h.node) l i in let k = held_from hs m j in
      let same = f h k.0 l m (inl refl) (one-is h.node l.node (subst (λ x. Has (one_or_none h.node) x) (ap (λ (l : LaidHeld). l.node) n.2) n.1)) (ap (λ (l : LaidHeld). l.field) n.2) (inr k.1) k.2 k.3 e in
      all-has (λ (k : FoundHeld). k.field ≢ h.field) hs k.0 d.0 k.1 (ap (λ (h : FoundHeld). h.field) (sym same)))
    where
      alone : (o : Option NodeId) → AreDistinct key (map (λ n. let l : LaidHeld = record { field = h.field; node = n } in l) (one_or_none o))
      alone None = tt
      alone (Some n) = (tt, tt)

  abbrev stand_of : LaidHeld → Stand
  stand_of h = record { node = h.node; spot = Spot.Register h.field }

  map_apart : (ls : List LaidHeld) → AreDistinct (λ (l : LaidHeld). l.node) ls → AreDistinct (λ (s : Stand). s.node) (map stand_of ls)
  map_apart [] d = tt
  map_apart (l ∷ ls) d = (has-all (λ (s : Stand). s.node ≢ l.node) (map stand_of ls) (λ s h. let m = has-map stand_of ls s h in λ e. all-has (λ (m : LaidHeld). m.node ≢ l.node) ls m.0 d.0 m.1 (ap (λ (s : Stand). s.node) m.2 ∙ e)), map_apart ls d.1)

  found_held : (h : FoundHeld) (n : NodeId) → Has W.held h → h.node ≡ Some n → Has (nodes_found W) n
  found_held h n i e = append_right (found_in_rows W.rows) (flat_map (λ (h : FoundHeld). one_or_none h.node) W.held) n (flat_map-has (λ (h : FoundHeld). one_or_none h.node) W.held h n i (is-one h.node n e))

  -- who stands in the seed is found, or has a fresh name
  pub stand_is : (x : Stand) → Has (all_stands L) x → IsFoundAt W x.node x.spot ⊎ ((r : FoundRow) × (k : ℕ) × (c : CellId) × Has W.rows r × (x.node ≡ fresh_node F r.node k) × (x.spot ≡ Spot.Row r.node c))
  stand_is x h = elim (has-append (stands_of W.rows) (map stand_of (flat_map lay_held W.held)) x h) [
    | inl i ↦ (let r = stand_row W.rows x i in elim r.4 [ inl j ↦ inl (inl (r.0, r.1, r.2, j, r.3)) | inr k ↦ inr (r.0, k.0, r.1, r.2, k.2, r.3) ])
    | inr i ↦ (let l = has-map stand_of (flat_map lay_held W.held) x i in let q = held_from W.held l.0 l.1 in
        inl (inr (q.0, q.1, q.2 ∙ ap (λ n. Some n) (ap (λ (s : Stand). s.node) l.2), ap (λ (s : Stand). s.spot) (sym l.2) ∙ ap (λ f. Spot.Register f) (sym q.3))))
  ]

  found-has : (n : NodeId) (s : Spot) → IsFoundAt W n s → Has (nodes_found W) n
  found-has n s (inl x) = append_left (found_in_rows W.rows) (flat_map (λ (h : FoundHeld). one_or_none h.node) W.held) n (flat_map-has (λ (r : FoundRow). nodes_standing r.cells) W.rows x.0 n x.2 x.3)
  found-has n s (inr x) = found_held x.0 n x.1 x.2

  -- ## No ring

  up_below : (n p : NodeId) (s : Spot) → StandsAt (all_stands L) n s → node_of s ≡ Some p → IsBelow F p.0
  up_below n p s h e = elim (stand_is (record { node = n; spot = s }) h) [
    | inl f ↦ at f
    | inr r ↦ (let q : r.0.node ≡ p = in_row (sym (ap node_of r.5) ∙ e) in subst (λ (m : NodeId). IsBelow F m.0) q (w.below_rows r.0 r.3))
  ]
    where
      in_row : {a b : NodeId} → ◌≡◌ {A = Option NodeId} (Some a) (Some b) → a ≡ b
      in_row q = cc

      at : IsFoundAt W n s → IsBelow F p.0
      at (inl x) = subst (λ (m : NodeId). IsBelow F m.0) (in_row (sym (ap node_of x.4) ∙ e)) (w.below_rows x.0 x.2)
      at (inr x) = subst (λ (m : NodeId). IsBelow F m.0) (in_row (sym (ap node_of x.3) ∙ e)) (w.below_fields x.0 x.1)

  stand_found : (n : NodeId) (s : Spot) → IsBelow F n.0 → StandsAt (all_stands L) n s → IsFoundAt W n s
  stand_found n s b h = elim (stand_is (record { node = n; spot = s }) h) [
    | inl f ↦ f
    | inr r ↦ absurd (fresh-not F r.0.node r.1 n.0 b (ap (λ (n : NodeId). n.0) r.4))
  ]

  leads_found : (n m : NodeId) → LeadsUp (StandsAt (all_stands L)) n m → IsBelow F n.0 → LeadsUp (IsFoundAt W) n m
  leads_found n m (one_up s h e) b = one_up s (stand_found n s b h) e
  leads_found n m (further_up {p = p} s h e r) b = further_up s (stand_found n s b h) e (leads_found p m r (up_below n p s h e))

  leads_below : (n m : NodeId) → LeadsUp (StandsAt (all_stands L)) n m → IsBelow F m.0
  leads_below n m (one_up s h e) = up_below n m s h e
  leads_below n m (further_up {p = p} s h e r) = leads_below p m r

  -- ## The layout

  known_more : (n : NodeId) → Has (root ∷ W.known) n → Has (root ∷ L.known) n
  known_more n (inl e) = inl e
  known_more n (inr h) = inr (append_left W.known (owners_laid F W.rows) n h)

  some-one : {a b : NodeId} → ◌≡◌ {A = Option NodeId} (Some a) (Some b) → a ≡ b
  some-one q = cc

  held_same : (h k : FoundHeld) (n : NodeId) → Has W.held h → Has W.held k → h.node ≡ Some n → k.node ≡ Some n → h ≡ k
  held_same h k n i j p q = one_list (λ (h : FoundHeld). one_or_none h.node) (λ n. n) W.held h k n n (distinct-right (λ n. n) (found_in_rows W.rows) (flat_map (λ (h : FoundHeld). one_or_none h.node) W.held) w.nodes_once) i j (is-one h.node n p) (is-one k.node n q) refl

  pub seed_layout : IsLayout L
  seed_layout = record {
    rows_once = rows_apart W.rows w.rows_once;
    cells_once = all_cells_distinct W.rows (λ r h. h) w.rows_once w.cells_once;
    fields_once = held_apart (λ (l : LaidHeld). l.field) W.held (λ h k l m i p q j r s e. distinct-has (λ (h : FoundHeld). h.field) W.held h k w.fields_once i j (q ∙ sym e ∙ sym s)) w.fields_once;
    stands_once = distinct-append (λ (s : Stand). s.node) (stands_of W.rows) (map stand_of (flat_map lay_held W.held))
        (stands_apart W.rows (λ r h. h) w.rows_once (distinct-left (λ n. n) (found_in_rows W.rows) (flat_map (λ (h : FoundHeld). one_or_none h.node) W.held) w.nodes_once))
        (map_apart (flat_map lay_held W.held) (held_apart (λ (l : LaidHeld). l.node) W.held (λ h k l m i p q j r s e. held_same h k l.node i j p (r ∙ ap (λ n. Some n) e)) w.fields_once))
        (λ x y h i e. let r = stand_row W.rows x h in let l = has-map stand_of (flat_map lay_held W.held) y i in let q = held_from W.held l.0 l.1 in
        apart x.node y.node r.0 r.2 r.4 q.0 q.1 (q.2 ∙ ap (λ n. Some n) (ap (λ (s : Stand). s.node) l.2)) e);
    root_stands = λ s h. elim (stand_is (record { node = root; spot = s }) h) [
      | inl f ↦ w.root_stays (found-has root s f)
      | inr r ↦ fresh-not F r.0.node r.1 root.0 (root_below r.0 r.3) (ap (λ (n : NodeId). n.0) r.4)
    ];
    cells_known = λ l s h i. let r = row_from W.rows l h in let j = subst (λ (l : LaidRow). Has l.cells s) (sym r.2) i in let x = lay_some F r.0.node r.0.cells s j in (
      subst (λ (l : LaidRow). Has (root ∷ L.known) l.node) r.2 (known_more r.0.node (w.row_known r.0 x.0 r.1 x.1)),
      inr (append_right W.known (owners_laid F W.rows) s.node (flat_map-has (λ (r : FoundRow). map (λ (s : Slot). s.node) (lay F r.node r.cells)) W.rows r.0 s.node r.1 (map-has (λ (s : Slot). s.node) (lay F r.0.node r.0.cells) s j))),
    );
    held_known = λ l h. let q = held_from W.held l h in let k = w.held_known q.0 l.node q.1 q.2 in (known_more l.node k.0, subst (λ (f : FieldId). Has (root ∷ L.known) f.node) q.3 (known_more q.0.field.node k.1));
    keys = λ l h. let q = held_from W.held l h in subst (λ (f : FieldId). f.key.0 ≢ []) q.3 (w.keys q.0 l.node q.1 q.2);
    short = λ l h. let r = row_from W.rows l h in subst (λ (l : LaidRow). length l.cells < 2 ^ 32) r.2 (subst (λ k. k < 2 ^ 32) (sym (lay_length F r.0.node r.0.cells)) (w.short r.0 r.1));
    no_ring = λ n r. w.no_ring n (leads_found n n r (leads_below n n r));
    in_effect = w.in_effect;
  }
    where
      apart : (m n : NodeId) (r : FoundRow) → Has W.rows r → IsNodeOf F r.node r.cells m → (h : FoundHeld) → Has W.held h → h.node ≡ Some n → n ≢ m
      apart m n r k (inl i) h j q e = distinct-between (λ n. n) (found_in_rows W.rows) (flat_map (λ (h : FoundHeld). one_or_none h.node) W.held) m n w.nodes_once (flat_map-has (λ (r : FoundRow). nodes_standing r.cells) W.rows r m k i) (flat_map-has (λ (h : FoundHeld). one_or_none h.node) W.held h n j (is-one h.node n q)) e
      apart m n r k (inr i) h j q e = fresh-not F r.node i.0 n.0 (w.below_nodes n (found_held h n j q)) (ap (λ (n : NodeId). n.0) (e ∙ i.2))

      root_below : (r : FoundRow) → Has W.rows r → IsBelow F root.0
      root_below r h = let b = w.below_rows r h in omega (arith, b)

  pub seed_sound : IsSoundInForm (laid_document L)
  seed_sound = laid_sound L seed_layout

  -- ## The seed is as it is found

  pub seed_row : (r : FoundRow) → Has W.rows r → AreAsSeen (content (laid_document L) r.node) r.cells
  seed_row r h = subst (λ c. AreAsSeen c r.cells) (sym (laid_content L seed_layout r.node ∙ Rattle.st_normal_laws.proofs.LaidSound.row_found L seed_layout (lay_row F r) (map-has (lay_row F) W.rows r h))) (lay_describes F r.node r.cells)

  pub seed_held : (h : FoundHeld) → Has W.held h → (laid_document L).held h.field ≡ h.node
  seed_held h i = go h.node refl
    where
      go : (o : Option NodeId) → h.node ≡ o → (laid_document L).held h.field ≡ o
      go (Some n) e = has-held L seed_layout (record { field = h.field; node = n }) (held_to W.held h n i e)
      go None e = none (find (λ (l : LaidHeld). same_field l.field h.field) L.held) refl
        where
          none : (o : Option LaidHeld) → find (λ (l : LaidHeld). same_field l.field h.field) L.held ≡ o → option_map (λ (l : LaidHeld). l.node) o ≡ None
          none None f = refl
          none (Some l) f =
              let r = first-has (λ (l : LaidHeld). same_field l.field h.field) L.held l f in
              let q = held_from W.held l r.0 in
              let same = distinct-has (λ (h : FoundHeld). h.field) W.held q.0 h w.fields_once q.1 i (q.3 ∙ same_field-true l.field h.field r.1) in
              let bad : None ≡ Some l.node = sym e ∙ ap (λ (h : FoundHeld). h.node) (sym same) ∙ q.2 in cc

  -- who isn't found, and isn't fresh, is nowhere
  pub seed_nowhere : (n : NodeId) → IsBelow F n.0 → (Has (nodes_found W) n → ⊥) → (laid_document L).place n ≡ Spot.Nowhere
  seed_nowhere n b not = go (find (λ (x : Stand). same_node x.node n) (all_stands L)) refl
    where
      go : (o : Option Stand) → find (λ (x : Stand). same_node x.node n) (all_stands L) ≡ o → option_map_or (λ (s : Stand). s.spot) o Spot.Nowhere ≡ Spot.Nowhere
      go None f = refl
      go (Some x) f =
          let r = first-has (λ (x : Stand). same_node x.node n) (all_stands L) x f in
          absurd (not (found-has n x.spot (stand_found n x.spot b (subst (Has (all_stands L)) (λ i. record { node = same_node-true x.node n r.1 i; spot = x.spot }) r.0))))
