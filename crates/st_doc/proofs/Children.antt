-- What stands directly beneath a node: the items of its row and the occupants of its registers, each once.
use Rattle.std.proofs.Common.{◌≡◌, ◌≢◌, ℕ, Bool, true, false, cond, List, [], ◌∷◌, ◌++◌, map, Some, refl, sym, ap, ◌∙◌, subst, inl, inr, ◌⊎◌}
use Rattle.std.specs.Ordering.{nat_cmp}
use Rattle.std.specs.List.{AllByRecursion}
use Rattle.std.specs.Cmp.Lexicographic.{slice_cmp, nat_list_cmp_total}
use Rattle.std.specs.declared.cmp.Ordering.TheVariants.{Less, Equal}
use Rattle.std.proofs.lemmas.Cmp.{tied_itself}
use Rattle.st_ids.specs.Listing.{AreDistinct, Has}
use Rattle.st_ids.specs.declared.names.CellId.{CellId}
use Rattle.st_ids.specs.declared.names.NodeId.{NodeId}
use Rattle.st_marks.specs.declared.intents.Owned.{Owned}
use Rattle.st_marks.specs.declared.places.Slot.{Slot}
use Rattle.st_marks.specs.declared.places.Spot.{Spot}
use Rattle.st_marks.specs.Document.{Document, IsSoundInForm, above, content, is_cell, node_of, slot}
use Rattle.st_marks.specs.LiveTree.{owners_shown, register}
use Rattle.st_marks.proofs.Climb.{shown, stands, is_cell-true}
use Rattle.st_marks.proofs.Members.{all-has, has-all, append_left, append_right, has-append, map-has, has-map, distinct-append}
use Rattle.st_doc.specs.inside.LiveText.{KeysRise}
use Rattle.st_doc.specs.declared.seats.Seat.{Seat}
use Rattle.st_marks.proofs.Shared.{owner_full}

-- ## Rows

full_owner : (cells : List Slot) (s : Slot) → Has cells s → s.full ≡ true → Has (owners_shown cells) s.node
full_owner [] s h e = absurd h
full_owner (t ∷ cells) s (inl q) e = rw (ap (λ (s : Slot). s.full) q ∙ e) (inl (ap (λ (s : Slot). s.node) q))
full_owner (t ∷ cells) s (inr k) e = append_right (cond t.full (t.node ∷ []) []) (owners_shown cells) s.node (full_owner cells s k e)

module _ (D : Document) where
  -- two cells in which one node stands are one
  one_cell : (o p : Owned) → o.node ≡ p.node → is_cell o.cell (D.place o.node) ≡ true → is_cell p.cell (D.place p.node) ≡ true → p.cell ≡ o.cell
  one_cell o p same e f =
      let a = is_cell-true o.cell (D.place o.node) e in
      let b = is_cell-true p.cell (D.place p.node) f in
      let spots : Spot.Row a.0 o.cell ≡ Spot.Row b.0 p.cell = sym a.1 ∙ ap D.place same ∙ b.1 in
      sym (ap cell_in spots)
    where
      cell_in : Spot → CellId
      cell_in Spot.Nowhere = o.cell
      cell_in (Spot.Row n c) = c
      cell_in (Spot.Register f) = o.cell

  cells_once : (os : List Owned) → AreDistinct (λ (o : Owned). o.cell) os → AreDistinct (λ (n : NodeId). n) (owners_shown (map (slot D) os))
  cells_once [] a = tt
  cells_once (o ∷ os) a = go (is_cell o.cell (D.place o.node)) refl (cells_once os a.1)
    where
      go : (b : Bool) → is_cell o.cell (D.place o.node) ≡ b → AreDistinct (λ (n : NodeId). n) (owners_shown (map (slot D) os))
          → AreDistinct (λ (n : NodeId). n) (cond b (o.node ∷ []) [] ++ owners_shown (map (slot D) os))
      go true e rest = (has-all (λ y. y ≢ o.node) (owners_shown (map (slot D) os)) apart, rest)
        where
          apart : (y : NodeId) → Has (owners_shown (map (slot D) os)) y → y ≢ o.node
          apart y h same =
              let f = owner_full (map (slot D) os) y h in
              let p = has-map (slot D) os f.0 f.1 in
              let there : is_cell p.0.cell (D.place p.0.node) ≡ true = ap (λ (s : Slot). s.full) p.2 ∙ f.2 in
              let node : o.node ≡ p.0.node = sym same ∙ sym f.3 ∙ sym (ap (λ (s : Slot). s.node) p.2) in
              all-has (λ (q : Owned). q.cell ≢ o.cell) os p.0 a.0 p.1 (one_cell o p.0 node e there)
      go false e rest = rest

module _ (D : Document) (sound : IsSoundInForm D) where
  pub row_place : (n x : NodeId) → Has (owners_shown (content D n)) x → (c : CellId) × (D.place x ≡ Spot.Row n c)
  row_place n x h =
      let f = owner_full (content D n) x h in
      (f.0.cell, stands D sound x n f.0.cell (subst (Has (content D n)) (λ i. record { cell = f.0.cell; node = f.3 i; full = f.2 i }) f.1))

  pub row_child : (n x : NodeId) → Has (owners_shown (content D n)) x → above D x ≡ Some n
  row_child n x h = ap node_of (row_place n x h).1

  pub row_once : (n : NodeId) → AreDistinct (λ (x : NodeId). x) (owners_shown (content D n))
  row_once n = cells_once D (D.rows n) (sound.once n)

  -- who stands beneath a node is an item of its row or the occupant of one of its registers
  pub child_at : (n m : NodeId) → above D m ≡ Some n → Has (owners_shown (content D n)) m ⊎ ((k : List ℕ) × (D.held (register n k) ≡ Some m))
  child_at n m e = go (D.place m) refl e
    where
      go : (s : Spot) → D.place m ≡ s → node_of s ≡ Some n → Has (owners_shown (content D n)) m ⊎ ((k : List ℕ) × (D.held (register n k) ≡ Some m))
      go Spot.Nowhere p e = cc
      go (Spot.Row r c) p e =
          let same : r ≡ n = cc in
          inl (full_owner (content D n) (record { cell = c; node = m; full = true }) (shown D sound m n c (p ∙ ap (λ r. Spot.Row r c) same)) refl)
      go (Spot.Register f) p e =
          let same : f.node ≡ n = cc in
          inr (f.key.0, (sound.one_held m (register n f.key.0)).1 (p ∙ ap (λ m. Spot.Register (register m f.key.0)) same))

  -- ## Registers

  pub seat_place : (n x : NodeId) (k : List ℕ) → D.held (register n k) ≡ Some x → D.place x ≡ Spot.Register (register n k)
  seat_place n x k e = (sound.one_held x (register n k)).0 e

  pub seat_child : (n x : NodeId) (k : List ℕ) → D.held (register n k) ≡ Some x → above D x ≡ Some n
  seat_child n x k e = ap node_of (seat_place n x k e)

  abbrev pub Holds : NodeId → List Seat → Type 0
  Holds n ss = AllByRecursion (λ (s : Seat). D.held (register n s.key) ≡ Some s.node) ss

  -- registers of different keys hold different nodes
  pub seats_once : (n : NodeId) (ss : List Seat) → KeysRise ss → Holds n ss → AreDistinct (λ (s : Seat). s.node) ss
  seats_once n [] rise holds = tt
  seats_once n (s ∷ ss) rise holds = (has-all (λ (t : Seat). t.node ≢ s.node) ss apart, seats_once n ss rise.1 holds.1)
    where
      key_in : Spot → List ℕ
      key_in Spot.Nowhere = []
      key_in (Spot.Row r c) = []
      key_in (Spot.Register f) = f.key.0

      apart : (t : Seat) → Has ss t → t.node ≢ s.node
      apart t h same =
          let below = all-has (λ (t : Seat). slice_cmp nat_cmp s.key t.key ≡ Less) ss t rise.0 h in
          let there = all-has (λ (t : Seat). D.held (register n t.key) ≡ Some t.node) ss t holds.1 h in
          let keys : t.key ≡ s.key = ap key_in (sym (seat_place n t.node t.key there) ∙ ap D.place same ∙ seat_place n s.node s.key holds.0) in
          let bad : Equal ≡ Less = sym (tied_itself nat_list_cmp_total s.key) ∙ ap (slice_cmp nat_cmp s.key) (sym keys) ∙ below in cc

  -- an item of a row stands in no register
  pub seats_apart : (n x y : NodeId) (k : List ℕ) → Has (owners_shown (content D n)) x → D.held (register n k) ≡ Some y → y ≢ x
  seats_apart n x y k h e same =
      let spots : Spot.Register (register n k) ≡ Spot.Row n (row_place n x h).0 = sym (seat_place n y k e) ∙ ap D.place same ∙ (row_place n x h).1 in cc

distinct_nodes : (ss : List Seat) → AreDistinct (λ (s : Seat). s.node) ss → AreDistinct (λ (n : NodeId). n) (map (λ (s : Seat). s.node) ss)
distinct_nodes [] a = tt
distinct_nodes (s ∷ ss) a = (
  has-all (λ y. y ≢ s.node) (map (λ (s : Seat). s.node) ss) (λ y h same. let t = has-map (λ (s : Seat). s.node) ss y h in all-has (λ (t : Seat). t.node ≢ s.node) ss t.0 a.0 t.1 (t.2 ∙ same)),
  distinct_nodes ss a.1,
)

-- ## All of them

-- the items of a node's row, and what its registers hold
abbrev pub children : Document → NodeId → List Seat → List NodeId
children D n ss = owners_shown (content D n) ++ map (λ (s : Seat). s.node) ss

module _ (D : Document) (sound : IsSoundInForm D) (n : NodeId) (ss : List Seat) (rise : KeysRise ss) (holds : Holds D sound n ss)
    (all : (k : List ℕ) (m : NodeId) → D.held (register n k) ≡ Some m → (s : Seat) × Has ss s × (s.key ≡ k)) where
  pub children_once : AreDistinct (λ (x : NodeId). x) (children D n ss)
  children_once =
      distinct-append (λ (x : NodeId). x) (owners_shown (content D n)) (map (λ (s : Seat). s.node) ss) (row_once D sound n) (distinct_nodes ss (seats_once D sound n ss rise holds))
      (λ x y h k same. (
      let t = has-map (λ (s : Seat). s.node) ss y k in
      seats_apart D sound n x t.0.node t.0.key h (all-has (λ (s : Seat). D.held (register n s.key) ≡ Some s.node) ss t.0 holds t.1) (t.2 ∙ same)))

  pub child_above : (m : NodeId) → Has (children D n ss) m → above D m ≡ Some n
  child_above m h = go (has-append (owners_shown (content D n)) (map (λ (s : Seat). s.node) ss) m h)
    where
      go : Has (owners_shown (content D n)) m ⊎ Has (map (λ (s : Seat). s.node) ss) m → above D m ≡ Some n
      go (inl k) = row_child D sound n m k
      go (inr k) =
          let t = has-map (λ (s : Seat). s.node) ss m k in
          seat_child D sound n m t.0.key (all-has (λ (s : Seat). D.held (register n s.key) ≡ Some s.node) ss t.0 holds t.1 ∙ ap (λ m. Some m) t.2)

  pub above_child : (m : NodeId) → above D m ≡ Some n → Has (children D n ss) m
  above_child m e = go (child_at D sound n m e)
    where
      go : Has (owners_shown (content D n)) m ⊎ ((k : List ℕ) × (D.held (register n k) ≡ Some m)) → Has (children D n ss) m
      go (inl h) = append_left (owners_shown (content D n)) (map (λ (s : Seat). s.node) ss) m h
      go (inr h) =
          let s = all h.0 m h.1 in
          let both : Some s.0.node ≡ Some m = sym (all-has (λ (s : Seat). D.held (register n s.key) ≡ Some s.node) ss s.0 holds s.1) ∙ ap (λ k. D.held (register n k)) s.2 ∙ h.1 in
          let same : s.0.node ≡ m = cc in
          append_right (owners_shown (content D n)) (map (λ (s : Seat). s.node) ss) m (subst (Has (map (λ (s : Seat). s.node) ss)) same (map-has (λ (s : Seat). s.node) ss s.0 s.1))
