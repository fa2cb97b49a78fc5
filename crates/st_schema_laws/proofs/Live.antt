-- What is live in a document whose part is closed is in the part, and stands there as in the whole.
use Rattle.std.proofs.Common.{◌≡◌, ◌==◌, ◌+◌, ℕ, zero, suc, Bool, true, false, cond, List, [], ◌∷◌, map, filter, length, Option, Some, None, Ok, option_map, option_and_then, slice_get, refl, sym, ap, ◌∙◌, subst, inl, inr, ◌⊎◌}
use Rattle.st_ids.specs.Listing.{Has}
use Rattle.st_ids.specs.Or.{and_then}
use Rattle.st_ids.specs.declared.names.NodeId.{NodeId}
use Rattle.st_ids.specs.declared.names.Place.{Place}
use Rattle.st_tree.specs.declared.edit.EditFault.TheVariants.{NoNode}
use Rattle.st_marks.specs.declared.intents.Owned.{Owned}
use Rattle.st_marks.specs.declared.places.Slot.{Slot}
use Rattle.st_marks.specs.declared.places.Spot.{Spot}
use Rattle.st_marks.specs.Document.{Document, IsSoundInForm, above, climb, is_cell, node_of, slot}
use Rattle.st_marks.specs.LiveTree.{live_slots}
use Rattle.st_marks.proofs.Climb.{stands}
use Rattle.st_marks.proofs.Members.{map-has}
use Rattle.st_edits.specs.Paths.{child, field_at, nodes_below_path, or_refuse, walk_from}
use Rattle.st_edits.proofs.Fits.{or_refuse-Ok, passed}
use Rattle.st_schema_laws.specs.Alike.{IsFrom}
use Rattle.st_schema_laws.proofs.Along.{child_up}
use Rattle.st_part_laws.specs.Parts.{IsClosedBy, cells_by, part_by}

module _ (p : NodeId → Bool) (D : Document) where
  -- ## Rows

  -- of cells whose owners pass, or that aren't full
  slots_kept : (os : List Owned) → ((o : Owned) → Has os o → (p o.node ≡ true) ⊎ (is_cell o.cell (D.place o.node) ≡ false))
      → filter (λ (s : Slot). s.full) (map (slot (part_by p D)) (cells_by p os)) ≡ filter (λ (s : Slot). s.full) (map (slot D) os)
  slots_kept [] each = refl
  slots_kept (o ∷ os) each = go (p o.node) refl (slots_kept os (λ q h. each q (inr h)))
    where
      go : (b : Bool) → p o.node ≡ b → filter (λ (s : Slot). s.full) (map (slot (part_by p D)) (cells_by p os)) ≡ filter (λ (s : Slot). s.full) (map (slot D) os)
          → filter (λ (s : Slot). s.full) (map (slot (part_by p D)) (cond b (o ∷ cells_by p os) (cells_by p os))) ≡ filter (λ (s : Slot). s.full) (map (slot D) (o ∷ os))
      go true e rest =
          let same : slot (part_by p D) o ≡ slot D o = ap (λ b. record { cell = o.cell; node = o.node; full = is_cell o.cell (cond b (D.place o.node) Spot.Nowhere) }) e in
          λ i. cond (same i).full (same i ∷ rest i) (rest i)
      go false e rest = rest ∙ sym (ap (λ b. cond b (slot D o ∷ filter (λ (s : Slot). s.full) (map (slot D) os)) (filter (λ (s : Slot). s.full) (map (slot D) os))) (empty (each o (inl refl))))
        where
          empty : (p o.node ≡ true) ⊎ (is_cell o.cell (D.place o.node) ≡ false) → is_cell o.cell (D.place o.node) ≡ false
          empty (inl t) = let bad : true ≡ false = sym t ∙ e in cc
          empty (inr f) = f

  module _ (s : IsSoundInForm D) (closed : IsClosedBy p D) where
    -- a full cell's owner passes where the row's node does
    pub owner_in : (n : NodeId) → p n ≡ true → (o : Owned) → Has (D.rows n) o → (p o.node ≡ true) ⊎ (is_cell o.cell (D.place o.node) ≡ false)
    owner_in n e o h = go (is_cell o.cell (D.place o.node)) refl
      where
        go : (b : Bool) → is_cell o.cell (D.place o.node) ≡ b → (p o.node ≡ true) ⊎ (is_cell o.cell (D.place o.node) ≡ false)
        go false f = inr f
        go true f =
            let there : Has (map (slot D) (D.rows n)) (record { cell = o.cell; node = o.node; full = true }) = subst (λ b. Has (map (slot D) (D.rows n)) (record { cell = o.cell; node = o.node; full = b })) f (map-has (slot D) (D.rows n) o h) in
            inl (closed o.node n (ap node_of (stands D s o.node n o.cell there)) ∙ e)

    pub slots_same : (n : NodeId) → p n ≡ true → live_slots (part_by p D) n ≡ live_slots D n
    slots_same n e =
        ap (λ b. filter (λ (s : Slot). s.full) (map (slot (part_by p D)) (cond b (cells_by p (D.rows n)) []))) e
        ∙ slots_kept (D.rows n) (owner_in n e)

    -- ## Below a node of the part

    pub below_in : (n x : NodeId) → IsFrom D n x → p x ≡ p n
    below_in n x w = go w.0 x w.1
      where
        go : (k : ℕ) (x : NodeId) → climb (above D) k x ≡ Some n → p x ≡ p n
        go zero x e = let same : x ≡ n = cc in ap p same
        go (suc k) x e = up (above D x) refl e (go k)
          where
            up : (o : Option NodeId) → above D x ≡ o → option_and_then (climb (above D) k) o ≡ Some n → ((y : NodeId) → climb (above D) k y ≡ Some n → p y ≡ p n) → p x ≡ p n
            up None q f rest = cc
            up (Some y) q f rest = closed x y q ∙ rest y f

    -- ## Paths

    pub child_same : (n : NodeId) (q : Place) → p n ≡ true → child (part_by p D) n q ≡ child D n q
    child_same n q e = λ i. cond (length q.key.0 == 0) (option_map (λ (s : Slot). s.node) (slice_get (slots_same n e i) q.index)) (cond (q.index == 0) (cond (e i) (D.held (field_at n q.key)) None) None)

    pub child_in : (n m : NodeId) (q : Place) → p n ≡ true → child D n q ≡ Some m → p m ≡ true
    child_in n m q e f = closed m n (child_up D s n m q f) ∙ e

    pub walk_in : (k : ℕ) (n m : NodeId) (path : List Place) → p n ≡ true → walk_from D k n path ≡ Ok m → p m ≡ true
    walk_in k n m [] e f = let same : n ≡ m = cc in ap p (sym same) ∙ e
    walk_in k n m (q ∷ qs) e f =
        let x = passed (or_refuse (child D n q) (NoNode k)) (λ x. walk_from D (k + 1) x qs) m f in
        walk_in (k + 1) x.0 m qs (child_in n x.0 q e (or_refuse-Ok (child D n q) (NoNode k) x.0 x.1)) x.2

    pub walk_same : (k : ℕ) (n : NodeId) (path : List Place) → p n ≡ true → walk_from (part_by p D) k n path ≡ walk_from D k n path
    walk_same k n [] e = refl
    walk_same k n (q ∷ qs) e =
        ap (λ o. and_then (or_refuse o (NoNode k)) (λ x. walk_from (part_by p D) (k + 1) x qs)) (child_same n q e)
        ∙ go (child D n q) refl (λ x f. walk_same (k + 1) x qs (child_in n x q e f))
      where
        go : (o : Option NodeId) → child D n q ≡ o → ((x : NodeId) → child D n q ≡ Some x → walk_from (part_by p D) (k + 1) x qs ≡ walk_from D (k + 1) x qs)
            → and_then (or_refuse o (NoNode k)) (λ x. walk_from (part_by p D) (k + 1) x qs) ≡ and_then (or_refuse o (NoNode k)) (λ x. walk_from D (k + 1) x qs)
        go None f rest = refl
        go (Some x) f rest = rest x f

    pub on_path_same : (n : NodeId) (path : List Place) → p n ≡ true → nodes_below_path (part_by p D) n path ≡ nodes_below_path D n path
    on_path_same n [] e = refl
    on_path_same n (q ∷ qs) e =
        ap (below (part_by p D)) (child_same n q e) ∙ go (child D n q) refl (λ x f. on_path_same x qs (child_in n x q e f))
      where
        below : Document → Option NodeId → List NodeId
        below E None = []
        below E (Some m) = m ∷ nodes_below_path E m qs

        go : (o : Option NodeId) → child D n q ≡ o → ((x : NodeId) → child D n q ≡ Some x → nodes_below_path (part_by p D) x qs ≡ nodes_below_path D x qs)
            → below (part_by p D) o ≡ below D o
        go None f rest = refl
        go (Some x) f rest = ap (λ l. x ∷ l) (rest x f)
