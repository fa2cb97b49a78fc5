-- The retreat from a document to one that it extends is sound in form and extends the later one.
use Rattle.std.proofs.Common.{◌≡◌, ◌≢◌, ℕ, zero, suc, Bool, true, false, Option, Some, None, cond, refl, sym, ap, ◌∙◌, option_and_then}
use Rattle.std.specs.Option.{option_map_or}
use Rattle.st_ids.specs.Listing.{Has}
use Rattle.st_ids.specs.declared.names.CellId.{CellId}
use Rattle.st_ids.specs.declared.names.FieldId.{FieldId}
use Rattle.st_ids.specs.declared.names.NodeId.{NodeId}
use Rattle.st_marks.specs.declared.places.Spot.{Spot}
use Rattle.st_marks.specs.Document.{Document, node_of, above, climb, ClimbsToAnEnd, IsSoundInForm, owned_cell}
use Rattle.st_marks.specs.Extends.{IsExtendedBy}
use Rattle.st_marks.specs.Back.{is_in, place_back, unless_in, retreat}
use Rattle.st_marks.proofs.Climb.{climb_end, ends_above, above_known}
use Rattle.st_marks.proofs.Later.{has_later, node_later}
use Rattle.st_marks.proofs.Full.{IsRegister, HoldsWhatIsPlaced}
use Rattle.st_marks.proofs.Turns.{grows_itself}

module _ (D E : Document) (x : IsExtendedBy D E) where
  abbrev stands_in_old : NodeId → Bool
  stands_in_old n = option_map_or (is_in D) (node_of (E.place n)) false

  -- the three cases of a place
  pub back_old : (n : NodeId) → is_in D n ≡ true → place_back D E n ≡ D.place n
  back_old n e = rw e refl

  back_out : (n : NodeId) → is_in D n ≡ false → stands_in_old n ≡ true → place_back D E n ≡ Spot.Nowhere
  back_out n e f = rw (e, f) refl

  back_stays : (n : NodeId) → is_in D n ≡ false → stands_in_old n ≡ false → place_back D E n ≡ E.place n
  back_stays n e f = rw (e, f) refl

  -- a new node that has a place after the retreat has that place in E, in a field of a new node
  back_new : (n : NodeId) (s : Spot) → s ≢ Spot.Nowhere → is_in D n ≡ false → place_back D E n ≡ s → (E.place n ≡ s) × (stands_in_old n ≡ false)
  back_new n s some e f = go (stands_in_old n) refl
    where
      go : (b : Bool) → stands_in_old n ≡ b → (E.place n ≡ s) × (stands_in_old n ≡ false)
      go true g = absurd (some (sym f ∙ back_out n e g))
      go false g = (sym (back_stays n e g) ∙ f, g)

  place_in_row : (m n : NodeId) (c : CellId) → place_back D E m ≡ Spot.Row n c → Has (E.rows n) (owned_cell c m)
  place_in_row m n c e = go (is_in D m) refl
    where
      go : (b : Bool) → is_in D m ≡ b → Has (E.rows n) (owned_cell c m)
      go true f = has_later (x.rows n) (owned_cell c m) (x.before.own_cell m n c (sym (back_old m f) ∙ e))
      go false f = x.after.own_cell m n c (back_new m (Spot.Row n c) (λ h. cc) f e).0

  -- ## Registers

  new_holder : (o : Option NodeId) (m : NodeId) → unless_in D o ≡ Some m → (o ≡ Some m) × (is_in D m ≡ false)
  new_holder None m e = cc
  new_holder (Some n) m e = go (is_in D n) refl e
    where
      go : (b : Bool) → is_in D n ≡ b → cond b None (Some n) ≡ Some m → (Some n ≡ Some m) × (is_in D m ≡ false)
      go true f e = cc
      go false f e = let q : n ≡ m = cc in (e, ap (is_in D) (sym q) ∙ f)

  held_is_placed : (m : NodeId) (r : FieldId) → (retreat D E).held r ≡ Some m → place_back D E m ≡ Spot.Register r
  held_is_placed m r e = go (is_in D r.node) refl e
    where
      go : (b : Bool) → is_in D r.node ≡ b → cond b (D.held r) (unless_in D (E.held r)) ≡ Some m → place_back D E m ≡ Spot.Register r
      go true f e = back_old m (x.before.held_known m r e).0 ∙ (x.before.one_held m r).0 e
      go false f e =
          let h = new_holder (E.held r) m e in
          let at : E.place m ≡ Spot.Register r = (x.after.one_held m r).0 h.0 in
          let new : is_in D m ≡ false = h.1 in
          rw (new, at, f) refl

  placed_is_held : (m : NodeId) (r : FieldId) → place_back D E m ≡ Spot.Register r → (retreat D E).held r ≡ Some m
  placed_is_held m r e = go (is_in D m) refl
    where
      go : (b : Bool) → is_in D m ≡ b → (retreat D E).held r ≡ Some m
      go true f =
          let h : D.held r ≡ Some m = (x.before.one_held m r).1 (sym (back_old m f) ∙ e) in
          let known : is_in D r.node ≡ true = (x.before.held_known m r h).1 in
          rw known h
      go false f =
          let h = back_new m (Spot.Register r) (λ h. cc) f e in
          let held : E.held r ≡ Some m = (x.after.one_held m r).1 h.0 in
          let new : is_in D r.node ≡ false = ap (λ s. option_map_or (is_in D) (node_of s) false) (sym h.0) ∙ h.1 in
          rw (new, held, f) refl

  pub retreat_one_held : HoldsWhatIsPlaced (retreat D E)
  retreat_one_held m r = (held_is_placed m r, placed_is_held m r)

  held_register : (m : NodeId) (r : FieldId) → (retreat D E).held r ≡ Some m → IsRegister E m r
  held_register m r e = go (is_in D r.node) e
    where
      go : (b : Bool) → cond b (D.held r) (unless_in D (E.held r)) ≡ Some m → IsRegister E m r
      go true e = let k = x.before.held_known m r e in (node_later D E x m k.0, node_later D E x r.node k.1, x.before.register_key m r e)
      go false e = let h = (new_holder (E.held r) m e).0 in let k = x.after.held_known m r h in (k.0, k.1, x.after.register_key m r h)

  -- ## Rings

  old_ends : (k : ℕ) (n : NodeId) → is_in D n ≡ true → climb (above D) k n ≡ None → ClimbsToAnEnd (above (retreat D E)) n
  old_ends zero n h e = cc
  old_ends (suc k) n h e = go (above D n) refl e (λ m i d. old_ends k m i d)
    where
      go : (o : Option NodeId) → above D n ≡ o → option_and_then (climb (above D) k) o ≡ None → ((m : NodeId) → is_in D m ≡ true → climb (above D) k m ≡ None → ClimbsToAnEnd (above (retreat D E)) m) → ClimbsToAnEnd (above (retreat D E)) n
      go None q e rest = climb_end (above (retreat D E)) n (ap node_of (back_old n h) ∙ q)
      go (Some m) q e rest = ends_above (above (retreat D E)) n m (ap node_of (back_old n h) ∙ q) (rest m (above_known D x.before n m q) e)

  new_ends : (k : ℕ) (n : NodeId) → is_in D n ≡ false → climb (above E) k n ≡ None → ClimbsToAnEnd (above (retreat D E)) n
  new_ends zero n h e = cc
  new_ends (suc k) n h e = go (stands_in_old n) refl (above E n) refl e (λ m i d. new_ends k m i d)
    where
      go : (b : Bool) → stands_in_old n ≡ b → (o : Option NodeId) → above E n ≡ o → option_and_then (climb (above E) k) o ≡ None → ((m : NodeId) → is_in D m ≡ false → climb (above E) k m ≡ None → ClimbsToAnEnd (above (retreat D E)) m) → ClimbsToAnEnd (above (retreat D E)) n
      go true f o q e rest = climb_end (above (retreat D E)) n (ap node_of (back_out n h f))
      go false f None q e rest = climb_end (above (retreat D E)) n (ap node_of (back_stays n h f) ∙ q)
      go false f (Some m) q e rest =
          let new : is_in D m ≡ false = ap (λ o. option_map_or (is_in D) o false) (sym q) ∙ f in
          ends_above (above (retreat D E)) n m (ap node_of (back_stays n h f) ∙ q) (rest m new e)

  retreat_no_ring : (n : NodeId) → ClimbsToAnEnd (above (retreat D E)) n
  retreat_no_ring n = go (is_in D n) refl
    where
      go : (b : Bool) → is_in D n ≡ b → ClimbsToAnEnd (above (retreat D E)) n
      go true f = let e = x.before.no_ring n in old_ends e.0 n f e.1
      go false f = let e = x.after.no_ring n in new_ends e.0 n f e.1

  -- ## Together

  pub retreat_sound : IsSoundInForm (retreat D E)
  retreat_sound = record {
    root_known = x.after.root_known;
    root_nowhere = back_old Rattle.st_ids.specs.Root.root x.before.root_known ∙ x.before.root_nowhere;
    one_row = x.after.one_row;
    once = x.after.once;
    short = x.after.short;
    own_cell = place_in_row;
    one_held = retreat_one_held;
    cells_known = x.after.cells_known;
    held_known = λ m r e. ((held_register m r e).0, (held_register m r e).1);
    register_key = λ m r e. (held_register m r e).2;
    no_ring = retreat_no_ring;
    in_effect = x.before.in_effect;
  }

  pub retreat_extends : IsExtendedBy E (retreat D E)
  retreat_extends = record { before = x.after; after = retreat_sound; nodes = λ n t e. e; rows = λ n. grows_itself (E.rows n); first_schema = sym x.first_schema }
