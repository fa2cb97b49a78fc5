-- The join of two parts of a commit names what they name.
use Rattle.std.proofs.Common.{◌≡◌, ◌≢◌, Bool, true, false, ◌||◌, List, [], ◌∷◌, Option, Some, None, is_some, option_and_then, option_map, refl, sym, ap, ◌∙◌, subst, inl, inr}
use Rattle.std.specs.Option.{option_or}
use Rattle.std.specs.Prelude.{if◌then◌else◌}
use Rattle.st_lemmas.proofs.Bools.{or-cases}
use Rattle.st_lemmas.proofs.Options.{is_some-option_map_or}
use Rattle.st_ids.specs.Listing.{Has}
use Rattle.st_ids.specs.Order.{same_field}
use Rattle.st_ids.specs.declared.names.CellId.{CellId}
use Rattle.st_ids.specs.declared.names.FieldId.{FieldId}
use Rattle.st_ids.specs.declared.names.NodeId.{NodeId}
use Rattle.st_ids.proofs.Orders.{same_field-itself}
use Rattle.st_marks.specs.declared.changes.NewNode.{NewNode}
use Rattle.st_marks.specs.declared.intents.Group.{Group}
use Rattle.st_marks.specs.declared.intents.Intent.{Intent}
use Rattle.st_marks.specs.declared.intents.Owned.{Owned}
use Rattle.st_marks.specs.declared.intents.To.{To}
use Rattle.st_marks.specs.declared.places.Spot.{Spot}
use Rattle.st_marks.specs.CarryOut.{full, place_after, spot_of, unless_cleared, with_groups, with_names}
use Rattle.st_marks.specs.Document.{Document, IsSoundInForm, NodeType, node_of}
use Rattle.st_marks.specs.Intent.{clears, group_at, group_cells, is_new, new_node, put_of}
use Rattle.st_marks.specs.Join.{AreParts, IsJoin, IsOldAnchor, put_unless_new, unless_cleared_by}
use Rattle.st_marks.proofs.Joined.{joined_in_turn}
use Rattle.st_marks.proofs.Lookups.{clears-has, group_at-group, group_found}
use Rattle.st_marks.proofs.Members.{all-has, append_right, flat_map-has, has-any, has-append, has-flat_map}
use Rattle.st_marks.proofs.NewRows.{old_kept, with_groups-has}
use Rattle.st_join.proofs.JoinFits.{anchor_first}
use Rattle.st_part_laws.specs.Parts.{NamesWithin}

module _ (p : NodeId → Bool) (D : Document) (N M J : Intent) (s : IsSoundInForm D) (a : AreParts D N M) (j : IsJoin N M J) (v : NamesWithin p D N) (w : NamesWithin p (full D N) M) where
  new_within : (n : NodeId) → is_new J n ≡ true → p n ≡ true
  new_within n h =
      let type_of : NewNode → NodeType = λ k. record { ty = k.ty; leaf = k.leaf } in
      let both : is_new J n ≡ (is_new N n || is_new M n) = ap (λ o. is_some (option_map type_of o)) (j.new_nodes n) ∙ is_some-option_map_or type_of (new_node N n) (new_node M n) in
      elim (or-cases (is_new N n) (is_new M n) (sym both ∙ h)) [ inl i ↦ v.new n i | inr i ↦ w.new n i ]

  -- ## Cells

  -- of a cell that is made at an anchor: its row's node, its owner and the owner of the anchor pass
  record At (n : NodeId) (c : Option CellId) (o : Owned) : Type 0 where
    node : p n ≡ true
    owner : p o.node ≡ true
    anchor : (m : NodeId) (q : Owned) → c ≡ Some q.cell → Has (D.rows m) q → p q.node ≡ true

  at_first : (n : NodeId) (c : Option CellId) (o : Owned) → Has (group_at N n c) o → At n c o
  at_first n c o h =
      let g = group_at-group N n c o h in
      record {
        node = subst (λ n. p n ≡ true) g.node (v.groups g.group g.listed);
        owner = v.owners o (flat_map-has (λ (g : Group). g.cells) N.groups g.group o g.listed g.cell);
        anchor = λ m q e i. v.anchors g.group m q g.listed (g.after ∙ e) i;
      }

  at_second : (n : NodeId) (c : Option CellId) (o : Owned) → Has (group_at M n c) o → At n c o
  at_second n c o h =
      let g = group_at-group M n c o h in
      record {
        node = subst (λ n. p n ≡ true) g.node (w.groups g.group g.listed);
        owner = w.owners o (flat_map-has (λ (g : Group). g.cells) M.groups g.group o g.listed g.cell);
        anchor = λ m q e i. w.anchors g.group m q g.listed (g.after ∙ e) (append_right (group_at N m None) (with_groups N m (D.rows m)) q (old_kept N m (D.rows m) q i));
      }

  at_join : (n : NodeId) (c : Option CellId) (o : Owned) → IsOldAnchor N c → Has (group_at J n c) o → At n c o
  at_join n c o old h = elim (has-append (group_at M n c) (with_groups M n (group_at N n c)) o (subst (λ l. Has l o) (j.groups n c old) h)) [
    | inl i ↦ at_second n c o i
    | inr i ↦ elim (with_groups-has M n (group_at N n c) o i) [
      | inl l ↦ at_first n c o l
      | inr l ↦ (let k = at_first n c l.0 l.1 in record { node = k.node; owner = (at_second n (Some l.0.cell) o l.2).owner; anchor = k.anchor })
    ]
  ]

  of_group : (g : Group) (o : Owned) → Has J.groups g → Has g.cells o → At g.node g.after o
  of_group g o h i = at_join g.node g.after o (anchor_first D N M J s a j g h) (subst (λ l. Has l o) (sym (group_found J j.itself g h)) i)

  some_cell : (g : Group) → Has J.groups g → (o : Owned) × Has g.cells o
  some_cell g h = go g.cells refl (all-has (λ (g : Group). g.cells ≢ []) J.groups g j.itself.group_some h)
    where
      go : (os : List Owned) → g.cells ≡ os → (g.cells ≢ []) → (o : Owned) × Has g.cells o
      go [] e some = absurd (some e)
      go (o ∷ os) e some = (o, subst (λ l. Has l o) (sym e) (inl refl))

  group_within : (g : Group) → Has J.groups g → p g.node ≡ true
  group_within g h = let c = some_cell g h in (of_group g c.0 h c.1).node

  anchor_within : (g : Group) (n : NodeId) (o : Owned) → Has J.groups g → g.after ≡ Some o.cell → Has (D.rows n) o → p o.node ≡ true
  anchor_within g n o h e i = let c = some_cell g h in (of_group g c.0 h c.1).anchor n o e i

  owner_within : (o : Owned) → Has (group_cells J) o → p o.node ≡ true
  owner_within o h = let g = has-flat_map (λ (g : Group). g.cells) J.groups o h in (of_group g.0 o g.1 g.2).owner

  -- ## Puts

  -- a node that the join puts is put by one of the parts
  put_by_one : (m : NodeId) (to : To) → put_of J m ≡ Some to → put_of M m ≡ None → put_of N m ≡ None → ⊥
  put_by_one m to e q r =
      let bad : None ≡ Some to = subst (λ x. option_and_then (put_unless_new (is_new N m)) (option_or x (option_map (unless_cleared_by M) None)) ≡ Some to) q
      (subst (λ y. option_and_then (put_unless_new (is_new N m)) (option_or (put_of M m) (option_map (unless_cleared_by M) y)) ≡ Some to) r (sym (j.puts m) ∙ e)) in
      cc

  put_within : (m : NodeId) (to : To) → put_of J m ≡ Some to → p m ≡ true
  put_within m to e = go (put_of M m) refl (put_of N m) refl
    where
      go : (x : Option To) → put_of M m ≡ x → (y : Option To) → put_of N m ≡ y → p m ≡ true
      go (Some t) q y r = w.puts m t q
      go None q (Some t) r = v.puts m t r
      go None q None r = absurd (put_by_one m to e q r)

  not_cleared : (n : NodeId) (x : Spot) → node_of (unless_cleared M x) ≡ Some n → node_of x ≡ Some n
  not_cleared n Spot.Nowhere k = k
  not_cleared n (Spot.Row r c) k = k
  not_cleared n (Spot.Register f) k = go (clears M f) k
    where
      go : (b : Bool) → node_of (if b then Spot.Nowhere else Spot.Register f) ≡ Some n → Some f.node ≡ Some n
      go true k = let bad : None ≡ Some n = k in cc
      go false k = k

  target_within : (m n : NodeId) (to : To) → put_of J m ≡ Some to → node_of (spot_of (with_names D J).row_of to) ≡ Some n → p n ≡ true
  target_within m n to e k =
      let at : spot_of (with_names D J).row_of to ≡ (full (full D N) M).place m =
      ap (λ o. place_after (with_names D J).row_of J o (D.place m)) (sym e) ∙ ap (λ (F : Document). F.place m) (joined_in_turn D N M J s a j) in
      second (put_of M m) refl (ap node_of (sym at) ∙ k)
    where
      first : put_of M m ≡ None → (y : Option To) → put_of N m ≡ y → node_of (place_after (with_names D N).row_of N y (D.place m)) ≡ Some n → p n ≡ true
      first q (Some t) r k = v.targets m n t r k
      first q None r k = absurd (put_by_one m to e q r)

      second : (x : Option To) → put_of M m ≡ x → node_of (place_after (with_names (full D N) M).row_of M x ((full D N).place m)) ≡ Some n → p n ≡ true
      second (Some t) q k = w.targets m n t q k
      second None q k = first q (put_of N m) refl (not_cleared n ((full D N).place m) k)

  clear_within : (f : FieldId) → Has J.clear f → p f.node ≡ true
  clear_within f h = elim (or-cases (clears N f) (clears M f) (sym (j.clears_both f) ∙ has-any (λ g. same_field g f) J.clear f h (same_field-itself f))) [
    | inl c ↦ v.clears f (clears-has N.clear f c)
    | inr c ↦ w.clears f (clears-has M.clear f c)
  ]

  need_within : (n : NodeId) → Has J.need n → p n ≡ true
  need_within n h = elim ((j.needs n).0 h) [ inl i ↦ v.needs n i | inr i ↦ w.needs n i.0 ]

  pub join_within : NamesWithin p D J
  join_within = record {
    new = new_within;
    groups = group_within;
    owners = owner_within;
    anchors = anchor_within;
    puts = put_within;
    targets = target_within;
    clears = clear_within;
    needs = need_within;
  }
