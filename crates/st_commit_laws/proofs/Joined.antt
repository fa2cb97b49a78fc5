-- Two parts of a commit that can be told can be told as one.
use Rattle.std.proofs.Common.{◌≡◌, ℕ, Bool, true, false, cond, ◌||◌, List, ◌++◌, Option, Some, None, IfSome, IsSome, option_map, option_and_then, refl, sym, ◌∙◌, subst, inl, inr}
use Rattle.std.specs.Option.{option_or}
use Rattle.st_ids.specs.Listing.{Has}
use Rattle.st_ids.specs.Order.{same_field, same_node}
use Rattle.st_ids.proofs.Orders.{same_field-itself, same_node-itself, same_node-true}
use Rattle.st_ids.specs.declared.names.Atom.{Atom}
use Rattle.st_ids.specs.declared.names.CellId.{CellId}
use Rattle.st_ids.specs.declared.names.FieldId.{FieldId}
use Rattle.st_ids.specs.declared.names.NodeId.{NodeId}
use Rattle.st_marks.specs.declared.changes.NewNode.{NewNode}
use Rattle.st_marks.specs.declared.intents.Group.{Group}
use Rattle.st_marks.specs.declared.intents.Intent.{Intent}
use Rattle.st_marks.specs.declared.intents.Owned.{Owned}
use Rattle.st_marks.specs.declared.intents.Put.{Put}
use Rattle.st_marks.specs.declared.intents.To.{To}
use Rattle.st_marks.specs.CarryOut.{with_groups}
use Rattle.st_marks.specs.Intent.{IsIntent, clears, group_at, group_cells, is_new, new_node, new_row_of, put_of}
use Rattle.st_marks.specs.Join.{IsJoin, IsOldAnchor, joined_put, put_unless_new, unless_cleared_by}
use Rattle.st_marks.proofs.Lookups.{clears-has, group_found, group-new_row_of, has-put, made_there, put-has}
use Rattle.st_marks.proofs.Members.{all-has, append_right, first-distinct, first-has, has-all, has-any, has-append, has-flat_map}
use Rattle.st_marks.proofs.NewRows.{made_listed, old_kept, with_groups-has}
use Rattle.st_change_laws.specs.Within.{IntentIsWithin, IsSchemaText, KeyIsShort, NewIsWithin}
use Rattle.st_commit_laws.proofs.Edits.{PutIsShort}

module _ (A : Atom → Type 0) (N M J : Intent) (w : IsIntent N) (j : IsJoin N M J) (n : IntentIsWithin A N) (m : IntentIsWithin A M) where
  -- ## New nodes

  new_within : (x : NewNode) → Has J.new x → NewIsWithin A x
  new_within x i = go (new_node N x.node) refl (new_node M x.node) refl (sym (j.new_nodes x.node) ∙ found)
    where
      found : new_node J x.node ≡ Some x
      found = first-distinct (λ (y : NewNode). y.node) J.new (λ (y : NewNode). same_node y.node x.node) x j.itself.new_once i (same_node-itself x.node) (λ y e. same_node-true y.node x.node e)

      of : (L : Intent) → IntentIsWithin A L → (y : NewNode) → new_node L x.node ≡ Some y → NewIsWithin A y
      of L l y e = all-has (NewIsWithin A) L.new y l.new (first-has (λ (z : NewNode). same_node z.node x.node) L.new y e).0

      go : (o : Option NewNode) → new_node N x.node ≡ o → (p : Option NewNode) → new_node M x.node ≡ p → option_or o p ≡ Some x → NewIsWithin A x
      go (Some y) e p f g = let same : y ≡ x = cc in subst (NewIsWithin A) same (of N n y e)
      go None e (Some y) f g = let same : y ≡ x = cc in subst (NewIsWithin A) same (of M m y f)
      go None e None f g = absurd (let bad : None ≡ Some x = g in cc)

  -- ## Cells

  old_anchor : (a : Option CellId) → IfSome a (λ d. new_row_of N d ≡ None) → IsOldAnchor N a
  old_anchor None h = tt
  old_anchor (Some d) h = h

  -- a cell that the first part makes is one that the join makes
  made_too : (c : CellId) (r : NodeId) → new_row_of N c ≡ Some r → IsSome (new_row_of J c)
  made_too c r e =
      let g = group-new_row_of N c r e in
      let old : IsOldAnchor N g.0.after = old_anchor g.0.after (all-has (λ (k : Group). IfSome k.after (λ d. new_row_of N d ≡ None)) N.groups g.0 w.anchor_old g.1) in
      let in_n : Has (group_at N g.0.node g.0.after) g.3.0 = subst (λ (l : List Owned). Has l g.3.0) (sym (group_found N w g.0 g.1)) g.3.1 in
      let in_both : Has (group_at M g.0.node g.0.after ++ with_groups M g.0.node (group_at N g.0.node g.0.after)) g.3.0 =
      append_right (group_at M g.0.node g.0.after) (with_groups M g.0.node (group_at N g.0.node g.0.after)) g.3.0 (old_kept M g.0.node (group_at N g.0.node g.0.after) g.3.0 in_n) in
      let in_j : Has (group_at J g.0.node g.0.after) g.3.0 = subst (λ (l : List Owned). Has l g.3.0) (sym (j.groups g.0.node g.0.after old)) in_both in
      subst (λ (d : CellId). IsSome (new_row_of J d)) g.3.2 (made_there J g.3.0 (made_listed J g.0.node g.0.after g.3.0 in_j))

  -- the anchor of a group of the join is none of the first part's cells
  anchored : (a : Option CellId) → IfSome a (λ d. new_row_of J d ≡ None) → IsOldAnchor N a
  anchored None h = tt
  anchored (Some d) h = go (new_row_of N d) refl
    where
      go : (o : Option NodeId) → new_row_of N d ≡ o → new_row_of N d ≡ None
      go None e = e
      go (Some r) e = let some : IsSome (new_row_of J d) = made_too d r e in let bad = rw h at some in cc

  cell_within : (o : Owned) → Has (group_cells J) o → A o.cell.0
  cell_within o i =
      let g = has-flat_map (λ (g : Group). g.cells) J.groups o i in
      let old = anchored g.0.after (all-has (λ (k : Group). IfSome k.after (λ d. new_row_of J d ≡ None)) J.groups g.0 j.itself.anchor_old g.1) in
      let there = subst (λ (l : List Owned). Has l o) (sym (group_found J j.itself g.0 g.1) ∙ j.groups g.0.node g.0.after old) g.2 in
      at g.0.node g.0.after there
    where
      of : (L : Intent) → IntentIsWithin A L → (k : NodeId) (a : Option CellId) → Has (group_at L k a) o → A o.cell.0
      of L l k a h = all-has (λ (p : Owned). A p.cell.0) (group_cells L) o l.cells (made_listed L k a o h)

      at : (k : NodeId) (a : Option CellId) → Has (group_at M k a ++ with_groups M k (group_at N k a)) o → A o.cell.0
      at k a h = elim (has-append (group_at M k a) (with_groups M k (group_at N k a)) o h) [
        | inl i ↦ of M m k a i
        | inr i ↦ elim (with_groups-has M k (group_at N k a) o i) [ inl x ↦ of N n k a x | inr x ↦ of M m k (Some x.0.cell) x.2 ]
      ]

  -- ## Puts and clears

  put_short : (L : Intent) → IntentIsWithin A L → (k : NodeId) (to : To) → put_of L k ≡ Some to → PutIsShort to
  put_short L l k to e = all-has (λ (p : Put). PutIsShort p.to) L.put (record { node = k; to = to }) l.puts (put-has L k to e)

  uncleared_short : (to : To) → PutIsShort to → PutIsShort (unless_cleared_by M to)
  uncleared_short To.Nowhere h = tt
  uncleared_short (To.Cell c) h = tt
  uncleared_short (To.Register f) h = go (clears M f)
    where
      go : (b : Bool) → PutIsShort (cond b To.Nowhere (To.Register f))
      go true = tt
      go false = h

  kept_short : (b : Bool) (to now : To) → put_unless_new b to ≡ Some now → PutIsShort to → PutIsShort now
  kept_short true To.Nowhere now e h = absurd (let bad : None ≡ Some now = e in cc)
  kept_short false To.Nowhere now e h = let same : To.Nowhere ≡ now = cc in subst PutIsShort same h
  kept_short b (To.Cell c) now e h = let same : To.Cell c ≡ now = cc in subst PutIsShort same h
  kept_short b (To.Register f) now e h = let same : To.Register f ≡ now = cc in subst PutIsShort same h

  joined_short : (k : NodeId) (to : To) → joined_put N M k ≡ Some to → PutIsShort to
  joined_short k to e = go (put_of M k) refl (put_of N k) refl e
    where
      go : (o : Option To) → put_of M k ≡ o → (p : Option To) → put_of N k ≡ p → option_and_then (put_unless_new (is_new N k)) (option_or o (option_map (unless_cleared_by M) p)) ≡ Some to → PutIsShort to
      go (Some t) q p r f = kept_short (is_new N k) t to f (put_short M m k t q)
      go None q (Some t) r f = kept_short (is_new N k) (unless_cleared_by M t) to f (uncleared_short t (put_short N n k t r))
      go None q None r f = absurd (let bad : None ≡ Some to = f in cc)

  put_within : (p : Put) → Has J.put p → PutIsShort p.to
  put_within p i = joined_short p.node p.to (sym (j.puts p.node) ∙ has-put J j.itself p i)

  clear_within : (f : FieldId) → Has J.clear f → KeyIsShort f
  clear_within f i = go (clears N f) refl (clears M f) refl (sym (j.clears_both f) ∙ has-any (λ g. same_field g f) J.clear f i (same_field-itself f))
    where
      of : (L : Intent) → IntentIsWithin A L → clears L f ≡ true → KeyIsShort f
      of L l e = all-has KeyIsShort L.clear f l.clears (clears-has L.clear f e)

      go : (b : Bool) → clears N f ≡ b → (c : Bool) → clears M f ≡ c → (b || c) ≡ true → KeyIsShort f
      go true p c q e = of N n p
      go false p true q e = of M m q
      go false p false q e = absurd (cc)

  pub joined_within : IntentIsWithin A J
  joined_within = record {
    new = has-all (NewIsWithin A) J.new new_within;
    cells = has-all (λ (o : Owned). A o.cell.0) (group_cells J) cell_within;
    puts = has-all (λ (p : Put). PutIsShort p.to) J.put put_within;
    clears = has-all KeyIsShort J.clear clear_within;
    schema = subst (λ (o : Option (List ℕ)). IfSome o IsSchemaText) (sym j.no_schema) tt;
  }
