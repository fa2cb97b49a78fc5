-- Two parts joined fit where the first does.
use Rattle.std.proofs.Common.{◌≡◌, ◌≢◌, ◌||◌, Bool, true, false, List, [], ◌∷◌, Option, Some, None, IsSome, IsTrue, IfSome, is_some, cond, option_map, option_and_then, refl, sym, ap, ◌∙◌, subst, inl, inr}
use Rattle.std.specs.Option.{option_or}
use Rattle.st_ids.specs.Listing.{Has}
use Rattle.st_ids.specs.Order.{same_field}
use Rattle.st_ids.specs.declared.names.CellId.{CellId}
use Rattle.st_ids.specs.declared.names.FieldId.{FieldId}
use Rattle.st_ids.specs.declared.names.NodeId.{NodeId}
use Rattle.st_ids.proofs.Orders.{same_field-itself}
use Rattle.st_marks.specs.declared.intents.Group.{Group}
use Rattle.st_marks.specs.declared.intents.Intent.{Intent}
use Rattle.st_marks.specs.declared.intents.Owned.{Owned}
use Rattle.st_marks.specs.declared.intents.Put.{Put}
use Rattle.st_marks.specs.declared.intents.To.{To}
use Rattle.st_marks.specs.Document.{Document, NodeType, IsSoundInForm, owned_cell}
use Rattle.st_marks.specs.Intent.{Fits, IsKnown, Owns, cell_of, register_of, clears, group_at, group_cells, is_new, new_row_of, new_type, put_of}
use Rattle.st_marks.specs.CarryOut.{full, with_groups}
use Rattle.st_marks.specs.Join.{AreParts, IsJoin, IsOldAnchor, put_unless_new, unless_cleared_by}
use Rattle.st_marks.proofs.Members.{all-has, has-all, append_left, append_right, has-append, flat_map-has, has-flat_map, has-any}
use Rattle.st_marks.proofs.Lookups.{clears-has, group_at-group, group_found, has-put}
use Rattle.st_marks.proofs.NewRows.{made_kept, old_kept, with_groups-has, old_or_made}
use Rattle.st_marks.proofs.Full.{known_put}
use Rattle.st_join.proofs.Rows.{first_group, new_row_joined, type_joined}

module _ (D : Document) (N M J : Intent) (s : IsSoundInForm D) (p : AreParts D N M) (j : IsJoin N M J) where
  -- ## What is known

  new_first : (n : NodeId) → IsTrue (is_new N n) → IsTrue (is_new J n)
  new_first n h = rw (type_joined D N M J s p j n) (go (new_type N n) h)
    where
      go : (o : Option NodeType) → IsTrue (is_some o) → IsTrue (is_some (option_or o (new_type M n)))
      go None h = let bad : false ≡ true = h in cc
      go (Some t) h = refl

  new_second : (n : NodeId) → IsTrue (is_new M n) → IsTrue (is_new J n)
  new_second n h = rw (type_joined D N M J s p j n) (go (new_type N n))
    where
      go : (o : Option NodeType) → IsTrue (is_some (option_or o (new_type M n)))
      go None = h
      go (Some t) = refl

  there_first : (n : NodeId) → IsSome ((full D N).nodes n) → IsKnown D J n
  there_first n h = go (D.nodes n) refl h
    where
      go : (o : Option NodeType) → D.nodes n ≡ o → IsSome (option_or o (new_type N n)) → IsKnown D J n
      go None e h = inl (new_first n h)
      go (Some t) e h = inr (ap is_some e)

  known_first : (n : NodeId) → IsKnown D N n → IsKnown D J n
  known_first n (inl h) = inl (new_first n h)
  known_first n (inr h) = inr h

  known_second : (n : NodeId) → IsKnown (full D N) M n → IsKnown D J n
  known_second n (inl h) = inl (new_second n h)
  known_second n (inr h) = there_first n h

  -- ## What is new

  fresh_node : (n : NodeId) → IsTrue (is_new J n) → D.nodes n ≡ None
  fresh_node n h = go (new_type N n) refl (rw (type_joined D N M J s p j n) at h)
    where
      before : (o : Option NodeType) → option_or o (new_type N n) ≡ None → o ≡ None
      before None e = refl
      before (Some t) e = let bad : Some t ≡ None = e in cc

      go : (o : Option NodeType) → new_type N n ≡ o → IsTrue (is_some (option_or o (new_type M n))) → D.nodes n ≡ None
      go None e h = before (D.nodes n) (p.then_fits.fresh_nodes n h)
      go (Some t) e h = p.first_fits.fresh_nodes n (ap is_some e)

  fresh_cell : (c : CellId) → IsSome (new_row_of J c) → D.row_of c ≡ None
  fresh_cell c h = go (new_row_of N c) refl (rw (new_row_joined D N M J s p j c) at h)
    where
      before : (o : Option NodeId) → option_or o (new_row_of N c) ≡ None → o ≡ None
      before None e = refl
      before (Some n) e = let bad : Some n ≡ None = e in cc

      go : (o : Option NodeId) → new_row_of N c ≡ o → IsSome (option_or o (new_row_of M c)) → D.row_of c ≡ None
      go None e h = before (D.row_of c) (p.then_fits.fresh_cells c h)
      go (Some n) e h = p.first_fits.fresh_cells c (ap is_some e)

  -- ## Cells

  -- what a part makes at an anchor: its row's node and its owner are known, and an anchor that D could have is in that row
  record At (n : NodeId) (a : Option CellId) (o : Owned) : Type 0 where
    node : IsKnown D J n
    owner : IsKnown D J o.node
    anchor : IsOldAnchor N a → IfSome a (λ c. D.row_of c ≡ Some n)

  if_old : (n : NodeId) (a : Option CellId) → IfSome a (λ c. (full D N).row_of c ≡ Some n) → IsOldAnchor N a → IfSome a (λ c. D.row_of c ≡ Some n)
  if_old n None k old = tt
  if_old n (Some c) k old = go (D.row_of c) refl k
    where
      go : (o : Option NodeId) → D.row_of c ≡ o → option_or o (new_row_of N c) ≡ Some n → D.row_of c ≡ Some n
      go None e k = let bad : None ≡ Some n = sym old ∙ k in cc
      go (Some r) e k = e ∙ k

  at_first : (n : NodeId) (a : Option CellId) (o : Owned) → Has (group_at N n a) o → At n a o
  at_first n a o h =
      let g = group_at-group N n a o h in
      let k = all-has (λ (g : Group). IsKnown D N g.node × IfSome g.after (λ c. D.row_of c ≡ Some g.node)) N.groups g.group p.first_fits.groups_known g.listed in
      record {
        node = known_first n (subst (IsKnown D N) g.node k.0);
        owner = known_first o.node (all-has (λ (o : Owned). IsKnown D N o.node) (group_cells N) o p.first_fits.owners_known (flat_map-has (λ (g : Group). g.cells) N.groups g.group o g.listed g.cell));
        anchor = λ _. subst (λ a. IfSome a (λ c. D.row_of c ≡ Some n)) g.after (subst (λ n. IfSome g.group.after (λ c. D.row_of c ≡ Some n)) g.node k.1);
      }

  at_second : (n : NodeId) (a : Option CellId) (o : Owned) → Has (group_at M n a) o → At n a o
  at_second n a o h =
      let g = group_at-group M n a o h in
      let k = all-has (λ (g : Group). IsKnown (full D N) M g.node × IfSome g.after (λ c. (full D N).row_of c ≡ Some g.node)) M.groups g.group p.then_fits.groups_known g.listed in
      record {
        node = known_second n (subst (IsKnown (full D N) M) g.node k.0);
        owner = known_second o.node (all-has (λ (o : Owned). IsKnown (full D N) M o.node) (group_cells M) o p.then_fits.owners_known (flat_map-has (λ (g : Group). g.cells) M.groups g.group o g.listed g.cell));
        anchor = if_old n a (subst (λ a. IfSome a (λ c. (full D N).row_of c ≡ Some n)) g.after (subst (λ n. IfSome g.group.after (λ c. (full D N).row_of c ≡ Some n)) g.node k.1));
      }

  -- what the join makes at an anchor
  at_join : (n : NodeId) (a : Option CellId) (o : Owned) → IsOldAnchor N a → Has (group_at J n a) o → IsKnown D J n × IsKnown D J o.node × IfSome a (λ c. D.row_of c ≡ Some n)
  at_join n a o old h = elim (has-append (group_at M n a) (with_groups M n (group_at N n a)) o (subst (λ l. Has l o) (j.groups n a old) h)) [
    | inl i ↦ (let k = at_second n a o i in (k.node, k.owner, k.anchor old))
    | inr i ↦ elim (with_groups-has M n (group_at N n a) o i) [
      | inl l ↦ (let k = at_first n a o l in (k.node, k.owner, k.anchor old))
      | inr l ↦ (let k = at_first n a l.0 l.1 in let m = at_second n (Some l.0.cell) o l.2 in (k.node, m.owner, k.anchor old))
    ]
  ]

  -- an anchor of the join is no cell that the first makes
  pub anchor_first : (g : Group) → Has J.groups g → IsOldAnchor N g.after
  anchor_first g h = go g.after (all-has (λ (g : Group). IfSome g.after (λ c. new_row_of J c ≡ None)) J.groups g j.itself.anchor_old h)
    where
      none_first : (a b : Option NodeId) → option_or a b ≡ None → a ≡ None
      none_first None b e = refl
      none_first (Some n) b e = let bad : Some n ≡ None = e in cc

      go : (a : Option CellId) → IfSome a (λ c. new_row_of J c ≡ None) → IsOldAnchor N a
      go None k = tt
      go (Some c) k = none_first (new_row_of N c) (new_row_of M c) (sym (new_row_joined D N M J s p j c) ∙ k)

  cells_of_group : (g : Group) (o : Owned) → Has J.groups g → Has g.cells o → IsKnown D J g.node × IsKnown D J o.node × IfSome g.after (λ c. D.row_of c ≡ Some g.node)
  cells_of_group g o h i = at_join g.node g.after o (anchor_first g h) (subst (λ l. Has l o) (sym (group_found J j.itself g h)) i)

  groups_there : (g : Group) → Has J.groups g → IsKnown D J g.node × IfSome g.after (λ c. D.row_of c ≡ Some g.node)
  groups_there g h = go g.cells refl (all-has (λ (g : Group). g.cells ≢ []) J.groups g j.itself.group_some h)
    where
      go : (os : List Owned) → g.cells ≡ os → (g.cells ≢ []) → IsKnown D J g.node × IfSome g.after (λ c. D.row_of c ≡ Some g.node)
      go [] e some = absurd (some e)
      go (o ∷ os) e some = let k = cells_of_group g o h (subst (λ l. Has l o) (sym e) (inl refl)) in (k.0, k.2)

  owners_there : (o : Owned) → Has (group_cells J) o → IsKnown D J o.node
  owners_there o h = let g = has-flat_map (λ (g : Group). g.cells) J.groups o h in (cells_of_group g.0 o g.1 g.2).1

  -- ## Cells of the parts are cells of the join, with their owners

  listed : (n : NodeId) (a : Option CellId) (o : Owned) → Has (group_at J n a) o → Has (group_cells J) o
  listed n a o h = let g = group_at-group J n a o h in flat_map-has (λ (g : Group). g.cells) J.groups g.group o g.listed g.cell

  old_anchor : (g : Group) → Has N.groups g → IsOldAnchor N g.after
  old_anchor g h = go g.after (all-has (λ (g : Group). IfSome g.after (λ c. new_row_of N c ≡ None)) N.groups g p.first_fits.itself.anchor_old h)
    where
      go : (a : Option CellId) → IfSome a (λ c. new_row_of N c ≡ None) → IsOldAnchor N a
      go None k = tt
      go (Some c) k = k

  pub cell_first : (o : Owned) → Has (group_cells N) o → Has (group_cells J) o
  cell_first o h =
      let g = has-flat_map (λ (g : Group). g.cells) N.groups o h in
      let here = subst (λ l. Has l o) (sym (group_found N p.first_fits.itself g.0 g.1)) g.2 in
      listed g.0.node g.0.after o (subst (λ l. Has l o) (sym (j.groups g.0.node g.0.after (old_anchor g.0 g.1)))
      (append_right (group_at M g.0.node g.0.after) (with_groups M g.0.node (group_at N g.0.node g.0.after)) o (old_kept M g.0.node (group_at N g.0.node g.0.after) o here)))

  pub cell_second : (o : Owned) → Has (group_cells M) o → Has (group_cells J) o
  cell_second o h =
      let g = has-flat_map (λ (g : Group). g.cells) M.groups o h in
      let k = all-has (λ (g : Group). IsKnown (full D N) M g.node × IfSome g.after (λ c. (full D N).row_of c ≡ Some g.node)) M.groups g.0 p.then_fits.groups_known g.1 in
      go g.0.node g.0.after (subst (λ l. Has l o) (sym (group_found M p.then_fits.itself g.0 g.1)) g.2) k.1
    where
      go : (n : NodeId) (a : Option CellId) → Has (group_at M n a) o → IfSome a (λ c. (full D N).row_of c ≡ Some n) → Has (group_cells J) o
      go n None i k = listed n None o (subst (λ l. Has l o) (sym (j.groups n None tt)) (append_left (group_at M n None) (with_groups M n (group_at N n None)) o i))
      go n (Some d) i k = look (new_row_of N d) refl
        where
          look : (q : Option NodeId) → new_row_of N d ≡ q → Has (group_cells J) o
          look None e = listed n (Some d) o (subst (λ l. Has l o) (sym (j.groups n (Some d) e)) (append_left (group_at M n (Some d)) (with_groups M n (group_at N n (Some d))) o i))
          look (Some r) e =
              let gone : D.row_of d ≡ None = p.first_fits.fresh_cells d (ap is_some e) in
              let row : Some r ≡ Some n = rw (gone, e) at k in
              let same : r ≡ n = cc in
              let g = first_group D N M J s p j d n (e ∙ ap (λ n. Some n) same) in
              listed n g.0 o (subst (λ l. Has l o) (sym (j.groups n g.0 g.1))
              (append_right (group_at M n g.0) (with_groups M n (group_at N n g.0)) o
              (made_kept M n (group_at N n g.0) g.2.0 o g.2.1 (subst (λ c. Has (group_at M n (Some c)) o) (sym g.2.2) i))))

  -- ## Puts

  owns_first : (m : NodeId) (c : CellId) → Owns D N m c → Owns D J m c
  owns_first m c (inl h) = inl h
  owns_first m c (inr h) = inr (cell_first (owned_cell c m) h)

  owns_second : (m : NodeId) (c : CellId) → Owns (full D N) M m c → Owns D J m c
  owns_second m c (inr h) = inr (cell_second (owned_cell c m) h)
  owns_second m c (inl h) = elim (old_or_made D N h.0 (owned_cell c m) h.1) [ inl i ↦ inl (h.0, i) | inr i ↦ inr (cell_first (owned_cell c m) i) ]

  abbrev KnownPut : NodeId → To → Type 0
  KnownPut m to = IsKnown D J m × IfSome (cell_of to) (Owns D J m) × IfSome (register_of to) (λ (r : FieldId). IsKnown D J r.node)

  put_first : (m : NodeId) (to : To) → put_of N m ≡ Some to → KnownPut m (unless_cleared_by M to)
  put_first m to e = go to (known_put D N p.first_fits m to e)
    where
      open_register : (b : Bool) (r : FieldId) → IsKnown D J m → IsKnown D J r.node → KnownPut m (cond b To.Nowhere (To.Register r))
      open_register true r k l = (k, tt, tt)
      open_register false r k l = (k, tt, l)

      go : (to : To) → IsKnown D N m × IfSome (cell_of to) (Owns D N m) × IfSome (register_of to) (λ (r : FieldId). IsKnown D N r.node) → KnownPut m (unless_cleared_by M to)
      go To.Nowhere k = (known_first m k.0, tt, tt)
      go (To.Cell c) k = (known_first m k.0, owns_first m c k.1, tt)
      go (To.Register r) k = open_register (clears M r) r (known_first m k.0) (known_first r.node k.2)

  put_second : (m : NodeId) (to : To) → put_of M m ≡ Some to → KnownPut m to
  put_second m to e = go to (known_put (full D N) M p.then_fits m to e)
    where
      go : (to : To) → IsKnown (full D N) M m × IfSome (cell_of to) (Owns (full D N) M m) × IfSome (register_of to) (λ (r : FieldId). IsKnown (full D N) M r.node) → KnownPut m to
      go To.Nowhere k = (known_second m k.0, tt, tt)
      go (To.Cell c) k = (known_second m k.0, owns_second m c k.1, tt)
      go (To.Register r) k = (known_second m k.0, tt, known_second r.node k.2)

  put_kept : (m : NodeId) (b : Bool) (to t : To) → put_unless_new b to ≡ Some t → KnownPut m to → KnownPut m t
  put_kept m true To.Nowhere t e k = let bad : None ≡ Some t = e in cc
  put_kept m false To.Nowhere t e k = let q : To.Nowhere ≡ t = cc in subst (KnownPut m) q k
  put_kept m b (To.Cell c) t e k = let q : To.Cell c ≡ t = cc in subst (KnownPut m) q k
  put_kept m b (To.Register r) t e k = let q : To.Register r ≡ t = cc in subst (KnownPut m) q k

  puts_there : (q : Put) → Has J.put q → KnownPut q.node q.to
  puts_there q h = go (put_of M q.node) refl (put_of N q.node) refl (sym (j.puts q.node) ∙ has-put J j.itself q h)
    where
      go : (b : Option To) → put_of M q.node ≡ b → (a : Option To) → put_of N q.node ≡ a
          → option_and_then (put_unless_new (is_new N q.node)) (option_or b (option_map (unless_cleared_by M) a)) ≡ Some q.to → KnownPut q.node q.to
      go (Some to) e a l k = put_kept q.node (is_new N q.node) to q.to k (put_second q.node to e)
      go None e (Some to) l k = put_kept q.node (is_new N q.node) (unless_cleared_by M to) q.to k (put_first q.node to l)
      go None e None l k = let bad : None ≡ Some q.to = k in cc

  clears_there : (r : FieldId) → Has J.clear r → IsKnown D J r.node
  clears_there r h = go (clears N r) refl (clears M r) refl (sym (j.clears_both r) ∙ has-any (λ g. same_field g r) J.clear r h (same_field-itself r))
    where
      go : (a : Bool) → clears N r ≡ a → (b : Bool) → clears M r ≡ b → (a || b) ≡ true → IsKnown D J r.node
      go true e b l k = known_first r.node (all-has (λ (r : FieldId). IsKnown D N r.node) N.clear r p.first_fits.clears_known (clears-has N.clear r e))
      go false e true l k = known_second r.node (all-has (λ (r : FieldId). IsKnown (full D N) M r.node) M.clear r p.then_fits.clears_known (clears-has M.clear r l))
      go false e false l k = let bad : false ≡ true = k in cc

  needs_there : (n : NodeId) → Has J.need n → IsSome (D.nodes n)
  needs_there n h = elim ((j.needs n).0 h) [
    | inl i ↦ all-has (λ n. IsSome (D.nodes n)) N.need n p.first_fits.needs_known i
    | inr i ↦ old (D.nodes n) (new_type N n) refl i.1 (all-has (λ n. IsSome ((full D N).nodes n)) M.need n p.then_fits.needs_known i.0)
  ]
    where
      old : (a b : Option NodeType) → b ≡ b → is_some b ≡ false → IsSome (option_or a b) → IsSome a
      old (Some t) b e f k = refl
      old None b e f k = let bad : false ≡ true = sym f ∙ k in cc

  pub joins_fit : Fits D J
  joins_fit = record {
    itself = j.itself;
    fresh_nodes = fresh_node;
    fresh_cells = fresh_cell;
    fresh_schema = rw j.no_schema tt;
    groups_known = has-all (λ (g : Group). IsKnown D J g.node × IfSome g.after (λ c. D.row_of c ≡ Some g.node)) J.groups groups_there;
    owners_known = has-all (λ (o : Owned). IsKnown D J o.node) (group_cells J) owners_there;
    puts_known = has-all (λ (q : Put). IsKnown D J q.node × IfSome (cell_of q.to) (Owns D J q.node) × IfSome (register_of q.to) (λ (r : FieldId). IsKnown D J r.node)) J.put puts_there;
    clears_known = has-all (λ (r : FieldId). IsKnown D J r.node) J.clear clears_there;
    needs_known = has-all (λ n. IsSome (D.nodes n)) J.need needs_there;
  }
