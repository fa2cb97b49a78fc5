-- Two parts of a commit, joined, are carried out as the one after the other.
use Rattle.std.proofs.Common.{◌≡◌, Bool, true, false, List, [], ◌∷◌, ◌++◌, ◌||◌, Option, Some, None, cond, refl, sym, ap, ◌∙◌, subst, inl, inr, ◌⊎◌, append_assoc, is_some, IsSome, IfSome, option_map, option_and_then}
use mathlib.Core.Path.{fun_ext}
use Rattle.std.specs.Option.{option_or, option_map_or}
use Rattle.st_ids.specs.Listing.{Has}
use Rattle.st_ids.specs.declared.names.CellId.{CellId}
use Rattle.st_ids.specs.declared.names.NodeId.{NodeId}
use Rattle.st_marks.specs.declared.changes.NewNode.{NewNode}
use Rattle.st_marks.specs.declared.intents.Group.{Group}
use Rattle.st_marks.specs.declared.intents.Intent.{Intent}
use Rattle.st_marks.specs.declared.intents.Owned.{Owned}
use Rattle.st_marks.specs.declared.intents.To.{To}
use Rattle.st_marks.specs.declared.places.Spot.{Spot}
use Rattle.st_marks.specs.Document.{Document, IsSoundInForm}
use Rattle.st_marks.specs.Intent.{IsKnown, Owns, new_node, new_type, is_new, put_of, clears, group_at, new_row_of}
use Rattle.st_marks.specs.CarryOut.{full, with_groups, spot_of, place_after, unless_cleared, with_schema}
use Rattle.st_marks.specs.Join.{AreParts, IsJoin, IsOldAnchor, put_unless_new, unless_cleared_by}
use Rattle.st_marks.proofs.Members.{all-has, append_left, append_right, has-append}
use Rattle.st_marks.proofs.Lookups.{group_at-group, group_found, new_row_of-group, group-new_row_of, made_there}
use Rattle.st_marks.proofs.Climb.{unknown_nowhere}
use Rattle.st_marks.proofs.NewRows.{with_groups-has, old_kept, made_kept}
use Rattle.st_marks.proofs.Full.{full_one_held, same_held, known_put}

with_groups-append : (N : Intent) (n : NodeId) (xs ys : List Owned) → with_groups N n (xs ++ ys) ≡ with_groups N n xs ++ with_groups N n ys
with_groups-append N n [] ys = refl
with_groups-append N n (o ∷ xs) ys =
    ap (λ l. o ∷ l) (ap (λ l. group_at N n (Some o.cell) ++ l) (with_groups-append N n xs ys) ∙ sym (append_assoc (group_at N n (Some o.cell)) (with_groups N n xs) (with_groups N n ys)))

at_anchor : (N : Intent) (n : NodeId) (c d : CellId) (o : Owned) → c ≡ d → Has (group_at N n (Some d)) o → Has (group_at N n (Some c)) o
at_anchor N n c d o e h = subst (λ c. Has (group_at N n (Some c)) o) (sym e) h

module _ (D : Document) (N M J : Intent) (s : IsSoundInForm D) (p : AreParts D N M) (j : IsJoin N M J) where
  -- ## Nodes

  type_joined : (n : NodeId) → new_type J n ≡ option_or (new_type N n) (new_type M n)
  type_joined n = ap (option_map (λ (m : NewNode). record { ty = m.ty; leaf = m.leaf })) (j.new_nodes n) ∙ mapped (new_node N n)
    where
      mapped : (o : Option NewNode) → option_map (λ (m : NewNode). record { ty = m.ty; leaf = m.leaf }) (option_or o (new_node M n)) ≡ option_or (option_map (λ (m : NewNode). record { ty = m.ty; leaf = m.leaf }) o) (new_type M n)
      mapped None = refl
      mapped (Some m) = refl

  or_in_turn : {A : Type 0} (a b c d : Option A) → d ≡ option_or b c → option_or a d ≡ option_or (option_or a b) c
  or_in_turn None b c d e = e
  or_in_turn (Some x) b c d e = refl

  -- ## Rows

  -- a cell of D isn't made by the first part
  old_anchor : (n : NodeId) (o : Owned) → Has (D.rows n) o → IsOldAnchor N (Some o.cell)
  old_anchor n o h = go (new_row_of N o.cell) refl
    where
      go : (q : Option NodeId) → new_row_of N o.cell ≡ q → new_row_of N o.cell ≡ None
      go None e = e
      go (Some r) e = let bad : None ≡ Some n = sym (p.first_fits.fresh_cells o.cell (ap is_some e)) ∙ (s.one_row o.cell n).1 (o.node, h) in cc

  joined_cells : (n : NodeId) (os : List Owned) → ((o : Owned) → Has os o → IsOldAnchor N (Some o.cell)) → with_groups J n os ≡ with_groups M n (with_groups N n os)
  joined_cells n [] old = refl
  joined_cells n (o ∷ os) old =
      ap (λ l. o ∷ l)
      ((λ i. j.groups n (Some o.cell) (old o (inl refl)) i ++ joined_cells n os (λ q h. old q (inr h)) i)
      ∙ append_assoc (group_at M n (Some o.cell)) (with_groups M n (group_at N n (Some o.cell))) (with_groups M n (with_groups N n os))
      ∙ ap (λ l. group_at M n (Some o.cell) ++ l) (sym (with_groups-append M n (group_at N n (Some o.cell)) (with_groups N n os))))

  rows_joined : (n : NodeId) → (full D J).rows n ≡ (full (full D N) M).rows n
  rows_joined n =
      (λ i. j.groups n None tt i ++ joined_cells n (D.rows n) (old_anchor n) i)
      ∙ append_assoc (group_at M n None) (with_groups M n (group_at N n None)) (with_groups M n (with_groups N n (D.rows n)))
      ∙ ap (λ l. group_at M n None ++ l) (sym (with_groups-append M n (group_at N n None) (with_groups N n (D.rows n))))

  -- ## In whose row a cell is made

  first_anchor : (g : Group) → Has N.groups g → IsOldAnchor N g.after
  first_anchor g h = go g.after (all-has (λ (g : Group). IfSome g.after (λ c. new_row_of N c ≡ None)) N.groups g p.first_fits.itself.anchor_old h)
    where
      go : (a : Option CellId) → IfSome a (λ c. new_row_of N c ≡ None) → IsOldAnchor N a
      go None e = tt
      go (Some c) e = e

  -- what stands at an old anchor in the join is made by it
  in_join : (n : NodeId) (a : Option CellId) (o : Owned) → Has (group_at J n a) o → new_row_of J o.cell ≡ Some n
  in_join n a o h = let g = group_at-group J n a o h in new_row_of-group J j.itself g.group o g.listed g.cell ∙ ap (λ n. Some n) g.node

  first_in_join : (n : NodeId) (a : Option CellId) (o : Owned) → IsOldAnchor N a → Has (with_groups M n (group_at N n a)) o → new_row_of J o.cell ≡ Some n
  first_in_join n a o old h = in_join n a o (subst (λ l. Has l o) (sym (j.groups n a old)) (append_right (group_at M n a) (with_groups M n (group_at N n a)) o h))

  -- the group of the first part that makes a cell, at its anchor
  first_group : (c : CellId) (n : NodeId) → new_row_of N c ≡ Some n → (a : Option CellId) × IsOldAnchor N a × ((o : Owned) × Has (group_at N n a) o × (o.cell ≡ c))
  first_group c n e =
      let g = group-new_row_of N c n e in
      let found = subst (λ n. group_at N n g.0.after ≡ g.0.cells) g.2 (group_found N p.first_fits.itself g.0 g.1) in
      (g.0.after, first_anchor g.0 g.1, (g.3.0, subst (λ l. Has l g.3.0) (sym found) g.3.1, g.3.2))

  row_of_first : (c : CellId) (n : NodeId) → new_row_of N c ≡ Some n → new_row_of J c ≡ Some n
  row_of_first c n e =
      let g = first_group c n e in
      ap (new_row_of J) (sym g.2.2) ∙ first_in_join n g.0 g.2.0 g.1 (old_kept M n (group_at N n g.0) g.2.0 g.2.1)

  row_of_second : (c : CellId) (n : NodeId) → new_row_of M c ≡ Some n → new_row_of J c ≡ Some n
  row_of_second c n e =
      let g = group-new_row_of M c n e in
      let k = all-has (λ (g : Group). IsKnown (full D N) M g.node × IfSome g.after (λ c. (full D N).row_of c ≡ Some g.node)) M.groups g.0 p.then_fits.groups_known g.1 in
      let found = subst (λ n. group_at M n g.0.after ≡ g.0.cells) g.2 (group_found M p.then_fits.itself g.0 g.1) in
      let here = subst (λ l. Has l g.3.0) (sym found) g.3.1 in
      ap (new_row_of J) (sym g.3.2) ∙ go g.3.0 g.0.after here (subst (λ n. IfSome g.0.after (λ c. (full D N).row_of c ≡ Some n)) g.2 k.1)
    where
      go : (o : Owned) (a : Option CellId) → Has (group_at M n a) o → IfSome a (λ c. (full D N).row_of c ≡ Some n) → new_row_of J o.cell ≡ Some n
      go o None h k = in_join n None o (subst (λ l. Has l o) (sym (j.groups n None tt)) (append_left (group_at M n None) (with_groups M n (group_at N n None)) o h))
      go o (Some d) h k = look (new_row_of N d) refl
        where
          look : (q : Option NodeId) → new_row_of N d ≡ q → new_row_of J o.cell ≡ Some n
          look None f = in_join n (Some d) o (subst (λ l. Has l o) (sym (j.groups n (Some d) f)) (append_left (group_at M n (Some d)) (with_groups M n (group_at N n (Some d))) o h))
          look (Some r) f =
              let gone : D.row_of d ≡ None = p.first_fits.fresh_cells d (ap is_some f) in
              let row : Some r ≡ Some n = rw (gone, f) at k in
              let same : r ≡ n = cc in
              let g = first_group d n (f ∙ ap (λ n. Some n) same) in
              first_in_join n g.0 o g.1 (made_kept M n (group_at N n g.0) g.2.0 o g.2.1 (at_anchor M n g.2.0.cell d o g.2.2 h))

  -- each cell of the join is made by one of the two
  row_of_join : (c : CellId) (n : NodeId) → new_row_of J c ≡ Some n → (new_row_of N c ≡ Some n) ⊎ (new_row_of M c ≡ Some n)
  row_of_join c n e =
      let g = group-new_row_of J c n e in
      let found = subst (λ n. group_at J n g.0.after ≡ g.0.cells) g.2 (group_found J j.itself g.0 g.1) in
      let here = subst (λ l. Has l g.3.0) (sym found) g.3.1 in
      subst (λ c. (new_row_of N c ≡ Some n) ⊎ (new_row_of M c ≡ Some n)) g.3.2 (split g.0.after g.3.0 (anchor g.0.after (all-has (λ (g : Group). IfSome g.after (λ c. new_row_of J c ≡ None)) J.groups g.0 j.itself.anchor_old g.1)) here)
    where
      anchor : (a : Option CellId) → IfSome a (λ c. new_row_of J c ≡ None) → IsOldAnchor N a
      anchor None h = tt
      anchor (Some d) h = look (new_row_of N d) refl
        where
          look : (q : Option NodeId) → new_row_of N d ≡ q → new_row_of N d ≡ None
          look None f = f
          look (Some r) f = let bad : None ≡ Some r = sym h ∙ row_of_first d r f in cc

      in_first : (a : Option CellId) (o : Owned) → Has (group_at N n a) o → new_row_of N o.cell ≡ Some n
      in_first a o h = let g = group_at-group N n a o h in new_row_of-group N p.first_fits.itself g.group o g.listed g.cell ∙ ap (λ n. Some n) g.node

      in_second : (a : Option CellId) (o : Owned) → Has (group_at M n a) o → new_row_of M o.cell ≡ Some n
      in_second a o h = let g = group_at-group M n a o h in new_row_of-group M p.then_fits.itself g.group o g.listed g.cell ∙ ap (λ n. Some n) g.node

      split : (a : Option CellId) (o : Owned) → IsOldAnchor N a → Has (group_at J n a) o → (new_row_of N o.cell ≡ Some n) ⊎ (new_row_of M o.cell ≡ Some n)
      split a o old h = elim (has-append (group_at M n a) (with_groups M n (group_at N n a)) o (subst (λ l. Has l o) (j.groups n a old) h)) [
        | inl i ↦ inr (in_second a o i)
        | inr i ↦ elim (with_groups-has M n (group_at N n a) o i) [
          | inl k ↦ inl (in_first a o k)
          | inr k ↦ inr (in_second (Some k.0.cell) o k.2)
        ]
      ]

  new_row_joined : (c : CellId) → new_row_of J c ≡ option_or (new_row_of N c) (new_row_of M c)
  new_row_joined c = go (new_row_of N c) refl (new_row_of M c) refl (new_row_of J c) refl
    where
      go : (a : Option NodeId) → new_row_of N c ≡ a → (b : Option NodeId) → new_row_of M c ≡ b → (d : Option NodeId) → new_row_of J c ≡ d → d ≡ option_or a b
      go (Some n) e b f d g = sym g ∙ row_of_first c n e
      go None e (Some n) f d g = sym g ∙ row_of_second c n f
      go None e None f None g = refl
      go None e None f (Some n) g = elim (row_of_join c n g) [ inl h ↦ (let bad : None ≡ Some n = sym e ∙ h in cc) | inr h ↦ (let bad : None ≡ Some n = sym f ∙ h in cc) ]

  row_of_joined : (c : CellId) → (full D J).row_of c ≡ (full (full D N) M).row_of c
  row_of_joined c = or_in_turn (D.row_of c) (new_row_of N c) (new_row_of M c) (new_row_of J c) (new_row_joined c)

  -- ## Places

  new_is_nowhere : (n : NodeId) → is_new N n ≡ true → D.place n ≡ Spot.Nowhere
  new_is_nowhere n h = unknown_nowhere D s n (p.first_fits.fresh_nodes n h)

  -- the place by the join, where a node is put by one of the two
  put_place : (n : NodeId) (to : To) → place_after (full D J).row_of J (put_unless_new (is_new N n) to) (D.place n) ≡ spot_of (full D J).row_of to
  put_place n To.Nowhere = go (is_new N n) refl
    where
      go : (b : Bool) → is_new N n ≡ b → place_after (full D J).row_of J (cond b None (Some To.Nowhere)) (D.place n) ≡ Spot.Nowhere
      go true h = rw (new_is_nowhere n h) refl
      go false h = refl
  put_place n (To.Cell c) = refl
  put_place n (To.Register f) = refl

  -- the first part's put, after the second
  first_place : (n : NodeId) (to : To) → put_of N n ≡ Some to → spot_of (full D J).row_of (unless_cleared_by M to) ≡ unless_cleared M (spot_of (full D N).row_of to)
  first_place n To.Nowhere e = refl
  first_place n (To.Cell c) e =
      let own = (known_put D N p.first_fits n (To.Cell c) e).1 in
      look own ∙ go ((full D N).row_of c)
    where
      go : (o : Option NodeId) → option_map_or (λ n. Spot.Row n c) o Spot.Nowhere ≡ unless_cleared M (option_map_or (λ n. Spot.Row n c) o Spot.Nowhere)
      go None = refl
      go (Some r) = refl

      same : (o : Option NodeId) → (full D N).row_of c ≡ o → IsSome o → option_map_or (λ n. Spot.Row n c) ((full D J).row_of c) Spot.Nowhere ≡ option_map_or (λ n. Spot.Row n c) ((full D N).row_of c) Spot.Nowhere
      same None f h = cc
      same (Some r) f h =
          let k : (full D J).row_of c ≡ Some r = row_of_joined c ∙ rw f refl in
          rw (k, f) refl

      there : Owns D N n c → IsSome ((full D N).row_of c)
      there (inl h) = let row : D.row_of c ≡ Some h.0 = (s.one_row c h.0).1 (n, h.1) in rw row refl
      there (inr h) = made (D.row_of c) (made_there N _ h)
        where
          made : (o : Option NodeId) → IsSome (new_row_of N c) → IsSome (option_or o (new_row_of N c))
          made None h = h
          made (Some r) h = refl

      look : Owns D N n c → option_map_or (λ n. Spot.Row n c) ((full D J).row_of c) Spot.Nowhere ≡ option_map_or (λ n. Spot.Row n c) ((full D N).row_of c) Spot.Nowhere
      look own = same ((full D N).row_of c) refl (there own)
  first_place n (To.Register f) e = elim (clears M f) as (λ b. spot_of (full D J).row_of (cond b To.Nowhere (To.Register f)) ≡ cond b Spot.Nowhere (Spot.Register f)) [ true ↦ refl | false ↦ refl ]

  unput_place : (t : Spot) → unless_cleared J t ≡ unless_cleared M (unless_cleared N t)
  unput_place Spot.Nowhere = refl
  unput_place (Spot.Row n c) = refl
  unput_place (Spot.Register f) = ap (λ b. cond b Spot.Nowhere (Spot.Register f)) (j.clears_both f) ∙ go (clears N f)
    where
      go : (b : Bool) → cond (b || clears M f) Spot.Nowhere (Spot.Register f) ≡ unless_cleared M (cond b Spot.Nowhere (Spot.Register f))
      go true = refl
      go false = refl

  place_joined : (n : NodeId) → (full D J).place n ≡ (full (full D N) M).place n
  place_joined n = ap (λ o. place_after (full D J).row_of J o (D.place n)) (j.puts n) ∙ go (put_of M n) (put_of N n) refl
    where
      go : (b : Option To) (a : Option To) → put_of N n ≡ a → place_after (full D J).row_of J (option_and_then (put_unless_new (is_new N n)) (option_or b (option_map (unless_cleared_by M) a))) (D.place n)
          ≡ place_after (full (full D N) M).row_of M b (place_after (full D N).row_of N a (D.place n))
      go (Some to) a e = put_place n to ∙ ap (λ (r : CellId → Option NodeId). spot_of r to) (fun_ext row_of_joined)
      go None (Some to) e = put_place n (unless_cleared_by M to) ∙ first_place n to e
      go None None e = unput_place (D.place n)

  -- ## Together

  pub joined_in_turn : full D J ≡ full (full D N) M
  joined_in_turn =
      let nodes : (full D J).nodes ≡ (full (full D N) M).nodes = fun_ext (λ n. or_in_turn (D.nodes n) (new_type N n) (new_type M n) (new_type J n) (type_joined n)) in
      let rows : (full D J).rows ≡ (full (full D N) M).rows = fun_ext rows_joined in
      let row_of : (full D J).row_of ≡ (full (full D N) M).row_of = fun_ext row_of_joined in
      let place : (full D J).place ≡ (full (full D N) M).place = fun_ext place_joined in
      let held : (full D J).held ≡ (full (full D N) M).held =
      fun_ext (same_held (full D J) (full (full D N) M) (full_one_held D J s.one_held j.itself) (full_one_held (full D N) M (full_one_held D N s.one_held p.first_fits.itself) p.then_fits.itself) place_joined) in
      let schemas : (full D J).schemas ≡ (full (full D N) M).schemas = ap (λ o. with_schema J o D.schemas) j.no_schema ∙ sym (ap (λ o. with_schema M o (with_schema N N.schema D.schemas)) p.no_schema.1 ∙ ap (λ o. with_schema N o D.schemas) p.no_schema.0) in
      λ i. record { nodes = nodes i; rows = rows i; row_of = row_of i; place = place i; held = held i; schemas = schemas i }
