-- How many nodes and cells two parts joined make.
use Rattle.std.proofs.Common.{◌≡◌, ◌≢◌, ◌+◌, length, List, ◌++◌, Option, Some, None, is_some, option_map, true, refl, sym, ap, ◌∙◌, subst, inl, inr, arith}
use Rattle.std.specs.Option.{option_or}
use Rattle.st_ids.specs.Listing.{AreDistinct, Has}
use Rattle.st_ids.specs.Order.{same_node}
use Rattle.st_ids.specs.declared.names.CellId.{CellId}
use Rattle.st_ids.specs.declared.names.NodeId.{NodeId}
use Rattle.st_ids.proofs.Orders.{same_node-itself, same_node-true}
use Rattle.st_marks.specs.declared.changes.NewNode.{NewNode}
use Rattle.st_marks.specs.declared.intents.Group.{Group}
use Rattle.st_marks.specs.declared.intents.Intent.{Intent}
use Rattle.st_marks.specs.declared.intents.Owned.{Owned}
use Rattle.st_marks.specs.Document.{Document, IsSoundInForm, NodeType}
use Rattle.st_marks.specs.Intent.{IsIntent, group_at, group_cells, is_new, new_node, new_row_of, new_type}
use Rattle.st_marks.specs.CarryOut.{with_groups}
use Rattle.st_marks.specs.Join.{AreParts, IsJoin}
use Rattle.st_lemmas.proofs.Bools.{true-false}
use Rattle.st_lemmas.proofs.Lists.{length-append}
use Rattle.st_marks.proofs.Members.{append_left, append_right, distinct-append, first-distinct, first-has, has-append, has-flat_map}
use Rattle.st_marks.proofs.Lookups.{group_found, made_there}
use Rattle.st_marks.proofs.NewRows.{with_groups-has, made_listed}
use Rattle.st_join.proofs.JoinFits.{anchor_first, cell_first, cell_second}
use Rattle.st_marks.proofs.Contained.{no_longer}

-- lists of the same items, which are distinct in both
same_length : {A K : Type 0} (key : A → K) (xs ys zs : List A) → AreDistinct key xs → AreDistinct key (ys ++ zs) → ((x : A) → Has xs x → Has (ys ++ zs) x) → ((x : A) → Has (ys ++ zs) x → Has xs x) → length xs ≡ length ys + length zs
same_length key xs ys zs a b there back =
    let up = no_longer key xs (ys ++ zs) a there in
    let down = no_longer key (ys ++ zs) xs b back in
    omega (arith, up, down, length-append ys zs)

module _ (D : Document) (N M J : Intent) (s : IsSoundInForm D) (p : AreParts D N M) (j : IsJoin N M J) where
  second_of : {A : Type 0} (a b : Option A) → option_or a b ≡ None → b ≡ None
  second_of None b e = e
  second_of (Some x) b e = let bad : Some x ≡ None = e in cc

  -- ## Nodes

  found_new : (L : Intent) → IsIntent L → (m : NewNode) → Has L.new m → new_node L m.node ≡ Some m
  found_new L w m h = first-distinct (λ (m : NewNode). m.node) L.new (λ (x : NewNode). same_node x.node m.node) m w.new_once h (same_node-itself m.node) (λ x e. same_node-true x.node m.node e)

  listed_new : (L : Intent) (n : NodeId) (m : NewNode) → new_node L n ≡ Some m → Has L.new m
  listed_new L n m e = (first-has (λ (x : NewNode). same_node x.node n) L.new m e).0

  -- what the second makes isn't made by the first
  first_hasnt : (m : NewNode) → Has M.new m → new_node N m.node ≡ None
  first_hasnt m h = go (new_node N m.node) refl (second_of (D.nodes m.node) (new_type N m.node) (p.then_fits.fresh_nodes m.node new))
    where
      new : is_new M m.node ≡ true
      new = ap (λ o. is_some {T = NodeType} (option_map (λ (x : NewNode). record { ty = x.ty; leaf = x.leaf }) o)) (found_new M p.then_fits.itself m h)

      go : (o : Option NewNode) → new_node N m.node ≡ o → new_type N m.node ≡ None → new_node N m.node ≡ None
      go None e f = e
      go (Some k) e f = let bad : ◌≡◌ {A = Option NodeType} (Some (record { ty = k.ty; leaf = k.leaf })) None = ap (option_map {U = NodeType} (λ (x : NewNode). record { ty = x.ty; leaf = x.leaf })) (sym e) ∙ f in cc

  pub nodes_of_both : length J.new ≡ length N.new + length M.new
  nodes_of_both = same_length (λ (m : NewNode). m.node) J.new N.new M.new j.itself.new_once
      (distinct-append (λ (m : NewNode). m.node) N.new M.new p.first_fits.itself.new_once p.then_fits.itself.new_once (λ x y h i e.
      let bad : None ≡ Some x = sym (first_hasnt y i) ∙ ap (new_node N) e ∙ found_new N p.first_fits.itself x h in cc))
      there (λ m h. elim (has-append N.new M.new m h) [
        | inl i ↦ listed_new J m.node m (j.new_nodes m.node ∙ ap (λ o. option_or o (new_node M m.node)) (found_new N p.first_fits.itself m i))
        | inr i ↦ listed_new J m.node m (j.new_nodes m.node ∙ ap (λ o. option_or o (new_node M m.node)) (first_hasnt m i) ∙ found_new M p.then_fits.itself m i)
      ])
    where
      there : (m : NewNode) → Has J.new m → Has (N.new ++ M.new) m
      there m h = go (new_node N m.node) refl (sym (j.new_nodes m.node) ∙ found_new J j.itself m h)
        where
          go : (o : Option NewNode) → new_node N m.node ≡ o → option_or o (new_node M m.node) ≡ Some m → Has (N.new ++ M.new) m
          go None f e = append_right N.new M.new m (listed_new M m.node m e)
          go (Some k) f e = append_left N.new M.new m (listed_new N m.node m (f ∙ e))

  -- ## Cells

  pub cells_of_both : length (group_cells J) ≡ length (group_cells N) + length (group_cells M)
  cells_of_both = same_length (λ (o : Owned). o.cell) (group_cells J) (group_cells N) (group_cells M) j.itself.cell_once
      (distinct-append (λ (o : Owned). o.cell) (group_cells N) (group_cells M) p.first_fits.itself.cell_once p.then_fits.itself.cell_once apart)
      there (λ o h. elim (has-append (group_cells N) (group_cells M) o h) [ inl i ↦ cell_first D N M J s p j o i | inr i ↦ cell_second D N M J s p j o i ])
    where
      apart : (x y : Owned) → Has (group_cells N) x → Has (group_cells M) y → y.cell ≢ x.cell
      apart x y h i e =
          let gone : new_row_of N y.cell ≡ None = second_of (D.row_of y.cell) (new_row_of N y.cell) (p.then_fits.fresh_cells y.cell (made_there M y i)) in
          true-false (made_there N x h) (ap (λ c. is_some (new_row_of N c)) (sym e) ∙ ap is_some gone)

      there : (o : Owned) → Has (group_cells J) o → Has (group_cells N ++ group_cells M) o
      there o h =
          let g = has-flat_map (λ (g : Group). g.cells) J.groups o h in
          at g.0.node g.0.after (subst (λ l. Has l o) (sym (group_found J j.itself g.0 g.1) ∙ j.groups g.0.node g.0.after (anchor_first D N M J s p j g.0 g.1)) g.2)
        where
          at : (n : NodeId) (a : Option CellId) → Has (group_at M n a ++ with_groups M n (group_at N n a)) o → Has (group_cells N ++ group_cells M) o
          at n a i = elim (has-append (group_at M n a) (with_groups M n (group_at N n a)) o i) [
            | inl k ↦ append_right (group_cells N) (group_cells M) o (made_listed M n a o k)
            | inr k ↦ elim (with_groups-has M n (group_at N n a) o k) [
              | inl l ↦ append_left (group_cells N) (group_cells M) o (made_listed N n a o l)
              | inr l ↦ append_right (group_cells N) (group_cells M) o (made_listed M n (Some l.0.cell) o l.2)
            ]
          ]
