-- In whose row a join makes a cell, and of which type a node.
use Rattle.std.proofs.Common.{◌≡◌, Option, Some, None, refl, sym, ap, ◌∙◌, subst, inl, inr, ◌⊎◌, is_some, IfSome, option_map}
use Rattle.std.specs.Option.{option_or}
use Rattle.st_ids.specs.Listing.{Has}
use Rattle.st_ids.specs.declared.names.CellId.{CellId}
use Rattle.st_ids.specs.declared.names.NodeId.{NodeId}
use Rattle.st_marks.specs.declared.changes.NewNode.{NewNode}
use Rattle.st_marks.specs.declared.intents.Group.{Group}
use Rattle.st_marks.specs.declared.intents.Intent.{Intent}
use Rattle.st_marks.specs.declared.intents.Owned.{Owned}
use Rattle.st_marks.specs.Document.{Document, IsSoundInForm}
use Rattle.st_marks.specs.Intent.{IsIntent, new_node, new_type, group_at, new_row_of}
use Rattle.st_marks.specs.CarryOut.{full, with_groups}
use Rattle.st_marks.specs.Join.{AreParts, IsJoin, IsOldAnchor}
use Rattle.st_marks.proofs.Joined.{joined_in_turn}
use Rattle.st_marks.proofs.Members.{all-has, has-append}
use Rattle.st_marks.proofs.Lookups.{group_at-group, group_found, new_row_of-group, group-new_row_of}
use Rattle.st_marks.proofs.NewRows.{with_groups-has}

-- what stands in a group is made in the group's row
pub made_in : (K : Intent) → IsIntent K → (n : NodeId) (a : Option CellId) (o : Owned) → Has (group_at K n a) o → new_row_of K o.cell ≡ Some n
made_in K w n a o h = let g = group_at-group K n a o h in new_row_of-group K w g.group o g.listed g.cell ∙ ap (λ n. Some n) g.node

module _ (D : Document) (N M J : Intent) (s : IsSoundInForm D) (p : AreParts D N M) (j : IsJoin N M J) where
  pub type_joined : (n : NodeId) → new_type J n ≡ option_or (new_type N n) (new_type M n)
  type_joined n = ap (option_map (λ (m : NewNode). record { ty = m.ty; leaf = m.leaf })) (j.new_nodes n) ∙ mapped (new_node N n)
    where
      mapped : (o : Option NewNode) → option_map (λ (m : NewNode). record { ty = m.ty; leaf = m.leaf }) (option_or o (new_node M n)) ≡ option_or (option_map (λ (m : NewNode). record { ty = m.ty; leaf = m.leaf }) o) (new_type M n)
      mapped None = refl
      mapped (Some m) = refl

  -- the group of the first part that makes a cell, at its anchor
  pub first_group : (c : CellId) (n : NodeId) → new_row_of N c ≡ Some n → (a : Option CellId) × IsOldAnchor N a × ((o : Owned) × Has (group_at N n a) o × (o.cell ≡ c))
  first_group c n e =
      let g = group-new_row_of N c n e in
      let found = subst (λ n. group_at N n g.0.after ≡ g.0.cells) g.2 (group_found N p.first_fits.itself g.0 g.1) in
      (g.0.after, old g.0.after (all-has (λ (g : Group). IfSome g.after (λ c. new_row_of N c ≡ None)) N.groups g.0 p.first_fits.itself.anchor_old g.1), (g.3.0, subst (λ l. Has l g.3.0) (sym found) g.3.1, g.3.2))
    where
      old : (a : Option CellId) → IfSome a (λ c. new_row_of N c ≡ None) → IsOldAnchor N a
      old None e = tt
      old (Some c) e = e

  -- the rows of cells after the join are those after both parts, so a cell that the document hasn't is made as they make it
  row_where_new : (c : CellId) → D.row_of c ≡ None → new_row_of J c ≡ option_or (new_row_of N c) (new_row_of M c)
  row_where_new c none = rw none at (ap (λ (E : Document). E.row_of c) (joined_in_turn D N M J s p j))

  -- a cell that neither makes isn't made
  not_made : (c : CellId) (n : NodeId) → new_row_of N c ≡ None → new_row_of M c ≡ None → new_row_of J c ≡ Some n → ⊥
  not_made c n first second e =
      let g = group-new_row_of J c n e in
      let found = subst (λ n. group_at J n g.0.after ≡ g.0.cells) g.2 (group_found J j.itself g.0 g.1) in
      let here = subst (λ l. Has l g.3.0) (sym found) g.3.1 in
      let old = anchor g.0.after (all-has (λ (g : Group). IfSome g.after (λ c. new_row_of J c ≡ None)) J.groups g.0 j.itself.anchor_old g.1) in
      apart g.0.after g.3.0 g.3.2 (has-append (group_at M n g.0.after) (with_groups M n (group_at N n g.0.after)) g.3.0 (subst (λ l. Has l g.3.0) (j.groups n g.0.after old) here))
    where
      anchor : (a : Option CellId) → IfSome a (λ c. new_row_of J c ≡ None) → IsOldAnchor N a
      anchor None h = tt
      anchor (Some d) h = go (new_row_of N d) refl
        where
          go : (q : Option NodeId) → new_row_of N d ≡ q → new_row_of N d ≡ None
          go None f = f
          go (Some r) f =
              let made : new_row_of J d ≡ Some r = row_where_new d (p.first_fits.fresh_cells d (ap is_some f)) ∙ ap (λ q. option_or q (new_row_of M d)) f in
              let bad : None ≡ Some r = sym h ∙ made in cc

      by_second : (a : Option CellId) (o : Owned) → o.cell ≡ c → Has (group_at M n a) o → ⊥
      by_second a o is h = let bad : None ≡ Some n = sym second ∙ sym (ap (new_row_of M) is) ∙ made_in M p.then_fits.itself n a o h in absurd (cc)

      apart : (a : Option CellId) (o : Owned) → o.cell ≡ c → Has (group_at M n a) o ⊎ Has (with_groups M n (group_at N n a)) o → ⊥
      apart a o is (inl h) = by_second a o is h
      apart a o is (inr h) = elim (with_groups-has M n (group_at N n a) o h) [
        | inl k ↦ (let bad : None ≡ Some n = sym first ∙ sym (ap (new_row_of N) is) ∙ made_in N p.first_fits.itself n a o k in absurd (cc))
        | inr k ↦ by_second (Some k.0.cell) o is k.2
      ]

  pub new_row_joined : (c : CellId) → new_row_of J c ≡ option_or (new_row_of N c) (new_row_of M c)
  new_row_joined c = go (D.row_of c) refl (new_row_of N c) refl (new_row_of M c) refl (new_row_of J c) refl
    where
      go : (q : Option NodeId) → D.row_of c ≡ q → (a : Option NodeId) → new_row_of N c ≡ a → (b : Option NodeId) → new_row_of M c ≡ b → (d : Option NodeId) → new_row_of J c ≡ d → new_row_of J c ≡ option_or (new_row_of N c) (new_row_of M c)
      go None q a e b f d g = row_where_new c q
      go (Some r) q (Some n) e b f d g = let gone : D.row_of c ≡ None = p.first_fits.fresh_cells c (ap is_some e) in let bad : None ≡ Some r = sym gone ∙ q in absurd (cc)
      go (Some r) q None e (Some n) f d g =
          let gone : (full D N).row_of c ≡ None = p.then_fits.fresh_cells c (ap is_some f) in
          let bad : None ≡ Some r = sym gone ∙ ap (λ o. option_or o (new_row_of N c)) q in absurd (cc)
      go (Some r) q None e None f None g = g ∙ sym (rw (e, f) refl)
      go (Some r) q None e None f (Some n) g = absurd (not_made c n e f g)
