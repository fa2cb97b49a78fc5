-- What a path leads to in a tree is what the node to which it leads in the document shows, where nodes show all beneath them.
use Rattle.std.proofs.Common.{◌≡◌, ◌≢◌, ℕ, zero, suc, ◌+◌, ◌==◌, Bool, true, false, cond, List, [], ◌∷◌, length, Option, Some, None, option_map, option_and_then, is_some, slice_get, Ok, refl, sym, ap, ◌∙◌, subst, inl, inr, ◌⊎◌}
use Rattle.std.specs.FinMap.Entries.{find}
use Rattle.std.specs.Ordering.{nat_cmp, is_eq, match_ordering}
use Rattle.std.specs.declared.cmp.Ordering.{Ordering}
use Rattle.std.specs.declared.cmp.Ordering.TheVariants.{Less, Equal, Greater}
use Rattle.std.specs.Cmp.Lexicographic.{slice_cmp, nat_list_cmp_total}
use Rattle.std.proofs.lemmas.Cmp.{tied_itself}
use Rattle.std.proofs.lemmas.Map.Lookups.{exact_bytes}
use Rattle.serde_json.specs.Data.{Data, Members}
use Rattle.serde_json.specs.Find.{get, get_member}
use Rattle.st_ids.specs.Listing.{Has, IsListing, key_pairs}
use Rattle.st_ids.specs.declared.names.Leaf.{Leaf}
use Rattle.st_ids.specs.declared.names.NodeId.{NodeId}
use Rattle.st_ids.specs.declared.names.Place.{Place}
use Rattle.st_tree.specs.declared.edit.EditFault.TheVariants.{NoNode}
use Rattle.st_marks.specs.declared.places.Slot.{Slot}
use Rattle.st_marks.specs.Document.{Document, NodeType, IsSoundInForm, content, owned_cell}
use Rattle.st_marks.specs.LiveTree.{Shows, ShowsMembers, no_more_members, next_member, owners_shown, register, key_at, live_slots}
use Rattle.st_ids.specs.LeafText.{leaf_data}
use Rattle.st_edits.specs.Paths.{child, field_at, or_refuse, walk_from}
use Rattle.st_edits.proofs.Fits.{passed, or_refuse-Ok}
use Rattle.st_schema_laws.specs.Moved.{child_in, inside, node_in, row_items}
use Rattle.st_schema_laws.specs.Typed.{IsAsTyped, IsFieldType, IsRowType}
use Rattle.st_schema_laws.proofs.Beneath.{in_row as stands_in_row}
use Rattle.st_schema_laws.proofs.Along.{AreShown, Shape, as_leaf, as_row, as_registers, shape, as_list, owner_at}
use Rattle.st_lemmas.proofs.Bools.{true-false}

-- ## Documents whose nodes show all that stands beneath them

-- what stands in a row is beneath a node that has one, and what stands in a register beneath one that has registers
pub record StandsAsTyped (is_array : List ℕ → Bool) (D : Document) : Type 0 where
  pub in_row : (n x : NodeId) (t : NodeType) → D.nodes n ≡ Some t → Has (owners_shown (content D n)) x → IsRowType is_array t
  pub in_register : (n x : NodeId) (k : List ℕ) (t : NodeType) → D.nodes n ≡ Some t → D.held (register n k) ≡ Some x → IsFieldType is_array t

pub stands_typed : (is_array : List ℕ → Bool) (D : Document) → IsSoundInForm D → IsAsTyped is_array D → StandsAsTyped is_array D
stands_typed is_array D sound typed = record {
  in_row = λ n x t e h. (let b = stands_in_row D sound n x h in typed.cells n (owned_cell b.0 x) t e (sound.own_cell x n b.0 b.1));
  in_register = λ n x k t e h. typed.registers (register n k) x t e h;
}

-- ## One item and one member

module _ (is_array : List ℕ → Bool) (D : Document) where
  item_shown : (ns : List NodeId) (ds : List Data) (i : ℕ) (x : NodeId) → AreShown is_array D ns ds → slice_get ns i ≡ Some x → (e : Data) × (slice_get ds i ≡ Some e) × Shows is_array D x e
  item_shown [] ds i x h e = cc
  item_shown (n ∷ ns) [] i x h e = absurd h
  item_shown (n ∷ ns) (d ∷ ds) zero x h e = let same : n ≡ x = cc in (d, refl, subst (λ y. Shows is_array D y d) same h.0)
  item_shown (n ∷ ns) (d ∷ ds) (suc i) x h e = item_shown ns ds i x h.1 e

  -- a register that holds a node is among the members
  member_shown : {n : NodeId} {ks : List (List ℕ)} {ms : Members} → ShowsMembers is_array D n ks ms → (key : List ℕ) (x : NodeId) → D.held (register n key) ≡ Some x → Has ks key → (e : Data) × (get_member key ms ≡ Some e) × Shows is_array D x e
  member_shown (no_more_members n) key x e h = absurd h
  member_shown (next_member n m k d ks ms p a s) key x e h = go (slice_cmp nat_cmp key k) refl h (λ i. member_shown s key x e i)
    where
      apart : slice_cmp nat_cmp key k ≢ Equal → k ≢ key
      apart out q = out (ap (slice_cmp nat_cmp key) q ∙ tied_itself nat_list_cmp_total key)

      later : slice_cmp nat_cmp key k ≢ Equal → (k ≡ key) ⊎ Has ks key → Has ks key
      later out (inl q) = absurd (apart out q)
      later out (inr i) = i

      go : (o : Ordering) → slice_cmp nat_cmp key k ≡ o → (k ≡ key) ⊎ Has ks key → (Has ks key → (e : Data) × (get_member key ms ≡ Some e) × Shows is_array D x e)
          → (e : Data) × (match_ordering o (get_member key ms) (Some d) (get_member key ms) ≡ Some e) × Shows is_array D x e
      go Less q i rest = rest (later (λ r. (let bad : Less ≡ Equal = sym q ∙ r in cc)) i)
      go Greater q i rest = rest (later (λ r. (let bad : Greater ≡ Equal = sym q ∙ r in cc)) i)
      go Equal q i rest =
          let both : Some m ≡ Some x = sym p ∙ ap (λ l. D.held (register n l)) (sym (exact_bytes key k q)) ∙ e in
          let same : m ≡ x = cc in
          (d, refl, subst (λ y. Shows is_array D y d) same a)

abbrev itself : List ℕ → List ℕ
itself k = k

found_has : (ks : List (List ℕ)) (k l : List ℕ) → find (slice_cmp nat_cmp) k (key_pairs itself ks) ≡ Some l → Has ks l
found_has [] k l e = cc
found_has (j ∷ ks) k l e = go (is_eq (slice_cmp nat_cmp k j)) e (λ f. found_has ks k l f)
  where
    go : (b : Bool) → cond b (Some j) (find (slice_cmp nat_cmp) k (key_pairs itself ks)) ≡ Some l → (find (slice_cmp nat_cmp) k (key_pairs itself ks) ≡ Some l → Has ks l) → Has (j ∷ ks) l
    go true f rest = let same : j ≡ l = cc in inl same
    go false f rest = inr (rest f)

key_has : (D : Document) (n x : NodeId) (ks : List (List ℕ)) (key : List ℕ) → IsListing (slice_cmp nat_cmp) itself ks (key_at D n) → D.held (register n key) ≡ Some x → Has ks key
key_has D n x ks key l e = found_has ks key key (l.at_each key ∙ ap (λ (o : Option NodeId). cond (is_some o) (Some key) None) e)

no_items_in : (v : Leaf) → row_items (leaf_data v) ≡ []
no_items_in Leaf.Null = refl
no_items_in (Leaf.Bool b) = refl
no_items_in (Leaf.Int i) = refl
no_items_in (Leaf.Words text) = refl

-- ## Through a place

module _ (is_array : List ℕ → Bool) (D : Document) (typed : StandsAsTyped is_array D) where
  -- the items of a node's row
  pub row_seen : (n : NodeId) (d : Data) → Shows is_array D n d → AreShown is_array D (owners_shown (content D n)) (row_items d)
  row_seen n d s = by d (shape s)
    where
      none : (t : NodeType) → D.nodes n ≡ Some t → ((t.leaf ≡ None) × (is_array t.ty ≡ true) → ⊥) → (ns : List NodeId) → owners_shown (content D n) ≡ ns → AreShown is_array D ns []
      none t p out [] e = tt
      none t p out (x ∷ ns) e = absurd (out (typed.in_row n x t p (subst (λ l. Has l x) (sym e) (inl refl))))

      by : (d : Data) → Shape is_array D n d → AreShown is_array D (owners_shown (content D n)) (row_items d)
      by d (as_leaf ty v p q) =
          subst (λ d. AreShown is_array D (owners_shown (content D n)) (row_items d)) (sym q)
          (subst (AreShown is_array D (owners_shown (content D n))) (sym (no_items_in v)) (none (record { ty = ty; leaf = Some v }) p (λ h. (let bad : Some v ≡ None = h.0 in cc)) (owners_shown (content D n)) refl))
      by d (as_row ty items p a r q) = subst (λ d. AreShown is_array D (owners_shown (content D n)) (row_items d)) (sym q) (as_list is_array D r)
      by d (as_registers ty keys ms p a l r q) =
          subst (λ d. AreShown is_array D (owners_shown (content D n)) (row_items d)) (sym q)
          (none (record { ty = ty; leaf = None }) p (λ h. true-false h.1 a) (owners_shown (content D n)) refl)

  -- what stands in a node's register
  pub member_seen : (n : NodeId) (d : Data) → Shows is_array D n d → (key : List ℕ) (x : NodeId) → D.held (register n key) ≡ Some x → (e : Data) × (get key (inside d) ≡ Some e) × Shows is_array D x e
  member_seen n d s key x h = by d (shape s)
    where
      by : (d : Data) → Shape is_array D n d → (e : Data) × (get key (inside d) ≡ Some e) × Shows is_array D x e
      by d (as_leaf ty v p q) = let bad : Some v ≡ None = (typed.in_register n x key (record { ty = ty; leaf = Some v }) p h).0 in cc
      by d (as_row ty items p a r q) = absurd (true-false a (typed.in_register n x key (record { ty = ty; leaf = None }) p h).1)
      by d (as_registers ty keys ms p a l r q) =
          let w = member_shown is_array D r key x h (key_has D n x keys key l h) in
          (w.0, ap (λ d. get key (inside d)) q ∙ w.1, w.2)

  child_seen : (n x : NodeId) (p : Place) (d : Data) → child D n p ≡ Some x → Shows is_array D n d → (e : Data) × (child_in p d ≡ Some e) × Shows is_array D x e
  child_seen n x p d e s = go (length p.key.0 == 0) e
    where
      item : option_map (λ (s : Slot). s.node) (slice_get (live_slots D n) p.index) ≡ Some x → (e : Data) × (slice_get (row_items d) p.index ≡ Some e) × Shows is_array D x e
      item f =
          let at = owner_at D n p.index ∙ f in
          item_shown is_array D (owners_shown (content D n)) (row_items d) p.index x (row_seen n d s) at

      member_of : (b : Bool) → cond b (D.held (field_at n p.key)) None ≡ Some x → (e : Data) × (get p.key.0 (inside d) ≡ Some e) × Shows is_array D x e
      member_of true f = member_seen n d s p.key.0 x f
      member_of false f = cc

      go : (b : Bool) → cond b (option_map (λ (s : Slot). s.node) (slice_get (live_slots D n) p.index)) (cond (p.index == 0) (D.held (field_at n p.key)) None) ≡ Some x
          → (e : Data) × (cond b (slice_get (row_items d) p.index) (get p.key.0 (inside d)) ≡ Some e) × Shows is_array D x e
      go true f = item f
      go false f = member_of (p.index == 0) f

  pub node_seen : (path : List Place) (k : ℕ) (n m : NodeId) (d : Data) → walk_from D k n path ≡ Ok m → Shows is_array D n d → (e : Data) × (node_in path d ≡ Some e) × Shows is_array D m e
  node_seen [] k n m d e s = let same : n ≡ m = cc in (d, refl, subst (λ x. Shows is_array D x d) same s)
  node_seen (p ∷ ps) k n m d e s =
      let x = passed (or_refuse (child D n p) (NoNode k)) (λ x. walk_from D (k + 1) x ps) m e in
      let c = child_seen n x.0 p d (or_refuse-Ok (child D n p) (NoNode k) x.0 x.1) s in
      let rest = node_seen ps (k + 1) x.0 m c.0 x.2 c.2 in
      (rest.0, ap (option_and_then (node_in ps)) c.1 ∙ rest.1, rest.2)
