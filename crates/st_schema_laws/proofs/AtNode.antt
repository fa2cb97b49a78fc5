-- What a node shows after it changed, where all other nodes are alike: items or a member leave it, or come.
use Rattle.std.proofs.Common.{◌≡◌, ◌≢◌, ℕ, ◌+◌, Bool, true, false, cond, not, List, ◌++◌, take, drop, Option, Some, None, IsSome, is_some, refl, sym, ap, ◌∙◌, subst}
use Rattle.serde_json.specs.Data.{Data, put}
use Rattle.serde_json.specs.View.{items_of}
use Rattle.st_ids.specs.declared.names.NodeId.{NodeId}
use Rattle.st_marks.specs.Document.{Document, NodeType, IsSoundInForm, content}
use Rattle.st_marks.specs.LiveTree.{Shows, shows_leaf, shows_row, shows_registers, owners_shown, register, key_at}
use Rattle.st_schema_laws.specs.Alike.{AreAlikeAt}
use Rattle.st_schema_laws.specs.Edited.{in_node, in_row, in_fields, data_items, same_key, with_items, with_key, other_members, without_items, without_key}
use Rattle.st_schema_laws.proofs.Along.{AreShown, Shape, as_leaf, as_row, as_registers, shape, as_list, as_items, kept_items, kept_child, leaf_kept, same_key-true}
use Rattle.st_schema_laws.proofs.Beneath.{row_above, held_above}
use Rattle.st_schema_laws.proofs.Keys.{one_less, IsListing-with_one, other_keys, with_one}
use Rattle.st_schema_laws.proofs.Members.{members_with, members_without}
use Rattle.st_schema_laws.proofs.Rows.{shown_drop, shown_joined, shown_take}
use Rattle.st_lemmas.proofs.Bools.{true-false}

module _ (is_array : List ℕ → Bool) (D F : Document) (sound : IsSoundInForm D) (m : NodeId) (alike : (x : NodeId) → IsSome (D.nodes x) → x ≢ m → AreAlikeAt D F x) (kept : (t : NodeType) → D.nodes m ≡ Some t → F.nodes m ≡ Some t)
    (type : NodeType) (known : D.nodes m ≡ Some type) where
  abbrev owners : List NodeId
  owners = owners_shown (content D m)

  -- its own type, by what it shows
  same_type : (t : NodeType) → D.nodes m ≡ Some t → is_array t.ty ≡ is_array type.ty
  same_type t p = let both : Some t ≡ Some type = sym p ∙ known in let same : t ≡ type = cc in ap (λ (t : NodeType). is_array t.ty) same

  -- a changed row
  changed_row : is_array type.ty ≡ true → (g : List Data → List Data) → ((ds : List Data) → AreShown is_array F owners ds → AreShown is_array F (owners_shown (content F m)) (g ds))
      → (d : Data) → Shows is_array D m d → Shows is_array F m (in_node (in_row g) d)
  changed_row rowed g change d s = by d (shape s)
    where
      by : (d : Data) → Shape is_array D m d → Shows is_array F m (in_node (in_row g) d)
      by d (as_leaf ty v p q) =
          subst (λ d. Shows is_array F m (in_node (in_row g) d)) (sym q) (subst (Shows is_array F m) (sym (leaf_kept (in_row g) v)) (shows_leaf m ty v (kept _ p)))
      by d (as_row ty items p a r q) =
          let now = kept_items is_array D F owners (data_items items) (as_list is_array D r) (λ x h. kept_child is_array D F sound m alike x (row_above D sound m x h)) in
          subst (λ d. Shows is_array F m (in_node (in_row g) d)) (sym q)
          (shows_row m ty (items_of (g (data_items items))) (kept _ p) a (as_items is_array F (owners_shown (content F m)) (g (data_items items)) (change (data_items items) now)))
      by d (as_registers ty keys ms p a l r q) = absurd (true-false rowed (sym (same_type _ p) ∙ a))

  -- items leave
  pub items_left : (index count : ℕ) → is_array type.ty ≡ true → owners_shown (content F m) ≡ take index owners ++ drop (index + count) owners → (d : Data) → Shows is_array D m d → Shows is_array F m (without_items index count d)
  items_left index count rowed row d s =
      changed_row rowed (λ ds. take index ds ++ drop (index + count) ds)
      (λ ds now. subst (λ ns. AreShown is_array F ns (take index ds ++ drop (index + count) ds)) (sym row)
      (shown_joined is_array F (take index owners) (take index ds) (drop (index + count) owners) (drop (index + count) ds) (shown_take is_array F index owners ds now) (shown_drop is_array F (index + count) owners ds now))) d s

  -- items come
  pub items_come : (index : ℕ) (new : List NodeId) (es : List Data) → is_array type.ty ≡ true → owners_shown (content F m) ≡ take index owners ++ (new ++ drop index owners) → AreShown is_array F new es → (d : Data) → Shows is_array D m d
      → Shows is_array F m (with_items index es d)
  items_come index new es rowed row shown d s =
      changed_row rowed (λ ds. take index ds ++ (es ++ drop index ds))
      (λ ds now. subst (λ ns. AreShown is_array F ns (take index ds ++ (es ++ drop index ds))) (sym row)
      (shown_joined is_array F (take index owners) (take index ds) (new ++ drop index owners) (es ++ drop index ds) (shown_take is_array F index owners ds now)
      (shown_joined is_array F new es (drop index owners) (drop index ds) shown (shown_drop is_array F index owners ds now)))) d s

  children_kept : (k : List ℕ) (x : NodeId) → D.held (register m k) ≡ Some x → (d : Data) → Shows is_array D x d → Shows is_array F x d
  children_kept k x e = kept_child is_array D F sound m alike x (held_above D sound m x k e)

  -- what stands under a key leaves
  pub member_left : (key : List ℕ) → is_array type.ty ≡ false → ((k : List ℕ) → F.held (register m k) ≡ cond (same_key key k) None (D.held (register m k))) → (d : Data) → Shows is_array D m d → Shows is_array F m (without_key key d)
  member_left key unrowed held d s = by d (shape s)
    where
      keys : (k : List ℕ) → key_at F m k ≡ cond (not (same_key key k)) (key_at D m k) None
      keys k = ap (λ (o : Option NodeId). cond (is_some o) (Some k) None) (held k) ∙ go (same_key key k)
        where
          go : (b : Bool) → cond (is_some (cond b None (D.held (register m k)))) (Some k) None ≡ cond (not b) (cond (is_some (D.held (register m k))) (Some k) None) None
          go true = refl
          go false = refl

      by : (d : Data) → Shape is_array D m d → Shows is_array F m (without_key key d)
      by d (as_leaf ty v p q) = subst (λ d. Shows is_array F m (without_key key d)) (sym q) (subst (Shows is_array F m) (sym (leaf_kept (in_fields (other_members key)) v)) (shows_leaf m ty v (kept _ p)))
      by d (as_row ty items p a r q) = absurd (true-false a (same_type _ p ∙ unrowed))
      by d (as_registers ty ks ms p a l r q) =
          subst (λ d. Shows is_array F m (without_key key d)) (sym q)
          (shows_registers m ty (other_keys key ks) (other_members key ms) (kept _ p) a (one_less key ks (key_at D m) (key_at F m) keys l) (members_without is_array D F key r held children_kept))

  -- a node comes under a key
  pub member_comes : (key : List ℕ) (top : NodeId) (new : Data) → is_array type.ty ≡ false → Shows is_array F top new → ((k : List ℕ) → F.held (register m k) ≡ cond (same_key k key) (Some top) (D.held (register m k)))
      → (d : Data) → Shows is_array D m d → Shows is_array F m (with_key key new d)
  member_comes key top new unrowed shown held d s = by d (shape s)
    where
      keys : (k : List ℕ) → key_at F m k ≡ cond (same_key k key) (Some key) (key_at D m k)
      keys k = ap (λ (o : Option NodeId). cond (is_some o) (Some k) None) (held k) ∙ go (same_key k key) refl
        where
          go : (b : Bool) → same_key k key ≡ b → cond (is_some (cond b (Some top) (D.held (register m k)))) (Some k) None ≡ cond b (Some key) (cond (is_some (D.held (register m k))) (Some k) None)
          go true e = ap (λ l. Some l) (same_key-true k key e)
          go false e = refl

      by : (d : Data) → Shape is_array D m d → Shows is_array F m (with_key key new d)
      by d (as_leaf ty v p q) = subst (λ d. Shows is_array F m (with_key key new d)) (sym q) (subst (Shows is_array F m) (sym (leaf_kept (in_fields (put key new)) v)) (shows_leaf m ty v (kept _ p)))
      by d (as_row ty items p a r q) = absurd (true-false a (same_type _ p ∙ unrowed))
      by d (as_registers ty ks ms p a l r q) =
          subst (λ d. Shows is_array F m (with_key key new d)) (sym q)
          (shows_registers m ty (with_one key ks) (put key new ms) (kept _ p) a (IsListing-with_one key ks (key_at D m) (key_at F m) keys l) (members_with is_array D F key top new shown r l.rising held children_kept))
