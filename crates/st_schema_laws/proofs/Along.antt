-- Where one node changes, the tree changes at the end of the path that leads there.
use Rattle.std.proofs.Common.{◌≡◌, ◌≢◌, ℕ, zero, suc, ◌+◌, ◌==◌, Bool, true, false, cond, List, [], ◌∷◌, ◌++◌, map, length, filter, take_all, Some, None, IsSome, is_some, option_map, slice_get, Ok, refl, sym, ap, ◌∙◌, subst, arith, inl, inr}
use Rattle.std.specs.Ordering.{nat_cmp, is_eq}
use Rattle.std.specs.Cmp.Lexicographic.{slice_cmp, nat_list_cmp_total}
use Rattle.std.proofs.lemmas.Cmp.{tied_itself}
use Rattle.std.proofs.lemmas.Map.Lookups.{exact_bytes}
use Rattle.serde_json.specs.Data.{Data, array, object, Items, Members}
use Rattle.serde_json.specs.View.{items_of}
use Rattle.st_ids.specs.Listing.{Has, AreDistinct, IsListing}
use Rattle.st_ids.specs.declared.names.FieldId.{FieldId}
use Rattle.st_ids.specs.declared.names.Leaf.{Leaf}
use Rattle.st_ids.specs.declared.names.NodeId.{NodeId}
use Rattle.st_ids.specs.declared.names.Place.{Place}
use Rattle.st_tree.specs.declared.edit.EditFault.TheVariants.{NoNode}
use Rattle.st_marks.specs.declared.places.Slot.{Slot}
use Rattle.st_marks.specs.declared.places.Spot.{Spot}
use Rattle.st_marks.specs.Document.{Document, IsSoundInForm, above, content}
use Rattle.st_marks.specs.LiveTree.{Shows, shows_leaf, shows_row, shows_registers, ShowsItems, no_more_items, next_item, ShowsMembers, no_more_members, next_member, owners_shown, register, key_at, one_member, live_slots}
use Rattle.st_ids.specs.LeafText.{leaf_data}
use Rattle.st_marks.proofs.Members.{all-has}
use Rattle.st_edits.specs.Paths.{child, field_at, or_refuse, walk_from}
use Rattle.st_edits.proofs.Fits.{passed, or_refuse-Ok, items_once}
use Rattle.st_schema_laws.specs.Alike.{IsFrom, AreAlikeAt}
use Rattle.st_schema_laws.specs.Edited.{in_node, in_row, in_fields, data_items, at_index, at_key, at_place, at_path, same_key}
use Rattle.st_schema_laws.proofs.Beneath.{in_row as stands_in_row, row_above, held_above, from_child, not_beneath, one_child}
use Rattle.st_schema_laws.proofs.Alike.{same_below, same_keys}
use Rattle.st_ids.proofs.Orders.{is_eq_equal}
use Rattle.st_lemmas.proofs.Bools.{true-false}
use Rattle.st_ids.proofs.Shared.{at_has}

-- ## Items as a list

module _ (is_array : List ℕ → Bool) (D : Document) where
  -- nodes, each with what it shows
  abbrev pub AreShown : List NodeId → List Data → Type 0
  AreShown [] [] = Unit {0}
  AreShown [] (d ∷ ds) = ⊥
  AreShown (n ∷ ns) [] = ⊥
  AreShown (n ∷ ns) (d ∷ ds) = Shows is_array D n d × AreShown ns ds

  pub as_list : {ns : List NodeId} {items : Items} → ShowsItems is_array D ns items → AreShown ns (data_items items)
  as_list no_more_items = tt
  as_list (next_item n d ns ds a s) = (a, as_list s)

  pub as_items : (ns : List NodeId) (ds : List Data) → AreShown ns ds → ShowsItems is_array D ns (items_of ds)
  as_items [] [] h = no_more_items
  as_items [] (d ∷ ds) h = absurd h
  as_items (n ∷ ns) [] h = absurd h
  as_items (n ∷ ns) (d ∷ ds) h = next_item n d ns (items_of ds) h.0 (as_items ns ds h.1)

-- ## What a row shows

pub owners_live : (cells : List Slot) → owners_shown cells ≡ map (λ (s : Slot). s.node) (filter (λ (s : Slot). s.full) cells)
owners_live [] = refl
owners_live (s ∷ cells) = go s.full (owners_live cells)
  where
    go : (b : Bool) → owners_shown cells ≡ map (λ (s : Slot). s.node) (filter (λ (s : Slot). s.full) cells)
        → cond b (s.node ∷ []) [] ++ owners_shown cells ≡ map (λ (s : Slot). s.node) (cond b (s ∷ filter (λ (s : Slot). s.full) cells) (filter (λ (s : Slot). s.full) cells))
    go true e = ap (λ ns. s.node ∷ ns) e
    go false e = e

got_map : {A B : Type 0} (f : A → B) (xs : List A) (i : ℕ) → slice_get (map f xs) i ≡ option_map f (slice_get xs i)
got_map f [] i = refl
got_map f (x ∷ xs) zero = refl
got_map f (x ∷ xs) (suc i) = got_map f xs i

pub owner_at : (D : Document) (n : NodeId) (i : ℕ) → slice_get (owners_shown (content D n)) i ≡ option_map (λ (s : Slot). s.node) (slice_get (live_slots D n) i)
owner_at D n i = ap (λ ns. slice_get ns i) (owners_live (content D n)) ∙ got_map (λ (s : Slot). s.node) (live_slots D n) i

pub owners_once : (D : Document) (n : NodeId) → IsSoundInForm D → AreDistinct (λ (x : NodeId). x) (owners_shown (content D n))
owners_once D n sound =
    subst (AreDistinct (λ (x : NodeId). x)) (ap (map (λ (s : Slot). s.node)) (take_all (length (live_slots D n)) (live_slots D n) (omega arith)) ∙ sym (owners_live (content D n)))
    (items_once D n 0 (length (live_slots D n)) sound)

-- ## Keys

pub same_key-true : (k l : List ℕ) → same_key k l ≡ true → k ≡ l
same_key-true k l e = exact_bytes k l (is_eq_equal (slice_cmp nat_cmp k l) e)

pub same_key-itself : (k : List ℕ) → same_key k k ≡ true
same_key-itself k = ap is_eq (tied_itself nat_list_cmp_total k)

-- ## One node, by its shape

-- what a node shows, by the kind of node that it is
pub data Shape (is_array : List ℕ → Bool) (D : Document) (n : NodeId) (d : Data) : Type 0 where
  as_leaf : (ty : List ℕ) (value : Leaf) → D.nodes n ≡ Some (record { ty = ty; leaf = Some value }) → d ≡ leaf_data value → Shape is_array D n d
  as_row : (ty : List ℕ) (items : Items) → D.nodes n ≡ Some (record { ty = ty; leaf = None }) → is_array ty ≡ true → ShowsItems is_array D (owners_shown (content D n)) items
      → d ≡ one_member ty (array items) → Shape is_array D n d
  as_registers : (ty : List ℕ) (keys : List (List ℕ)) (members : Members) → D.nodes n ≡ Some (record { ty = ty; leaf = None }) → is_array ty ≡ false
      → IsListing (slice_cmp nat_cmp) (λ (k : List ℕ). k) keys (key_at D n) → ShowsMembers is_array D n keys members → d ≡ one_member ty (object members) → Shape is_array D n d

pub shape : {is_array : List ℕ → Bool} {D : Document} {n : NodeId} {d : Data} → Shows is_array D n d → Shape is_array D n d
shape (shows_leaf n ty v p) = as_leaf ty v p refl
shape (shows_row n ty items p a s) = as_row ty items p a s refl
shape (shows_registers n ty keys ms p a l s) = as_registers ty keys ms p a l s refl

-- ## A change of one node

pub leaf_kept : (h : Data → Data) (v : Leaf) → in_node h (leaf_data v) ≡ leaf_data v
leaf_kept h Leaf.Null = refl
leaf_kept h (Leaf.Bool b) = refl
leaf_kept h (Leaf.Int i) = refl
leaf_kept h (Leaf.Words text) = refl

module _ (is_array : List ℕ → Bool) (D E : Document) where
  -- the same nodes show the same
  abbrev pub Kept : NodeId → Type 0
  Kept x = (d : Data) → Shows is_array D x d → Shows is_array E x d

  pub kept_items : (ns : List NodeId) (ds : List Data) → AreShown is_array D ns ds → ((x : NodeId) → Has ns x → Kept x) → AreShown is_array E ns ds
  kept_items [] [] h kept = tt
  kept_items [] (d ∷ ds) h kept = absurd h
  kept_items (n ∷ ns) [] h kept = absurd h
  kept_items (n ∷ ns) (d ∷ ds) h kept = (kept n (inl refl) d h.0, kept_items ns ds h.1 (λ x i. kept x (inr i)))

  pub kept_row : {ns : List NodeId} {items : Items} → ShowsItems is_array D ns items → ((x : NodeId) → Has ns x → Kept x) → ShowsItems is_array E ns items
  kept_row no_more_items kept = no_more_items
  kept_row (next_item n d ns ds a s) kept = next_item n d ns ds (kept n (inl refl) d a) (kept_row s (λ x h. kept x (inr h)))

  pub kept_members : {n : NodeId} {ks : List (List ℕ)} {ms : Members} → ShowsMembers is_array D n ks ms → ((k : List ℕ) → E.held (register n k) ≡ D.held (register n k))
      → ((k : List ℕ) (x : NodeId) → D.held (register n k) ≡ Some x → Kept x) → ShowsMembers is_array E n ks ms
  kept_members (no_more_members n) held kept = no_more_members n
  kept_members (next_member n m k d ks ms p a s) held kept = next_member n m k d ks ms (held k ∙ p) (kept k m p d a) (kept_members s held kept)

  -- the item of an index changes
  one_item : (x : NodeId) (f : Data → Data) → ((d : Data) → Shows is_array D x d → Shows is_array E x (f d)) → (ns : List NodeId) (ds : List Data) (i : ℕ) → AreDistinct (λ (y : NodeId). y) ns
      → slice_get ns i ≡ Some x → ((y : NodeId) → Has ns y → y ≢ x → Kept y) → AreShown is_array D ns ds → AreShown is_array E ns (at_index i f ds)
  one_item x f now [] ds i once e kept h = cc
  one_item x f now (n ∷ ns) [] i once e kept h = absurd h
  one_item x f now (n ∷ ns) (d ∷ ds) zero once e kept h =
      let same : n ≡ x = cc in (
        subst (λ y. Shows is_array E y (f d)) (sym same) (now d (subst (λ y. Shows is_array D y d) same h.0)),
        kept_items ns ds h.1 (λ y k. kept y (inr k) (λ q. all-has (λ z. z ≢ n) ns y once.0 k (q ∙ sym same))),
      )
  one_item x f now (n ∷ ns) (d ∷ ds) (suc i) once e kept h = (
    kept n (inl refl) (λ q. all-has (λ z. z ≢ n) ns x once.0 (at_has ns i x e) (sym q)) d h.0,
    one_item x f now ns ds i once.1 e (λ y k. kept y (inr k)) h.1,
  )

  -- what stands under a key changes
  one_member_changes : (x : NodeId) (key : List ℕ) (f : Data → Data) → ((d : Data) → Shows is_array D x d → Shows is_array E x (f d)) → {n : NodeId} {ks : List (List ℕ)} {ms : Members} → ShowsMembers is_array D n ks ms
      → D.held (register n key) ≡ Some x → ((k : List ℕ) → E.held (register n k) ≡ D.held (register n k))
      → ((k : List ℕ) (y : NodeId) → D.held (register n k) ≡ Some y → same_key key k ≡ false → Kept y) → ShowsMembers is_array E n ks (at_key key f ms)
  one_member_changes x key f now (no_more_members n) at held kept = no_more_members n
  one_member_changes x key f now (next_member n m k d ks ms p a s) at held kept =
      next_member n m k _ ks _ (held k ∙ p) (go (same_key key k) refl) (one_member_changes x key f now s at held kept)
    where
      go : (b : Bool) → same_key key k ≡ b → Shows is_array E m (cond b (f d) d)
      go false e = kept k m p e d a
      go true e =
          let both : Some m ≡ Some x = sym p ∙ ap (λ l. D.held (register n l)) (sym (same_key-true key k e)) ∙ at in
          let same : m ≡ x = cc in
          subst (λ y. Shows is_array E y (f d)) (sym same) (now d (subst (λ y. Shows is_array D y d) same a))

-- ## Along the path

pub child_up : (D : Document) (sound : IsSoundInForm D) (n x : NodeId) (p : Place) → child D n p ≡ Some x → above D x ≡ Some n
child_up D sound n x p e = go (length p.key.0 == 0) e
  where
    field : (b : Bool) → cond b (D.held (field_at n p.key)) None ≡ Some x → above D x ≡ Some n
    field true f = held_above D sound n x p.key.0 f
    field false f = cc

    go : (b : Bool) → cond b (option_map (λ (s : Slot). s.node) (slice_get (live_slots D n) p.index)) (cond (p.index == 0) (D.held (field_at n p.key)) None) ≡ Some x → above D x ≡ Some n
    go true f = row_above D sound n x (at_has (owners_shown (content D n)) p.index x (owner_at D n p.index ∙ f))
    go false f = field (p.index == 0) f

-- a path leads downwards
pub live_at : (D : Document) (sound : IsSoundInForm D) (path : List Place) (k : ℕ) (n m : NodeId) → walk_from D k n path ≡ Ok m → IsFrom D n m
live_at D sound [] k n m e = let same : n ≡ m = cc in (0, ap (λ x. Some x) (sym same))
live_at D sound (p ∷ ps) k n m e =
    let x = passed (or_refuse (child D n p) (NoNode k)) (λ x. walk_from D (k + 1) x ps) m e in
    from_child D sound n x.0 m (child_up D sound n x.0 p (or_refuse-Ok (child D n p) (NoNode k) x.0 x.1)) (live_at D sound ps (k + 1) x.0 m x.2)

module _ (is_array : List ℕ → Bool) (D E : Document) (sound : IsSoundInForm D) (m : NodeId) (alike : (x : NodeId) → IsSome (D.nodes x) → x ≢ m → AreAlikeAt D E x) where
  -- a node that the changed one isn't beneath shows the same
  pub kept_other : (y : NodeId) → (IsFrom D y m → ⊥) → Kept is_array D E y
  kept_other y out d s = same_below is_array D E sound y d (λ x or_refuse w. alike x or_refuse (λ e. out (subst (IsFrom D y) e w))) s

  -- a node beneath the changed one too
  pub kept_child : (y : NodeId) → above D y ≡ Some m → Kept is_array D E y
  kept_child y e = kept_other y (not_beneath D sound m y e)

  -- so does another child of a node that the way to the changed one leads through
  kept_beside : (n x y : NodeId) → above D x ≡ Some n → above D y ≡ Some n → IsFrom D x m → y ≢ x → Kept is_array D E y
  kept_beside n x y e f w apart = kept_other y (λ v. apart (one_child D sound n y x m f e v w))

  alike_above : (n x : NodeId) → above D x ≡ Some n → IsFrom D x m → IsSome (D.nodes n) → AreAlikeAt D E n
  alike_above n x e w or_refuse = alike n or_refuse (λ same. not_beneath D sound n x e (subst (IsFrom D x) (sym same) w))

  row_not_held : (n y z : NodeId) (k : List ℕ) → Has (owners_shown (content D n)) y → D.held (register n k) ≡ Some z → y ≢ z
  row_not_held n y z k h e same =
      let b = stands_in_row D sound n y h in
      let bad : Spot.Row n b.0 ≡ Spot.Register (register n k) = sym b.1 ∙ ap D.place same ∙ (sound.one_held z (register n k)).0 e in cc

  other_key : (n x y : NodeId) (key k : List ℕ) → D.held (register n key) ≡ Some x → D.held (register n k) ≡ Some y → same_key key k ≡ false → y ≢ x
  other_key n x y key k e f apart same =
      let place : Spot.Register (register n key) ≡ Spot.Register (register n k) = sym ((sound.one_held x (register n key)).0 e) ∙ ap D.place (sym same) ∙ (sound.one_held y (register n k)).0 f in
      let fields : register n key ≡ register n k = cc in
      true-false (same_key-itself key) (ap (same_key key) (ap (λ (g : FieldId). g.key.0) fields) ∙ apart)

  through_row : (n x : NodeId) (i : ℕ) (g : Data → Data) → option_map (λ (s : Slot). s.node) (slice_get (live_slots D n) i) ≡ Some x → IsFrom D x m → ((d : Data) → Shows is_array D x d → Shows is_array E x (g d))
      → IsFrom D n m × ((d : Data) → Shows is_array D n d → Shows is_array E n (in_node (in_row (at_index i g)) d))
  through_row n x i g e w now = (from_child D sound n x m up w, go)
    where
      at : slice_get (owners_shown (content D n)) i ≡ Some x
      at = owner_at D n i ∙ e

      or_refuse : Has (owners_shown (content D n)) x
      or_refuse = at_has (owners_shown (content D n)) i x at

      up : above D x ≡ Some n
      up = row_above D sound n x or_refuse

      go : (d : Data) → Shows is_array D n d → Shows is_array E n (in_node (in_row (at_index i g)) d)
      go d s = by d (shape s)
        where
          by : (d : Data) → Shape is_array D n d → Shows is_array E n (in_node (in_row (at_index i g)) d)
          by d (as_leaf ty v p q) =
              subst (λ d. Shows is_array E n (in_node (in_row (at_index i g)) d)) (sym q)
              (subst (Shows is_array E n) (sym (leaf_kept (in_row (at_index i g)) v)) (shows_leaf n ty v ((alike_above n x up w (ap is_some p)).node _ p)))
          by d (as_row ty items p a s q) =
              let here = alike_above n x up w (ap is_some p) in
              subst (λ d. Shows is_array E n (in_node (in_row (at_index i g)) d)) (sym q)
              (shows_row n ty _ (here.node _ p) a
              (subst (λ ns. ShowsItems is_array E ns (items_of (at_index i g (data_items items)))) (sym here.row)
              (as_items is_array E (owners_shown (content D n)) (at_index i g (data_items items))
              (one_item is_array D E x g now (owners_shown (content D n)) (data_items items) i (owners_once D n sound) at
              (λ y h apart. kept_beside n x y up (row_above D sound n y h) w apart) (as_list is_array D s)))))
          by d (as_registers ty keys ms p a l s q) =
              let here = alike_above n x up w (ap is_some p) in
              subst (λ d. Shows is_array E n (in_node (in_row (at_index i g)) d)) (sym q)
              (shows_registers n ty keys ms (here.node _ p) a (same_keys D E n keys here.held l)
              (kept_members is_array D E s here.held (λ k y f. kept_beside n x y up (held_above D sound n y k f) w (λ q. row_not_held n x y k or_refuse f (sym q)))))

  through_field : (n x : NodeId) (key : List ℕ) (g : Data → Data) → D.held (register n key) ≡ Some x → IsFrom D x m → ((d : Data) → Shows is_array D x d → Shows is_array E x (g d))
      → IsFrom D n m × ((d : Data) → Shows is_array D n d → Shows is_array E n (in_node (in_fields (at_key key g)) d))
  through_field n x key g e w now = (from_child D sound n x m up w, go)
    where
      up : above D x ≡ Some n
      up = held_above D sound n x key e

      go : (d : Data) → Shows is_array D n d → Shows is_array E n (in_node (in_fields (at_key key g)) d)
      go d s = by d (shape s)
        where
          by : (d : Data) → Shape is_array D n d → Shows is_array E n (in_node (in_fields (at_key key g)) d)
          by d (as_leaf ty v p q) =
              subst (λ d. Shows is_array E n (in_node (in_fields (at_key key g)) d)) (sym q)
              (subst (Shows is_array E n) (sym (leaf_kept (in_fields (at_key key g)) v)) (shows_leaf n ty v ((alike_above n x up w (ap is_some p)).node _ p)))
          by d (as_row ty items p a s q) =
              let here = alike_above n x up w (ap is_some p) in
              subst (λ d. Shows is_array E n (in_node (in_fields (at_key key g)) d)) (sym q)
              (shows_row n ty items (here.node _ p) a
              (subst (λ ns. ShowsItems is_array E ns items) (sym here.row)
              (kept_row is_array D E s (λ y h. kept_beside n x y up (row_above D sound n y h) w (row_not_held n y x key h e)))))
          by d (as_registers ty keys ms p a l s q) =
              let here = alike_above n x up w (ap is_some p) in
              subst (λ d. Shows is_array E n (in_node (in_fields (at_key key g)) d)) (sym q)
              (shows_registers n ty keys _ (here.node _ p) a (same_keys D E n keys here.held l)
              (one_member_changes is_array D E x key g now s e here.held (λ k y f apart. kept_beside n x y up (held_above D sound n y k f) w (other_key n x y key k e f apart))))

  through : (n x : NodeId) (p : Place) (g : Data → Data) → child D n p ≡ Some x → IsFrom D x m → ((d : Data) → Shows is_array D x d → Shows is_array E x (g d))
      → IsFrom D n m × ((d : Data) → Shows is_array D n d → Shows is_array E n (at_place p g d))
  through n x p g e w now = go (length p.key.0 == 0) e
    where
      field : (b : Bool) → cond b (D.held (field_at n p.key)) None ≡ Some x → D.held (register n p.key.0) ≡ Some x
      field true e = e
      field false e = cc

      go : (b : Bool) → cond b (option_map (λ (s : Slot). s.node) (slice_get (live_slots D n) p.index)) (cond (p.index == 0) (D.held (field_at n p.key)) None) ≡ Some x
          → IsFrom D n m × ((d : Data) → Shows is_array D n d → Shows is_array E n (in_node (cond b (in_row (at_index p.index g)) (in_fields (at_key p.key.0 g))) d))
      go true e = through_row n x p.index g e w now
      go false e = through_field n x p.key.0 g (field (p.index == 0) e) w now

  pub along : (f : Data → Data) → ((d : Data) → Shows is_array D m d → Shows is_array E m (f d)) → (path : List Place) (k : ℕ) (n : NodeId) → walk_from D k n path ≡ Ok m
      → IsFrom D n m × ((d : Data) → Shows is_array D n d → Shows is_array E n (at_path path f d))
  along f here [] k n e =
      let same : n ≡ m = cc in
      ((0, ap (λ x. Some x) (sym same)), λ d s. subst (λ x. Shows is_array E x (f d)) (sym same) (here d (subst (λ x. Shows is_array D x d) same s)))
  along f here (p ∷ ps) k n e =
      let x = passed (or_refuse (child D n p) (NoNode k)) (λ x. walk_from D (k + 1) x ps) m e in
      let rest = along f here ps (k + 1) x.0 x.2 in
      through n x.0 p (at_path ps f) (or_refuse-Ok (child D n p) (NoNode k) x.0 x.1) rest.0 rest.1
