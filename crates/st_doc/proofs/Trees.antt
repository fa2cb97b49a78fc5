-- Each node of a document that is sound in form and whose nodes can be listed shows a tree.
use Rattle.std.proofs.Common.{◌≡◌, ◌≢◌, ℕ, zero, suc, ◌+◌, ◌<◌, ◌≤◌, Bool, true, false, cond, List, [], ◌∷◌, length, map, Option, Some, None, IsSome, is_some, T, refl, sym, ap, ◌∙◌, subst, arith, inl, inr, ◌⊎◌, option_and_then}
use Rattle.std.specs.Cmp.Lexicographic.{slice_cmp, nat_list_cmp_total}
use Rattle.std.specs.FinMap.Entries.{find, put, is_sorted, is_sorted-put, find-put, by_order}
use Rattle.std.specs.Ordering.{eq_by_cmp, is_eq, nat_cmp}
use Rattle.std.specs.declared.cmp.Ordering.{Ordering}
use Rattle.std.specs.declared.cmp.Ordering.TheVariants.{Less, Equal, Greater}
use Rattle.std.proofs.lemmas.Cmp.{tied_itself}
use Rattle.std.proofs.lemmas.Map.Lookups.{exact_bytes}
use Rattle.serde_json.specs.Data.{Data, Items, no_items, item, Members, no_members, member}
use Rattle.st_ids.specs.Listing.{AreDistinct, Has, IsListing, key_pairs}
use Rattle.st_ids.specs.Order.{same_node}
use Rattle.st_ids.specs.declared.names.FieldId.{FieldId}
use Rattle.st_ids.specs.declared.names.Leaf.{Leaf}
use Rattle.st_ids.specs.declared.names.NodeId.{NodeId}
use Rattle.st_ids.proofs.Orders.{same_node-true, same_node-itself}
use Rattle.st_marks.specs.declared.places.Spot.{Spot}
use Rattle.st_marks.specs.Document.{Document, IsSoundInForm, NodeType, above, climb, content, node_of}
use Rattle.st_marks.specs.LiveTree.{Shows, shows_leaf, shows_row, shows_registers, ShowsItems, no_more_items, next_item, ShowsMembers, no_more_members, next_member, owners_shown, register, key_at}
use Rattle.st_ids.specs.LeafText.{leaf_data}
use Rattle.st_marks.proofs.Climb.{placed_known}
use Rattle.st_marks.proofs.Members.{has-all, all-has}
use Rattle.st_marks.proofs.NoRing.{without_node, shorter, others}
use Rattle.st_intent.proofs.Ends.{met_again}
use Rattle.st_doc.proofs.Children.{row_child, seat_child}
use Rattle.st_lemmas.proofs.Bools.{T-true}

-- ## The keys of a node's registers, in order

abbrev bytes_cmp : List ℕ → List ℕ → Ordering
bytes_cmp = slice_cmp nat_cmp

abbrev Keys : Type 0
Keys = List (List ℕ × List ℕ)

abbrev key_of : List ℕ → List ℕ
key_of k = k

abbrev keys_in : Keys → List (List ℕ)
keys_in es = map (λ (e : List ℕ × List ℕ). e.0) es

abbrev with_key : NodeId → Spot → Keys → Keys
with_key n Spot.Nowhere es = es
with_key n (Spot.Row r c) es = es
with_key n (Spot.Register f) es = cond (same_node f.node n) (put bytes_cmp f.key.0 f.key.0 es) es

same_bytes : (k l : List ℕ) → eq_by_cmp bytes_cmp k l ≡ true → k ≡ l
same_bytes k l e = exact_bytes k l (equal (bytes_cmp k l) e)
  where
    equal : (o : Ordering) → is_eq o ≡ true → o ≡ Equal
    equal Less e = cc
    equal Equal e = refl
    equal Greater e = cc

bytes_itself : (k : List ℕ) → eq_by_cmp bytes_cmp k k ≡ true
bytes_itself k = ap is_eq (tied_itself nat_list_cmp_total k)

put_keyed : (k : List ℕ) (es : Keys) → es ≡ key_pairs key_of (keys_in es) → put bytes_cmp k k es ≡ key_pairs key_of (keys_in (put bytes_cmp k k es))
put_keyed k [] e = refl
put_keyed k (x ∷ es) e = go (bytes_cmp k x.0) refl (put_keyed k es (ap tail e))
  where
    tail : Keys → Keys
    tail [] = []
    tail (y ∷ ys) = ys

    head : Keys → List ℕ × List ℕ
    head [] = x
    head (y ∷ ys) = y

    go : (o : Ordering) → bytes_cmp k x.0 ≡ o → put bytes_cmp k k es ≡ key_pairs key_of (keys_in (put bytes_cmp k k es))
        → by_order o ((k, k) ∷ x ∷ es) ((x.0, k) ∷ es) (x ∷ put bytes_cmp k k es) ≡ key_pairs key_of (keys_in (by_order o ((k, k) ∷ x ∷ es) ((x.0, k) ∷ es) (x ∷ put bytes_cmp k k es)))
    go Less p rest = ap (λ l. (k, k) ∷ l) e
    go Equal p rest = (λ i. (x.0, exact_bytes k x.0 p i) ∷ tail (e i))
    go Greater p rest = (λ i. head (e i) ∷ rest i)

module _ (D : Document) (n : NodeId) where
  abbrev key_list : List NodeId → Keys
  key_list [] = []
  key_list (m ∷ ms) = with_key n (D.place m) (key_list ms)

  list_sorted : (ms : List NodeId) → T (is_sorted bytes_cmp (key_list ms))
  list_sorted [] = tt
  list_sorted (m ∷ ms) = go (D.place m) (list_sorted ms)
    where
      one : (f : FieldId) (b : Bool) → T (is_sorted bytes_cmp (key_list ms)) → T (is_sorted bytes_cmp (cond b (put bytes_cmp f.key.0 f.key.0 (key_list ms)) (key_list ms)))
      one f true h = is_sorted-put bytes_cmp nat_list_cmp_total f.key.0 f.key.0 (key_list ms) h
      one f false h = h

      go : (s : Spot) → T (is_sorted bytes_cmp (key_list ms)) → T (is_sorted bytes_cmp (with_key n s (key_list ms)))
      go Spot.Nowhere h = h
      go (Spot.Row r c) h = h
      go (Spot.Register f) h = one f (same_node f.node n) h

  list_keyed : (ms : List NodeId) → key_list ms ≡ key_pairs key_of (keys_in (key_list ms))
  list_keyed [] = refl
  list_keyed (m ∷ ms) = go (D.place m) (list_keyed ms)
    where
      one : (f : FieldId) (b : Bool) → key_list ms ≡ key_pairs key_of (keys_in (key_list ms))
          → cond b (put bytes_cmp f.key.0 f.key.0 (key_list ms)) (key_list ms) ≡ key_pairs key_of (keys_in (cond b (put bytes_cmp f.key.0 f.key.0 (key_list ms)) (key_list ms)))
      one f true h = put_keyed f.key.0 (key_list ms) h
      one f false h = h

      go : (s : Spot) → key_list ms ≡ key_pairs key_of (keys_in (key_list ms)) → with_key n s (key_list ms) ≡ key_pairs key_of (keys_in (with_key n s (key_list ms)))
      go Spot.Nowhere h = h
      go (Spot.Row r c) h = h
      go (Spot.Register f) h = one f (same_node f.node n) h

  -- the key of a register that is among the places
  key_there : (k : List ℕ) (ms : List NodeId) (m : NodeId) → Has ms m → D.place m ≡ Spot.Register (register n k) → find bytes_cmp k (key_list ms) ≡ Some k
  key_there k [] m h e = absurd h
  key_there k (x ∷ ms) m (inl same) e =
      ap (λ s. find bytes_cmp k (with_key n s (key_list ms))) (ap D.place same ∙ e)
      ∙ ap (λ b. find bytes_cmp k (cond b (put bytes_cmp k k (key_list ms)) (key_list ms))) (same_node-itself n)
      ∙ find-put bytes_cmp nat_list_cmp_total k k k (key_list ms) ∙ ap (λ b. cond b (Some k) (find bytes_cmp k (key_list ms))) (bytes_itself k)
  key_there k (x ∷ ms) m (inr h) e = go (D.place x) (key_there k ms m h e)
    where
      other : (l : List ℕ) (b : Bool) → eq_by_cmp bytes_cmp k l ≡ b → cond b (Some l) (Some k) ≡ Some k
      other l true q = ap (λ x. Some x) (sym (same_bytes k l q))
      other l false q = refl

      one : (f : FieldId) (b : Bool) → find bytes_cmp k (key_list ms) ≡ Some k → find bytes_cmp k (cond b (put bytes_cmp f.key.0 f.key.0 (key_list ms)) (key_list ms)) ≡ Some k
      one f true there =
          find-put bytes_cmp nat_list_cmp_total k f.key.0 f.key.0 (key_list ms) ∙ ap (cond (eq_by_cmp bytes_cmp k f.key.0) (Some f.key.0)) there ∙ other f.key.0 (eq_by_cmp bytes_cmp k f.key.0) refl
      one f false there = there

      go : (s : Spot) → find bytes_cmp k (key_list ms) ≡ Some k → find bytes_cmp k (with_key n s (key_list ms)) ≡ Some k
      go Spot.Nowhere there = there
      go (Spot.Row r c) there = there
      go (Spot.Register f) there = one f (same_node f.node n) there

  -- and no other
  no_key : (k : List ℕ) (ms : List NodeId) → ((m : NodeId) → D.place m ≡ Spot.Register (register n k) → ⊥) → find bytes_cmp k (key_list ms) ≡ None
  no_key k [] none = refl
  no_key k (x ∷ ms) none = go (D.place x) refl (no_key k ms none)
    where
      other : (f : FieldId) (b c : Bool) → same_node f.node n ≡ b → eq_by_cmp bytes_cmp k f.key.0 ≡ c → D.place x ≡ Spot.Register f → find bytes_cmp k (key_list ms) ≡ None
          → find bytes_cmp k (cond b (put bytes_cmp f.key.0 f.key.0 (key_list ms)) (key_list ms)) ≡ None
      other f false c p q at there = there
      other f true true p q at there =
          absurd (none x (at ∙ (λ i. Spot.Register (register (same_node-true f.node n p i) (sym (same_bytes k f.key.0 q) i)))))
      other f true false p q at there =
          find-put bytes_cmp nat_list_cmp_total k f.key.0 f.key.0 (key_list ms) ∙ ap (λ b. cond b (Some f.key.0) (find bytes_cmp k (key_list ms))) q ∙ there

      go : (s : Spot) → D.place x ≡ s → find bytes_cmp k (key_list ms) ≡ None → find bytes_cmp k (with_key n s (key_list ms)) ≡ None
      go Spot.Nowhere at there = there
      go (Spot.Row r c) at there = there
      go (Spot.Register f) at there = other f (same_node f.node n) (eq_by_cmp bytes_cmp k f.key.0) refl refl at there

  -- a key that is listed is that of a register which holds a node
  held_key : (k : List ℕ) (ms : List NodeId) → Has (keys_in (key_list ms)) k → (m : NodeId) × (D.place m ≡ Spot.Register (register n k))
  held_key k [] h = absurd h
  held_key k (x ∷ ms) h = go (D.place x) refl (held_key k ms) h
    where
      put_has : (l : List ℕ) (es : Keys) → Has (keys_in (put bytes_cmp l l es)) k → (l ≡ k) ⊎ Has (keys_in es) k
      put_has l [] (inl q) = inl q
      put_has l [] (inr b) = absurd b
      put_has l (e ∷ es) h = by (bytes_cmp l e.0) (put_has l es) h
        where
          by : (o : Ordering) → (Has (keys_in (put bytes_cmp l l es)) k → (l ≡ k) ⊎ Has (keys_in es) k)
              → Has (keys_in (by_order o ((l, l) ∷ e ∷ es) ((e.0, l) ∷ es) (e ∷ put bytes_cmp l l es))) k → (l ≡ k) ⊎ Has (keys_in (e ∷ es)) k
          by Less rest (inl q) = inl q
          by Less rest (inr g) = inr g
          by Equal rest g = inr g
          by Greater rest (inl q) = inr (inl q)
          by Greater rest (inr g) = elim (rest g) [ inl q ↦ inl q | inr k ↦ inr (inr k) ]

      one : (f : FieldId) (b : Bool) → same_node f.node n ≡ b → D.place x ≡ Spot.Register f → (Has (keys_in (key_list ms)) k → (m : NodeId) × (D.place m ≡ Spot.Register (register n k)))
          → Has (keys_in (cond b (put bytes_cmp f.key.0 f.key.0 (key_list ms)) (key_list ms))) k → (m : NodeId) × (D.place m ≡ Spot.Register (register n k))
      one f false p at rest h = rest h
      one f true p at rest h = elim (put_has f.key.0 (key_list ms) h) [
        | inl q ↦ (x, at ∙ (λ i. Spot.Register (register (same_node-true f.node n p i) (q i))))
        | inr g ↦ rest g
      ]

      go : (s : Spot) → D.place x ≡ s → (Has (keys_in (key_list ms)) k → (m : NodeId) × (D.place m ≡ Spot.Register (register n k))) → Has (keys_in (with_key n s (key_list ms))) k
          → (m : NodeId) × (D.place m ≡ Spot.Register (register n k))
      go Spot.Nowhere at rest h = rest h
      go (Spot.Row r c) at rest h = rest h
      go (Spot.Register f) at rest h = one f (same_node f.node n) refl at rest h

  module _ (sound : IsSoundInForm D) (ms : List NodeId) (known : (m : NodeId) → IsSome (D.nodes m) → Has ms m) where
    found : (k : List ℕ) (o : Option NodeId) → D.held (register n k) ≡ o → find bytes_cmp k (key_list ms) ≡ cond (is_some o) (Some k) None
    found k (Some m) e = key_there k ms m (known m (sound.held_known m (register n k) e).0) ((sound.one_held m (register n k)).0 e)
    found k None e = no_key k ms (λ m at. let bad : None ≡ Some m = sym e ∙ (sound.one_held m (register n k)).1 at in cc)

    pub keys_listed : IsListing bytes_cmp key_of (keys_in (key_list ms)) (key_at D n)
    keys_listed = record {
      rising = T-true _ (subst (λ es. T (is_sorted bytes_cmp es)) (list_keyed ms) (list_sorted ms));
      at_each = λ k. ap (find bytes_cmp k) (sym (list_keyed ms)) ∙ found k (D.held (register n k)) refl;
    }

    pub key_held : (k : List ℕ) → Has (keys_in (key_list ms)) k → (m : NodeId) × (D.held (register n k) ≡ Some m)
    key_held k h = let m = held_key k ms h in (m.0, (sound.one_held m.0 (register n k)).1 m.1)

-- ## Trees

fewer : (ps qs : List NodeId) → AreDistinct (λ (n : NodeId). n) ps → ((p : NodeId) → Has ps p → Has qs p) → length ps ≤ length qs
fewer [] qs once there = omega arith
fewer (p ∷ ps) qs once there =
    let rest = fewer ps (without_node p qs) once.1 (λ q h. others p q qs (there q (inr h)) (all-has (λ y. y ≢ p) ps q once.0 h)) in
    omega (arith, rest, shorter p qs (there p (inl refl)))

module _ (is_array : List ℕ → Bool) (D : Document) (sound : IsSoundInForm D) (ns : List NodeId) (known : (n : NodeId) → IsSome (D.nodes n) → Has ns n) where
  abbrev Tree : NodeId → Type 0
  Tree n = (t : Data) × Shows is_array D n t

  items_of : (ms : List NodeId) → ((m : NodeId) → Has ms m → Tree m) → (ds : Items) × ShowsItems is_array D ms ds
  items_of [] tree = (no_items, no_more_items)
  items_of (m ∷ ms) tree =
      let one = tree m (inl refl) in
      let rest = items_of ms (λ x h. tree x (inr h)) in
      (item one.0 rest.0, next_item m one.0 ms rest.0 one.1 rest.1)

  members_of : (n : NodeId) (ks : List (List ℕ)) → ((k : List ℕ) → Has ks k → (m : NodeId) × (D.held (register n k) ≡ Some m)) → ((m : NodeId) → above D m ≡ Some n → Tree m)
      → (ms : Members) × ShowsMembers is_array D n ks ms
  members_of n [] held tree = (no_members, no_more_members n)
  members_of n (k ∷ ks) held tree =
      let m = held k (inl refl) in
      let one = tree m.0 (seat_child D sound n m.0 k m.1) in
      let rest = members_of n ks (λ l h. held l (inr h)) tree in
      (member k one.0 rest.0, next_member n m.0 k one.0 ks rest.0 m.1 one.1 rest.1)

  -- a node shows a tree where those directly beneath it do
  node_tree : (n : NodeId) → IsSome (D.nodes n) → ((m : NodeId) → above D m ≡ Some n → Tree m) → Tree n
  node_tree n there tree = by_type (D.nodes n) refl there
    where
      by_kind : (ty : List ℕ) (b : Bool) → is_array ty ≡ b → D.nodes n ≡ Some (record { ty = ty; leaf = None }) → Tree n
      by_kind ty true a e =
          let items = items_of (owners_shown (content D n)) (λ m h. tree m (row_child D sound n m h)) in
          (_, shows_row n ty items.0 e a items.1)
      by_kind ty false a e =
          let keys = keys_in (key_list D n ns) in
          let members = members_of n keys (key_held D n sound ns known) tree in
          (_, shows_registers n ty keys members.0 e a (keys_listed D n sound ns known) members.1)

      by_leaf : (ty : List ℕ) (leaf : Option Leaf) → D.nodes n ≡ Some (record { ty = ty; leaf = leaf }) → Tree n
      by_leaf ty (Some v) e = (leaf_data v, shows_leaf n ty v e)
      by_leaf ty None e = by_kind ty (is_array ty) refl e

      by_type : (o : Option NodeType) → D.nodes n ≡ o → IsSome o → Tree n
      by_type None e some = cc
      by_type (Some t) e some = by_leaf t.ty t.leaf e

  -- by a way down from some node, on which no node comes twice; the way is no longer than the list of all nodes
  tree_below : (fuel : ℕ) (way : List NodeId) (n : NodeId) → IsSome (D.nodes n) → length ns < fuel + length way → AreDistinct (λ (m : NodeId). m) way
      → ((m : NodeId) → Has way m → IsSome (D.nodes m) × ((j : ℕ) × (climb (above D) j n ≡ Some m))) → Tree n
  tree_below zero way n there few once up =
      let at_most = fewer way ns once (λ m h. known m (up m h).0) in absurd (omega (arith, at_most, few))
  tree_below (suc fuel) way n there few once up =
      node_tree n there (λ m a. (
      let child : IsSome (D.nodes m) = placed_known D sound m (λ nowhere. let bad : None ≡ Some n = sym (ap node_of nowhere) ∙ a in cc) in
      let further = λ (j : ℕ) (p : NodeId) (e : climb (above D) j n ≡ Some p). ap (option_and_then (climb (above D) j)) a ∙ e in
      tree_below fuel (m ∷ way) m child (omega (arith, few)) (
        has-all (λ y. y ≢ m) way (λ y h same. (
            let r = (up y h).1 in
            let ends = sound.no_ring m in
            met_again (above D) ends.0 ends.0 r.0 m (omega arith) (further r.0 m (r.1 ∙ ap (λ y. Some y) same)) ends.1)),
        once,
      )
      (λ p h. on m child further p h)))
    where
      on : (m : NodeId) → IsSome (D.nodes m) → ((j : ℕ) (p : NodeId) → climb (above D) j n ≡ Some p → climb (above D) (suc j) m ≡ Some p) → (p : NodeId) → (m ≡ p) ⊎ Has way p
          → IsSome (D.nodes p) × ((j : ℕ) × (climb (above D) j m ≡ Some p))
      on m child further p (inl q) = (subst (λ x. IsSome (D.nodes x)) q child, (0, ap (λ x. Some x) q))
      on m child further p (inr h) = let r = up p h in (r.0, (suc r.1.0, further r.1.0 p r.1.1))

  pub node_shows : (n : NodeId) → IsSome (D.nodes n) → Tree n
  node_shows n there = tree_below (length ns) (n ∷ []) n there (omega arith) (tt, tt) (λ m h. itself m h)
    where
      itself : (m : NodeId) → (n ≡ m) ⊎ ⊥ → IsSome (D.nodes m) × ((j : ℕ) × (climb (above D) j n ≡ Some m))
      itself m (inl q) = (subst (λ x. IsSome (D.nodes x)) q there, (0, ap (λ x. Some x) q))
      itself m (inr b) = absurd b
