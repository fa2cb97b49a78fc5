-- The values of nodes, made from the bottom up, are what the nodes show.
use Rattle.std.proofs.Common.{◌≡◌, ◌≢◌, ℕ, zero, suc, ◌+◌, ◌<◌, ◌⊎◌, inl, inr, IsSome, take-append-drop, Bool, true, false, cond, ◌||◌, List, [], ◌∷◌, ◌++◌, length, map, take, drop, get_or, Option, Some, None, refl, sym, ap, ◌∙◌, subst, append_assoc, Result, Ok, Err, OnOk}
use Rattle.std.specs.BTreeMap.{BTreeMap, get}
use Rattle.std.specs.List.{AllByRecursion, cons_option}
use Rattle.std.specs.Map.{lookup}
use Rattle.std.specs.Option.{option_to_list}
use Rattle.std.specs.Ordering.{nat_cmp, is_eq}
use Rattle.std.specs.Cmp.Lexicographic.{slice_cmp}
use Rattle.std.specs.declared.cmp.Ordering.TheVariants.{Less}
use Rattle.std.proofs.lemmas.List.{append-nil, map-append}
use Rattle.serde_json.specs.Data.{Data, array, object, Items, Members, member, put}
use Rattle.serde_json.specs.View.{view, items_of}
use Rattle.serde_json.specs.Written.{has_float, items_have_float, members_have_float}
use Rattle.serde_json.specs.declared.value.Value.{Value}
use Rattle.st_ids.specs.Listing.{AreDistinct, Has, IsListing}
use Rattle.st_ids.specs.Order.{node_cmp, same_node}
use Rattle.st_ids.specs.declared.names.FieldId.{FieldId}
use Rattle.st_ids.specs.declared.names.Leaf.{Leaf}
use Rattle.st_ids.specs.declared.names.NodeId.{NodeId}
use Rattle.st_ids.proofs.Orders.{same_node-true}
use Rattle.st_marks.specs.declared.intents.Owned.{Owned}
use Rattle.st_marks.specs.Document.{Document, content, slot}
use Rattle.st_marks.specs.LiveTree.{owners_shown, register, one_member, Shows, shows_leaf, shows_row, shows_registers, ShowsItems, no_more_items, next_item, ShowsMembers, no_more_members, next_member, key_at}
use Rattle.st_ids.specs.LeafText.{leaf_data}
use Rattle.st_marks.proofs.Members.{all-has, append_left, append_right, distinct-between, distinct-left, has-map, map-has}
use Rattle.st_doc.specs.inside.LiveText.{seat_at, seats_of, KeysRise, AllShown, IsPart, AreMade, AreValues, AreMembers, KeepsOthers}
use Rattle.st_doc.specs.declared.seats.Seat.{Seat}
use Rattle.st_doc.proofs.Look.{drop_one}
use Rattle.st_lemmas.proofs.FirstItems.{take_one}
use Rattle.st_doc.proofs.Ordered.{drop_has}
use Rattle.st_marks.proofs.Shared.{owners_append}
use Rattle.st_ids.proofs.LeafTexts.{leaf_no_float}

-- ## Registers, entry by entry

pub seats_more : (n : NodeId) (before now whole : List Seat) (e : FieldId × NodeId) (s t : List (FieldId × NodeId)) → s ≡ e ∷ t → now ≡ before ++ option_to_list (seat_at n e)
    → before ++ seats_of n s ≡ whole → now ++ seats_of n t ≡ whole
seats_more n before now whole e s t opened pushed so_far =
    ap (λ ss. ss ++ seats_of n t) pushed ∙ append_assoc before (option_to_list (seat_at n e)) (seats_of n t) ∙ ap (λ ss. before ++ ss) (one (seat_at n e)) ∙ ap (λ es. before ++ seats_of n es) (sym opened) ∙ so_far
  where
    one : (o : Option Seat) → option_to_list o ++ seats_of n t ≡ cons_option o (seats_of n t)
    one None = refl
    one (Some s) = refl

pub seats_end : (n : NodeId) (before whole : List Seat) (s : List (FieldId × NodeId)) → s ≡ [] → before ++ seats_of n s ≡ whole → before ≡ whole
seats_end n before whole s none so_far = sym (append-nil before) ∙ ap (λ es. before ++ seats_of n es) (sym none) ∙ so_far

-- ## Parts of a map

pub part_itself : (m : BTreeMap NodeId Value) → IsPart m m
part_itself m n v e = e

pub part_in_turn : (a b c : BTreeMap NodeId Value) → IsPart a b → IsPart b c → IsPart a c
part_in_turn a b c p q n v e = q n v (p n v e)

-- one that is the same is
pub part_same : (new old : BTreeMap NodeId Value) → new ≡ old → IsPart new old
part_same new old e n v h = ap (λ m. get node_cmp m n) (sym e) ∙ h

-- a map without one name is part of it
pub part_without : (node : NodeId) (new old : BTreeMap NodeId Value) → ((q : NodeId) → get node_cmp new q ≡ cond (same_node node q) None (get node_cmp old q)) → IsPart new old
part_without node new old h n v e = go (same_node node n) (sym (h n) ∙ e)
  where
    go : (b : Bool) → cond b None (get node_cmp old n) ≡ Some v → get node_cmp old n ≡ Some v
    go true e = cc
    go false e = e

-- what isn't taken stays
pub others_more : (ns : List NodeId) (node : NodeId) (new old first : BTreeMap NodeId Value) → ((q : NodeId) → get node_cmp new q ≡ cond (same_node node q) None (get node_cmp old q))
    → KeepsOthers ns old first → KeepsOthers (ns ++ node ∷ []) new first
others_more ns node new old first h kept n out = go (same_node node n) refl
  where
    go : (b : Bool) → same_node node n ≡ b → get node_cmp new n ≡ get node_cmp first n
    go true e = absurd (out (append_right ns (node ∷ []) n (inl (same_node-true node n e))))
    go false e = h n ∙ ap (λ b. cond b None (get node_cmp old n)) e ∙ kept n (λ k. out (append_left ns (node ∷ []) n k))

-- a value more, which is what its node shows
pub shown_more : (is_array : List ℕ → Bool) (D : Document) (node : NodeId) (w : Value) (new between old : BTreeMap NodeId Value)
    → ((q : NodeId) → get node_cmp new q ≡ cond (is_eq (node_cmp node q)) (Some w) (get node_cmp between q)) → IsPart between old → AllShown is_array D old → Shows is_array D node (view w) → AllShown is_array D new
unfolding same_node
shown_more is_array D node w new between old h part all here n v e = go (same_node node n) refl (sym (h n) ∙ e)
  where
    go : (b : Bool) → same_node node n ≡ b → cond b (Some w) (get node_cmp between n) ≡ Some v → Shows is_array D n (view v)
    go true s e = let same : w ≡ v = cc in subst (λ m. Shows is_array D m (view v)) (same_node-true node n s) (subst (λ x. Shows is_array D node (view x)) same here)
    go false s e = all n v (part n v e)

-- ## Values of a row

values_push : (done : BTreeMap NodeId Value) (ns : List NodeId) (vs : List Value) (n : NodeId) (v : Value) → AreValues done ns vs → get node_cmp done n ≡ Some v → AreValues done (ns ++ n ∷ []) (vs ++ v ∷ [])
values_push done [] [] n v h e = (e, tt)
values_push done [] (w ∷ vs) n v h e = absurd h
values_push done (m ∷ ns) [] n v h e = absurd h
values_push done (m ∷ ns) (w ∷ vs) n v h e = (h.0, values_push done ns vs n v h.1 e)

module _ (D : Document) (os : List Owned) (i : ℕ) (d o : Owned) (inside : i < length os) (at : get_or os i d ≡ o) where
  first_owners : owners_shown (map (slot D) (take (i + 1) os)) ≡ owners_shown (map (slot D) (take i os)) ++ cond (slot D o).full (o.node ∷ []) []
  first_owners =
      ap (λ l. owners_shown (map (slot D) l)) (take_one os i d o inside at) ∙ ap owners_shown (map-append (slot D) (take i os) (o ∷ []))
      ∙ owners_append (map (slot D) (take i os)) (slot D o ∷ []) ∙ ap (λ l. owners_shown (map (slot D) (take i os)) ++ l) (append-nil (cond (slot D o).full (o.node ∷ []) []))

  -- a full cell gives the value of its owner
  pub values_more : (done : BTreeMap NodeId Value) (vs now : List Value) (v : Value) → (slot D o).full ≡ true → now ≡ vs ++ v ∷ [] → get node_cmp done o.node ≡ Some v
      → AreValues done (owners_shown (map (slot D) (take i os))) vs → AreValues done (owners_shown (map (slot D) (take (i + 1) os))) now
  values_more done vs now v full pushed e h =
      subst (λ ns. AreValues done ns now) (sym (first_owners ∙ ap (λ b. owners_shown (map (slot D) (take i os)) ++ cond b (o.node ∷ []) []) full))
      (subst (AreValues done (owners_shown (map (slot D) (take i os)) ++ o.node ∷ [])) (sym pushed) (values_push done (owners_shown (map (slot D) (take i os))) vs o.node v h e))

  -- whose value is not taken yet
  pub value_there : (first done : BTreeMap NodeId Value) → AreDistinct (λ (n : NodeId). n) (owners_shown (map (slot D) os)) → (slot D o).full ≡ true → AreMade first (owners_shown (map (slot D) os))
      → KeepsOthers (owners_shown (map (slot D) (take i os))) done first → IsSome (get node_cmp done o.node)
  value_there first done once full made kept = subst (λ v. IsSome v) (sym (kept o.node fresh)) (made o.node (subst (λ ns. Has ns o.node) (sym parts) (append_left (shown_by (i + 1)) behind o.node (subst (λ ns. Has ns o.node) (sym now) (append_right (shown_by i) (o.node ∷ []) o.node (inl refl))))))
    where
      shown_by : ℕ → List NodeId
      shown_by k = owners_shown (map (slot D) (take k os))

      behind : List NodeId
      behind = owners_shown (map (slot D) (drop (i + 1) os))

      now : shown_by (i + 1) ≡ shown_by i ++ o.node ∷ []
      now = first_owners ∙ ap (λ b. shown_by i ++ cond b (o.node ∷ []) []) full

      parts : owners_shown (map (slot D) os) ≡ shown_by (i + 1) ++ behind
      parts =
          ap (λ l. owners_shown (map (slot D) l)) (sym (take-append-drop (i + 1) os)) ∙ ap owners_shown (map-append (slot D) (take (i + 1) os) (drop (i + 1) os))
          ∙ owners_append (map (slot D) (take (i + 1) os)) (map (slot D) (drop (i + 1) os))

      fresh : Has (shown_by i) o.node → ⊥
      fresh h =
          distinct-between (λ (n : NodeId). n) (shown_by i) (o.node ∷ []) o.node o.node
          (subst (AreDistinct (λ (n : NodeId). n)) now (distinct-left (λ (n : NodeId). n) (shown_by (i + 1)) behind (subst (AreDistinct (λ (n : NodeId). n)) parts once))) h (inl refl) refl

  pub others_full : (new old first : BTreeMap NodeId Value) → (slot D o).full ≡ true → ((q : NodeId) → get node_cmp new q ≡ cond (same_node o.node q) None (get node_cmp old q))
      → KeepsOthers (owners_shown (map (slot D) (take i os))) old first → KeepsOthers (owners_shown (map (slot D) (take (i + 1) os))) new first
  others_full new old first full h kept =
      subst (λ ns. KeepsOthers ns new first) (sym (first_owners ∙ ap (λ b. owners_shown (map (slot D) (take i os)) ++ cond b (o.node ∷ []) []) full))
      (others_more (owners_shown (map (slot D) (take i os))) o.node new old first h kept)

  pub others_empty : (new old first : BTreeMap NodeId Value) → (slot D o).full ≡ false → new ≡ old → KeepsOthers (owners_shown (map (slot D) (take i os))) old first
      → KeepsOthers (owners_shown (map (slot D) (take (i + 1) os))) new first
  others_empty new old first empty same kept =
      subst (λ ns. KeepsOthers ns new first)
      (sym (first_owners ∙ ap (λ b. owners_shown (map (slot D) (take i os)) ++ cond b (o.node ∷ []) []) empty ∙ append-nil (owners_shown (map (slot D) (take i os)))))
      (subst (λ m. KeepsOthers (owners_shown (map (slot D) (take i os))) m first) (sym same) kept)

  -- nodes are put behind others as the row shows them
  pub pushed_full : (before now whole : List NodeId) → (slot D o).full ≡ true → now ≡ before ++ o.node ∷ [] → before ≡ whole ++ owners_shown (map (slot D) (take i os)) → now ≡ whole ++ owners_shown (map (slot D) (take (i + 1) os))
  pushed_full before now whole full pushed so_far =
      pushed ∙ ap (λ l. l ++ o.node ∷ []) so_far ∙ append_assoc whole (owners_shown (map (slot D) (take i os))) (o.node ∷ [])
      ∙ ap (λ l. whole ++ l) (sym (first_owners ∙ ap (λ b. owners_shown (map (slot D) (take i os)) ++ cond b (o.node ∷ []) []) full))

  pub pushed_empty : (before now whole : List NodeId) → (slot D o).full ≡ false → now ≡ before → before ≡ whole ++ owners_shown (map (slot D) (take i os)) → now ≡ whole ++ owners_shown (map (slot D) (take (i + 1) os))
  pushed_empty before now whole empty same so_far =
      same ∙ so_far ∙ ap (λ l. whole ++ l) (sym (first_owners ∙ ap (λ b. owners_shown (map (slot D) (take i os)) ++ cond b (o.node ∷ []) []) empty ∙ append-nil (owners_shown (map (slot D) (take i os)))))

  -- an empty one gives nothing
  pub values_same : (done : BTreeMap NodeId Value) (vs now : List Value) → (slot D o).full ≡ false → now ≡ vs → AreValues done (owners_shown (map (slot D) (take i os))) vs
      → AreValues done (owners_shown (map (slot D) (take (i + 1) os))) now
  values_same done vs now empty same h =
      subst (λ ns. AreValues done ns now) (sym (first_owners ∙ ap (λ b. owners_shown (map (slot D) (take i os)) ++ cond b (o.node ∷ []) []) empty ∙ append-nil (owners_shown (map (slot D) (take i os)))))
      (subst (AreValues done (owners_shown (map (slot D) (take i os)))) (sym same) h)

-- ## Members of registers

-- a key below the first goes in front
put_front : (done : BTreeMap NodeId Value) (k : List ℕ) (d : Data) (ss : List Seat) (ms : Members) → AllByRecursion (λ (t : Seat). slice_cmp nat_cmp k t.key ≡ Less) ss → AreMembers done ss ms → put k d ms ≡ member k d ms
put_front done k d [] ms below h = ap (put k d) h ∙ ap (member k d) (sym h)
put_front done k d (s ∷ ss) ms below h =
    let v = h.0 in
    let rest = h.1 in
    ap (put k d) h.4 ∙ first_case s.key (view v) rest below.0 ∙ ap (member k d) (sym h.4)
  where
    first_case : (l : List ℕ) (e : Data) (ms : Members) → slice_cmp nat_cmp k l ≡ Less → put k d (member l e ms) ≡ member k d (member l e ms)
    first_case l e ms less = rw less refl

-- one register more in front
pub members_more : (done : BTreeMap NodeId Value) (ss : List Seat) (i j : ℕ) (s : Seat) (v : Value) (ms now : Members) → i + 1 ≡ j → i < length ss → get_or ss i s ≡ s → KeysRise (drop i ss)
    → get node_cmp done s.node ≡ Some v → now ≡ put s.key (view v) ms → AreMembers done (drop j ss) ms → AreMembers done (drop i ss) now
members_more done ss i j s v ms now next inside at rise e is h =
    let opened : drop i ss ≡ s ∷ drop j ss = drop_one ss i s s inside at ∙ ap (λ k. s ∷ drop k ss) next in
    let rises = subst KeysRise opened rise in
    subst (λ l. AreMembers done l now) (sym opened) (v, ms, e, h, is ∙ put_front done s.key (view v) (drop j ss) ms rises.0 h)

seats_distinct_drop : (i : ℕ) (ss : List Seat) → AreDistinct (λ (s : Seat). s.node) ss → AreDistinct (λ (s : Seat). s.node) (drop i ss)
seats_distinct_drop zero ss a = a
seats_distinct_drop (suc i) [] a = a
seats_distinct_drop (suc i) (s ∷ ss) a = seats_distinct_drop i ss a.1

module _ (ss : List Seat) (i j : ℕ) (s : Seat) (next : i + 1 ≡ j) (inside : i < length ss) (at : get_or ss i s ≡ s) where
  seat_first : drop i ss ≡ s ∷ drop j ss
  seat_first = drop_one ss i s s inside at ∙ ap (λ k. s ∷ drop k ss) next

  -- the value of a register's occupant is not taken yet
  pub occupant_there : (first done : BTreeMap NodeId Value) → AreDistinct (λ (s : Seat). s.node) ss → AreMade first (map (λ (s : Seat). s.node) ss) → KeepsOthers (map (λ (s : Seat). s.node) (drop j ss)) done first
      → IsSome (get node_cmp done s.node)
  occupant_there first done once made kept = subst (λ v. IsSome v) (sym (kept s.node fresh)) (made s.node (map-has (λ (s : Seat). s.node) ss s (drop_has ss i s (subst (λ l. Has l s) (sym seat_first) (inl refl)))))
    where
      fresh : Has (map (λ (s : Seat). s.node) (drop j ss)) s.node → ⊥
      fresh h =
          let t = has-map (λ (s : Seat). s.node) (drop j ss) s.node h in
          all-has (λ (t : Seat). t.node ≢ s.node) (drop j ss) t.0 (subst (AreDistinct (λ (s : Seat). s.node)) seat_first (seats_distinct_drop i ss once)).0 t.1 t.2

  pub others_seat : (new old first : BTreeMap NodeId Value) → ((q : NodeId) → get node_cmp new q ≡ cond (same_node s.node q) None (get node_cmp old q))
      → KeepsOthers (map (λ (s : Seat). s.node) (drop j ss)) old first → KeepsOthers (map (λ (s : Seat). s.node) (drop i ss)) new first
  others_seat new old first h kept n out = go (same_node s.node n) refl
    where
      still : (n ≡ s.node) ⊎ Has (map (λ (s : Seat). s.node) (drop j ss)) n → Has (map (λ (s : Seat). s.node) (drop i ss)) n
      still (inl q) = subst (λ l. Has (map (λ (s : Seat). s.node) l) n) (sym seat_first) (inl (sym q))
      still (inr k) = subst (λ l. Has (map (λ (s : Seat). s.node) l) n) (sym seat_first) (inr k)

      go : (b : Bool) → same_node s.node n ≡ b → get node_cmp new n ≡ get node_cmp first n
      go true e = absurd (out (still (inl (sym (same_node-true s.node n e)))))
      go false e = h n ∙ ap (λ b. cond b None (get node_cmp old n)) e ∙ kept n (λ k. out (still (inr k)))

-- ## What nodes show

module _ (is_array : List ℕ → Bool) (D : Document) (done : BTreeMap NodeId Value) (all : AllShown is_array D done) where
  pub values_shown : (ns : List NodeId) (vs : List Value) → AreValues done ns vs → ShowsItems is_array D ns (items_of (map view vs))
  values_shown [] [] h = no_more_items
  values_shown [] (v ∷ vs) h = absurd h
  values_shown (n ∷ ns) [] h = absurd h
  values_shown (n ∷ ns) (v ∷ vs) h = next_item n (view v) ns (items_of (map view vs)) (all n v h.0) (values_shown ns vs h.1)

  pub members_shown : (n : NodeId) (ss : List Seat) (ms : Members) → AllByRecursion (λ (s : Seat). D.held (register n s.key) ≡ Some s.node) ss → AreMembers done ss ms
      → ShowsMembers is_array D n (map (λ (s : Seat). s.key) ss) ms
  members_shown n [] ms held h = subst (ShowsMembers is_array D n []) (sym h) (no_more_members n)
  members_shown n (s ∷ ss) ms held h =
      subst (ShowsMembers is_array D n (s.key ∷ map (λ (s : Seat). s.key) ss)) (sym h.4)
      (next_member n s.node s.key (view h.0) (map (λ (s : Seat). s.key) ss) h.1 held.0 (all s.node h.0 h.2) (members_shown n ss h.1 held.1 h.3))

neither : (a b : Bool) → a ≡ false → b ≡ false → (a || b) ≡ false
neither a b p q = ap (λ x. x || b) p ∙ q

module _ (is_array : List ℕ → Bool) (D : Document) where
  mutual
    node_no_float : {n : NodeId} {d : Data} → Shows is_array D n d → has_float d ≡ false
    node_no_float (shows_leaf n ty v e) = leaf_no_float v
    node_no_float (shows_row n ty items e a h) = neither _ _ (items_no_float h) refl
    node_no_float (shows_registers n ty keys ms e a l h) = neither _ _ (members_no_float h) refl

    items_no_float : {ns : List NodeId} {ds : Items} → ShowsItems is_array D ns ds → items_have_float ds ≡ false
    items_no_float no_more_items = refl
    items_no_float (next_item n d ns ds h rest) = neither _ _ (node_no_float h) (items_no_float rest)

    members_no_float : {n : NodeId} {ks : List (List ℕ)} {ms : Members} → ShowsMembers is_array D n ks ms → members_have_float ms ≡ false
    members_no_float (no_more_members n) = refl
    members_no_float (next_member n m k d ks ms e h rest) = neither _ _ (node_no_float h) (members_no_float rest)

  pub shows_no_float : (n : NodeId) (d : Data) → Shows is_array D n d → has_float d ≡ false
  shows_no_float n d h = node_no_float h

-- ## One node, by what is known of it

module _ (is_array : List ℕ → Bool) (D : Document) (n : NodeId) (ty : List ℕ) (l : Option Leaf) (known : D.nodes n ≡ Some (record { ty = ty; leaf = l })) where
  typed : (k : Option Leaf) → l ≡ k → D.nodes n ≡ Some (record { ty = ty; leaf = k })
  typed k is = known ∙ ap (λ (k : Option Leaf). Some (record { ty = ty; leaf = k })) is

  pub leaf_shown : (v : Leaf) (d : Data) → l ≡ Some v → d ≡ leaf_data v → Shows is_array D n d
  leaf_shown v d is same = subst (Shows is_array D n) (sym same) (shows_leaf n ty v (typed (Some v) is))

  pub row_shown : (done : BTreeMap NodeId Value) (vs : List Value) (inner d : Data) → AllShown is_array D done → l ≡ None → is_array ty ≡ true → AreValues done (owners_shown (content D n)) vs
      → inner ≡ array (items_of (map view vs)) → d ≡ one_member ty inner → Shows is_array D n d
  row_shown done vs inner d all is rowed values e same =
      subst (Shows is_array D n) (sym (same ∙ ap (one_member ty) e))
      (shows_row n ty (items_of (map view vs)) (typed None is) rowed (values_shown is_array D done all (owners_shown (content D n)) vs values))

  pub registers_shown : (done : BTreeMap NodeId Value) (ss : List Seat) (ms : Members) (inner d : Data) → AllShown is_array D done → l ≡ None → is_array ty ≡ false
      → IsListing (slice_cmp nat_cmp) (λ (k : List ℕ). k) (map (λ (s : Seat). s.key) ss) (key_at D n) → AllByRecursion (λ (s : Seat). D.held (register n s.key) ≡ Some s.node) ss → AreMembers done ss ms
      → inner ≡ object ms → d ≡ one_member ty inner → Shows is_array D n d
  registers_shown done ss ms inner d all is unrowed listed held members e same =
      subst (Shows is_array D n) (sym (same ∙ ap (one_member ty) e))
      (shows_registers n ty (map (λ (s : Seat). s.key) ss) ms (typed None is) unrowed listed (members_shown is_array D done all n ss ms held members))

pub on_any : {T E : Type 0} (r : Result T E) (P : Type 0) → P → OnOk r P
on_any (Ok x) P p = p
on_any (Err e) P p = tt

-- an empty map has nothing
pub none_made : (done : BTreeMap NodeId Value) → done.entries ≡ [] → (n : NodeId) (v : Value) → get node_cmp done n ≡ Some v → ⊥
none_made done none n v e = let bad : None ≡ Some v = sym (ap (lookup (λ k. is_eq (node_cmp n k))) none) ∙ e in cc
