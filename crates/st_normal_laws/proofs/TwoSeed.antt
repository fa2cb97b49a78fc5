-- Two that agree can be found together, and the seed is as both find it.
use Rattle.std.proofs.Common.{◌≡◌, ◌≢◌, ◌<◌, ◌^◌, ◌++◌, ℕ, suc, Bool, true, false, not, List, [], ◌∷◌, map, length, Option, Some, None, cond, refl, sym, ap, ◌∙◌, subst, inl, inr, ◌⊎◌, arith}
use Rattle.std.specs.Option.{option_map_or, option_or}
use Rattle.std.specs.List.{AllZip, filter, flat_map, list_any}
use Rattle.st_ids.specs.Listing.{AreDistinct, Has}
use Rattle.st_ids.specs.Order.{same_field, same_node}
use Rattle.st_ids.proofs.Orders.{same_field-true, same_field-itself, same_node-true, same_node-itself}
use Rattle.st_ids.specs.declared.names.CellId.{CellId}
use Rattle.st_ids.specs.declared.names.NodeId.{NodeId}
use Rattle.st_marks.specs.declared.places.Slot.{Slot}
use Rattle.st_marks.specs.declared.places.Spot.{Spot}
use Rattle.st_marks.specs.Agree.{IsSameView, LeadsUp, row_field}
use Rattle.st_marks.specs.Agree.LeadsUp.{one_up, further_up}
use Rattle.st_marks.specs.Document.{content, node_of}
use Rattle.st_ids.specs.Root.{root}
use Rattle.st_marks.specs.Listings.{CellView, one_or_none, nodes_standing}
use Rattle.st_marks.proofs.Members.{all-has, has-all, append_left, append_right, has-append, map-has, has-map, flat_map-has, has-flat_map, any-has, has-any, distinct-append, distinct-left, distinct-right, distinct-between, one_list}
use Rattle.st_puts.specs.Seen.{AreAsSeen, IfTold}
use Rattle.st_normal_laws.specs.Laid.{laid_document}
use Rattle.st_normal_laws.specs.Seed.{CanBeFound, Finds, FoundHeld, FoundRow, IsBelow, IsFoundAt, cells_named, nodes_found, seed}
use Rattle.st_normal_laws.specs.Two.{AgreeBeside, IsNamedAt, IsUnder, joined_finds, cell_key, cells_of_row, cells_of_both, joined_row, lists_row, node_key}
use Rattle.st_normal_laws.specs.inside.Two.{keys}
use Rattle.st_normal_laws.proofs.SeedSound.{seed_row, seed_held}
use Rattle.st_normal_laws.proofs.TwoFound.{Either, both-named, cells_joined, keys_once_together, nodes_joined, no_ring_together, rows_once_together}
use Rattle.st_puts.proofs.Basics.{is-one, not-true, one-is}
use Rattle.st_ids.proofs.Shared.{filtered, filter-has}
use Rattle.st_lemmas.proofs.Lists.{flat_map-same}

nodes-keys : (xs : List CellView) → nodes_standing xs ≡ keys node_key xs
nodes-keys [] = refl
nodes-keys (x ∷ xs) = elim x.full as (λ b. cond b (one_or_none x.node) [] ++ nodes_standing xs ≡ one_or_none (cond b x.node None) ++ keys node_key xs) [
  | true ↦ ap (λ l. one_or_none x.node ++ l) (nodes-keys xs)
  | false ↦ nodes-keys xs
]

rows-nodes : (rs : List FoundRow) → flat_map (λ (r : FoundRow). nodes_standing r.cells) rs ≡ flat_map (λ (r : FoundRow). keys node_key r.cells) rs
rows-nodes rs = flat_map-same (λ (r : FoundRow). nodes_standing r.cells) (λ (r : FoundRow). keys node_key r.cells) (λ r. nodes-keys r.cells) rs

-- ## What is true of the joined row is true of both

joined-length : (xs ys : List CellView) → length (cells_of_both xs ys) ≡ length xs
joined-length [] ys = refl
joined-length (x ∷ xs) [] = refl
joined-length (x ∷ xs) (y ∷ ys) = ap suc (joined-length xs ys)

first-told : {A : Type 0} (o p : Option A) (a : A) → IfTold (option_or o p) a → IfTold o a
first-told None p a h = tt
first-told (Some b) p a h = h

second-told : {A : Type 0} (o p : Option A) (a : A) → Rattle.st_marks.specs.Agree.SameIfBoth o p → IfTold (option_or o p) a → IfTold p a
second-told None p a s h = h
second-told (Some b) None a s h = tt
second-told (Some b) (Some c) a s h = sym s ∙ h

pub first-described : (c : List Slot) (xs ys : List CellView) → AreAsSeen c (cells_of_both xs ys) → AreAsSeen c xs
first-described [] [] ys h = tt
first-described (s ∷ c) [] ys h = h
first-described c (x ∷ xs) [] h = h
first-described [] (x ∷ xs) (y ∷ ys) h = absurd h
first-described (s ∷ c) (x ∷ xs) (y ∷ ys) h = ((h.0.0, first-told x.cell y.cell s.cell h.0.1, first-told x.node y.node s.node h.0.2), first-described c xs ys h.1)

pub second-described : (c : List Slot) (xs ys : List CellView) → AllZip IsSameView xs ys → AreAsSeen c (cells_of_both xs ys) → AreAsSeen c ys
second-described [] [] [] z h = tt
second-described [] [] (y ∷ ys) z h = absurd z
second-described (s ∷ c) [] ys z h = absurd h
second-described c (x ∷ xs) [] z h = absurd z
second-described [] (x ∷ xs) (y ∷ ys) z h = absurd h
second-described (s ∷ c) (x ∷ xs) (y ∷ ys) z h = ((sym z.0.full ∙ h.0.0, second-told x.cell y.cell s.cell z.0.cell h.0.1, second-told x.node y.node s.node z.0.node h.0.2), second-described c xs ys z.1 h.1)

module _ (F : ℕ) (A B : Finds) (a : CanBeFound F A) (b : CanBeFound F B) (g : AgreeBeside A B) where
  abbrev W : Finds
  W = joined_finds A B

  abbrev a_rows : List NodeId
  a_rows = flat_map (λ (r : FoundRow). nodes_standing r.cells) A.rows

  abbrev b_rows : List NodeId
  b_rows = flat_map (λ (r : FoundRow). nodes_standing r.cells) B.rows

  abbrev a_held : List NodeId
  a_held = flat_map (λ (h : FoundHeld). one_or_none h.node) A.held

  abbrev b_held : List NodeId
  b_held = flat_map (λ (h : FoundHeld). one_or_none h.node) B.held

  a-nodes : AreDistinct (λ (n : NodeId). n) (flat_map (λ (r : FoundRow). keys node_key r.cells) A.rows)
  a-nodes = subst (AreDistinct (λ (n : NodeId). n)) (rows-nodes A.rows) (distinct-left (λ n. n) a_rows a_held a.nodes_once)

  b-nodes : AreDistinct (λ (n : NodeId). n) (flat_map (λ (r : FoundRow). keys node_key r.cells) B.rows)
  b-nodes = subst (AreDistinct (λ (n : NodeId). n)) (rows-nodes B.rows) (distinct-left (λ n. n) b_rows b_held b.nodes_once)

  -- who is found in a row of both is found in it by one of them
  pub row-shown : (r : FoundRow) (n : NodeId) → Has W.rows r → Has (nodes_standing r.cells) n
      → ((p : FoundRow) × Has A.rows p × (p.node ≡ r.node) × Has (nodes_standing p.cells) n) ⊎ ((q : FoundRow) × Has B.rows q × (q.node ≡ r.node) × Has (nodes_standing q.cells) n)
  row-shown r n h i = elim (both-named node_key nodes_joined A.rows B.rows a.rows_once b.rows_once g.rows a-nodes b-nodes g.nodes r h n (subst (λ l. Has l n) (nodes-keys r.cells) i)) [
    | inl p ↦ inl (p.0, p.1, p.2, subst (λ l. Has l n) (sym (nodes-keys p.0.cells)) p.3)
    | inr q ↦ inr (q.0, q.1, q.2, subst (λ l. Has l n) (sym (nodes-keys q.0.cells)) q.3)
  ]

  pub row-cell : (r : FoundRow) (c : CellId) → Has W.rows r → Has (cells_named r.cells) c
      → ((p : FoundRow) × Has A.rows p × (p.node ≡ r.node) × Has (cells_named p.cells) c) ⊎ ((q : FoundRow) × Has B.rows q × (q.node ≡ r.node) × Has (cells_named q.cells) c)
  row-cell r c h i = both-named cell_key cells_joined A.rows B.rows a.rows_once b.rows_once g.rows a.cells_once b.cells_once g.cells r h c i

  row-of : (r : FoundRow) → Has W.rows r → ((p : FoundRow) × Has A.rows p × (p.node ≡ r.node) × (length r.cells ≡ length p.cells)) ⊎ Has B.rows r
  row-of r h = elim (has-append (map (joined_row B.rows) A.rows) (filter (λ (r : FoundRow). not (lists_row A.rows r.node)) B.rows) r h) [
    | inr j ↦ inr (filtered (λ (r : FoundRow). not (lists_row A.rows r.node)) B.rows r j).0
    | inl j ↦ (let p = has-map (joined_row B.rows) A.rows r j in inl (p.0, p.1, ap (λ (r : FoundRow). r.node) p.2, ap (λ (r : FoundRow). length r.cells) (sym p.2) ∙ joined-length p.0.cells (cells_of_row B.rows p.0.node)))
  ]

  held-of : (h : FoundHeld) → Has W.held h → Has A.held h ⊎ (Has B.held h × ((k : FoundHeld) → Has A.held k → k.field ≡ h.field → ⊥))
  held-of h i = elim (has-append A.held (filter (λ (h : FoundHeld). not (list_any (λ (k : FoundHeld). same_field k.field h.field) A.held)) B.held) h i) [
    | inl j ↦ inl j
    | inr j ↦ (let f = filtered (λ (h : FoundHeld). not (list_any (λ (k : FoundHeld). same_field k.field h.field) A.held)) B.held h j in
        inr (f.0, λ k l e. not-true (list_any (λ (k : FoundHeld). same_field k.field h.field) A.held) f.1 (has-any (λ (k : FoundHeld). same_field k.field h.field) A.held k l (ap (λ f. same_field f h.field) e ∙ same_field-itself h.field))))
  ]

  -- who is found by both is found by one of them
  pub found-of : (n : NodeId) → Has (nodes_found W) n → Has (nodes_found A) n ⊎ Has (nodes_found B) n
  found-of n h = elim (has-append (flat_map (λ (r : FoundRow). nodes_standing r.cells) W.rows) (flat_map (λ (h : FoundHeld). one_or_none h.node) W.held) n h) [
    | inl i ↦ (let r = has-flat_map (λ (r : FoundRow). nodes_standing r.cells) W.rows n i in elim (row-shown r.0 n r.1 r.2) [
      | inl p ↦ inl (append_left a_rows a_held n (flat_map-has (λ (r : FoundRow). nodes_standing r.cells) A.rows p.0 n p.1 p.3))
      | inr q ↦ inr (append_left b_rows b_held n (flat_map-has (λ (r : FoundRow). nodes_standing r.cells) B.rows q.0 n q.1 q.3))
    ])
    | inr i ↦ (let k = has-flat_map (λ (h : FoundHeld). one_or_none h.node) W.held n i in elim (held-of k.0 k.1) [
      | inl j ↦ inl (append_right a_rows a_held n (flat_map-has (λ (h : FoundHeld). one_or_none h.node) A.held k.0 n j k.2))
      | inr j ↦ inr (append_right b_rows b_held n (flat_map-has (λ (h : FoundHeld). one_or_none h.node) B.held k.0 n j.0 k.2))
    ])
  ]

  -- ## No ring

  some-node : {x y : NodeId} → ◌≡◌ {A = Option NodeId} (Some x) (Some y) → x ≡ y
  some-node q = cc

  places-agree : (n : NodeId) (s t : Spot) → IsUnder A n s → IsUnder B n t → s ≡ t
  places-agree n s t (inl p) (inl q) =
      let u = at p.0.cells p.2 in let v = at q.0.cells q.2 in
      p.3 ∙ ap (λ k. Spot.Register (row_field k)) (g.nodes p.0 q.0 u.0 v.0 n p.1 q.1 u.1 v.1).0 ∙ sym q.3
    where
      at : (xs : List CellView) → Has (nodes_standing xs) n → (k : ℕ) × IsNamedAt node_key xs k n
      at xs h = Rattle.st_normal_laws.proofs.TwoFound.has-named node_key xs n (subst (λ l. Has l n) (nodes-keys xs) h)
  places-agree n s t (inl p) (inr k) = absurd (g.row_held p.0 k.0 n p.1 k.1 p.2 k.2)
  places-agree n s t (inr h) (inl q) = absurd (g.held_row h.0 q.0 n h.1 q.1 h.2 q.2)
  places-agree n s t (inr h) (inr k) = h.3 ∙ ap (λ f. Spot.Register f) (g.held_once h.0 k.0 n h.1 k.1 h.2 k.2) ∙ sym k.3

  under-leads : (V : Finds) (c : CellId) (n m : NodeId) → LeadsUp (IsUnder V) n m → LeadsUp (IsFoundAt V) n m
  under-leads V c n m (one_up s u e) = let r = place V c n s u in one_up r.0 r.1 (r.2 ∙ e)
    where
      place : (V : Finds) (c : CellId) (n : NodeId) (s : Spot) → IsUnder V n s → (t : Spot) × IsFoundAt V n t × (node_of t ≡ node_of s)
      place V c n s (inl r) = (Spot.Row r.0.node c, inl (r.0, c, r.1, r.2, refl), sym (ap node_of r.3))
      place V c n s (inr h) = (s, inr h, refl)
  under-leads V c n m (further_up {p = p} s u e l) = let r = place V c n s u in further_up r.0 r.1 (r.2 ∙ e) (under-leads V c p m l)
    where
      place : (V : Finds) (c : CellId) (n : NodeId) (s : Spot) → IsUnder V n s → (t : Spot) × IsFoundAt V n t × (node_of t ≡ node_of s)
      place V c n s (inl r) = (Spot.Row r.0.node c, inl (r.0, c, r.1, r.2, refl), sym (ap node_of r.3))
      place V c n s (inr h) = (s, inr h, refl)

  under-of : (n : NodeId) (s : Spot) → IsFoundAt W n s → (t : Spot) × Either (IsUnder A) (IsUnder B) n t × (node_of t ≡ node_of s)
  under-of n s (inl (r, c, h, i, e)) = elim (row-shown r n h i) [
    | inl p ↦ (Spot.Register (row_field p.0.node), inl (inl (p.0, p.1, p.3, refl)), ap (λ k. Some k) p.2 ∙ sym (ap node_of e))
    | inr q ↦ (Spot.Register (row_field q.0.node), inr (inl (q.0, q.1, q.3, refl)), ap (λ k. Some k) q.2 ∙ sym (ap node_of e))
  ]
  under-of n s (inr (h, i, e, f)) = elim (held-of h i) [
    | inl j ↦ (Spot.Register h.field, inl (inr (h, j, e, refl)), sym (ap node_of f))
    | inr j ↦ (Spot.Register h.field, inr (inr (h, j.0, e, refl)), sym (ap node_of f))
  ]

  leads-either : (n m : NodeId) → LeadsUp (IsFoundAt W) n m → LeadsUp (Either (IsUnder A) (IsUnder B)) n m
  leads-either n m (one_up s u e) = let r = under-of n s u in one_up r.0 r.1 (r.2 ∙ e)
  leads-either n m (further_up {p = p} s u e l) = let r = under-of n s u in further_up r.0 r.1 (r.2 ∙ e) (leads-either p m l)

  any-cell : CellId
  any-cell = record { 0 = root.0 }

  -- ## Together

  known-a : (n : NodeId) → Has (root ∷ A.known) n → Has (root ∷ W.known) n
  known-a n (inl e) = inl e
  known-a n (inr h) = inr (append_left A.known B.known n h)

  known-b : (n : NodeId) → Has (root ∷ B.known) n → Has (root ∷ W.known) n
  known-b n (inl e) = inl e
  known-b n (inr h) = inr (append_right A.known B.known n h)

  some-cell : (xs : List CellView) (ys : List CellView) (y : CellView) → length ys ≡ length xs → Has ys y → (x : CellView) × Has xs x
  some-cell [] [] y e h = absurd h
  some-cell [] (z ∷ ys) y e h = absurd (omega (arith, e))
  some-cell (x ∷ xs) ys y e h = (x, inl refl)

  filter-once : (p : FoundHeld → Bool) (xs : List FoundHeld) → AreDistinct (λ (h : FoundHeld). h.field) xs → AreDistinct (λ (h : FoundHeld). h.field) (filter p xs)
  filter-once p [] d = tt
  filter-once p (x ∷ xs) d = elim (p x) as (λ b. AreDistinct (λ (h : FoundHeld). h.field) (cond b (x ∷ filter p xs) (filter p xs))) [
    | true ↦ (has-all (λ (h : FoundHeld). h.field ≢ x.field) (filter p xs) (λ h i. all-has (λ (h : FoundHeld). h.field ≢ x.field) xs h d.0 (filtered p xs h i).0), filter-once p xs d.1)
    | false ↦ filter-once p xs d.1
  ]

  abbrev new_held : List FoundHeld
  new_held = filter (λ (h : FoundHeld). not (list_any (λ (k : FoundHeld). same_field k.field h.field) A.held)) B.held

  fields-once : AreDistinct (λ (h : FoundHeld). h.field) W.held
  fields-once = distinct-append (λ (h : FoundHeld). h.field) A.held new_held a.fields_once (filter-once (λ (h : FoundHeld). not (list_any (λ (k : FoundHeld). same_field k.field h.field) A.held)) B.held b.fields_once)
      (λ h k i j e. let f = filtered (λ (h : FoundHeld). not (list_any (λ (k : FoundHeld). same_field k.field h.field) A.held)) B.held k j in
      not-true (list_any (λ (l : FoundHeld). same_field l.field k.field) A.held) f.1 (has-any (λ (l : FoundHeld). same_field l.field k.field) A.held h i (ap (λ f. same_field f k.field) (sym e) ∙ same_field-itself k.field)))

  -- one holder of a node
  one-holder : (h k : FoundHeld) (n : NodeId) → Has W.held h → Has W.held k → h.node ≡ Some n → k.node ≡ Some n → h.field ≡ k.field
  one-holder h k n i j e f = go (held-of h i) (held-of k j)
    where
      alone : (V : Finds) → CanBeFound F V → Has V.held h → Has V.held k → h.field ≡ k.field
      alone V v p q = ap (λ (h : FoundHeld). h.field) (one_list (λ (h : FoundHeld). one_or_none h.node) (λ n. n) V.held h k n n (distinct-right (λ n. n) (flat_map (λ (r : FoundRow). nodes_standing r.cells) V.rows) (flat_map (λ (h : FoundHeld). one_or_none h.node) V.held) v.nodes_once) p q (is-one h.node n e) (is-one k.node n f) refl)

      go : Has A.held h ⊎ (Has B.held h × ((k : FoundHeld) → Has A.held k → k.field ≡ h.field → ⊥)) → Has A.held k ⊎ (Has B.held k × ((l : FoundHeld) → Has A.held l → l.field ≡ k.field → ⊥)) → h.field ≡ k.field
      go (inl p) (inl q) = alone A a p q
      go (inl p) (inr q) = g.held_once h k n p q.0 e f
      go (inr p) (inl q) = sym (g.held_once k h n q p.0 f e)
      go (inr p) (inr q) = alone B b p.0 q.0

  nodes-once : AreDistinct (λ (n : NodeId). n) (nodes_found W)
  nodes-once = distinct-append (λ (n : NodeId). n) (flat_map (λ (r : FoundRow). nodes_standing r.cells) W.rows) (flat_map (λ (h : FoundHeld). one_or_none h.node) W.held)
      (subst (AreDistinct (λ (n : NodeId). n)) (sym (rows-nodes W.rows)) (keys_once_together node_key nodes_joined A.rows B.rows a.rows_once b.rows_once g.rows a-nodes b-nodes g.nodes))
      (Rattle.st_puts.proofs.Groups.distinct-flat (λ (n : NodeId). n) (λ (h : FoundHeld). one_or_none h.node) (λ (h : FoundHeld). h.field) W.held fields-once (λ h i. alone h.node)
      (λ h k m n i j p q e. one-holder k h n j i (one-is k.node n q) (one-is h.node m p ∙ ap (λ n. Some n) (sym e))))
      (λ m n h i e. let r = has-flat_map (λ (r : FoundRow). nodes_standing r.cells) W.rows m h in let k = has-flat_map (λ (h : FoundHeld). one_or_none h.node) W.held n i in
      cross m r.0 (row-shown r.0 m r.1 r.2) k.0 (held-of k.0 k.1) (one-is k.0.node n k.2 ∙ ap (λ n. Some n) e))
    where
      alone : (o : Option NodeId) → AreDistinct (λ (n : NodeId). n) (one_or_none o)
      alone None = tt
      alone (Some n) = (tt, tt)

      within : (V : Finds) → CanBeFound F V → (p : FoundRow) (k : FoundHeld) (n : NodeId) → Has V.rows p → Has (nodes_standing p.cells) n → Has V.held k → k.node ≡ Some n → ⊥
      within V v p k n h i j e = distinct-between (λ n. n) (flat_map (λ (r : FoundRow). nodes_standing r.cells) V.rows) (flat_map (λ (h : FoundHeld). one_or_none h.node) V.held) n n v.nodes_once (flat_map-has (λ (r : FoundRow). nodes_standing r.cells) V.rows p n h i) (flat_map-has (λ (h : FoundHeld). one_or_none h.node) V.held k n j (is-one k.node n e)) refl

      cross : (n : NodeId) (r : FoundRow) → ((p : FoundRow) × Has A.rows p × (p.node ≡ r.node) × Has (nodes_standing p.cells) n) ⊎ ((q : FoundRow) × Has B.rows q × (q.node ≡ r.node) × Has (nodes_standing q.cells) n)
          → (k : FoundHeld) → Has A.held k ⊎ (Has B.held k × ((l : FoundHeld) → Has A.held l → l.field ≡ k.field → ⊥)) → k.node ≡ Some n → ⊥
      cross n r (inl p) k (inl j) e = within A a p.0 k n p.1 p.3 j e
      cross n r (inl p) k (inr j) e = g.row_held p.0 k n p.1 j.0 p.3 e
      cross n r (inr q) k (inl j) e = g.held_row k q.0 n j q.1 e q.3
      cross n r (inr q) k (inr j) e = within B b q.0 k n q.1 q.3 j.0 e

  pub both_can_be_found : CanBeFound F W
  both_can_be_found = record {
    rows_once = rows_once_together cell_key cells_joined A.rows B.rows a.rows_once b.rows_once g.rows a.cells_once b.cells_once g.cells;
    cells_once = keys_once_together cell_key cells_joined A.rows B.rows a.rows_once b.rows_once g.rows a.cells_once b.cells_once g.cells;
    fields_once = fields-once;
    nodes_once = nodes-once;
    root_stays = λ h. elim (found-of root h) [ inl i ↦ a.root_stays i | inr i ↦ b.root_stays i ];
    row_known = λ r y h i. elim (row-of r h) [
      | inl p ↦ (let z = some-cell p.0.cells r.cells y p.3 i in subst (Has (root ∷ W.known)) p.2 (known-a p.0.node (a.row_known p.0 z.0 p.1 z.1)))
      | inr j ↦ known-b r.node (b.row_known r y j i)
    ];
    held_known = λ h n i e. elim (held-of h i) [
      | inl j ↦ (let k = a.held_known h n j e in (known-a n k.0, known-a h.field.node k.1))
      | inr j ↦ (let k = b.held_known h n j.0 e in (known-b n k.0, known-b h.field.node k.1))
    ];
    keys = λ h n i e. elim (held-of h i) [ inl j ↦ a.keys h n j e | inr j ↦ b.keys h n j.0 e ];
    short = λ r h. elim (row-of r h) [ inl p ↦ subst (λ k. k < 2 ^ 32) (sym p.3) (a.short p.0 p.1) | inr j ↦ b.short r j ];
    no_ring = λ n l. no_ring_together (IsUnder A) (IsUnder B) places-agree g.first_closed g.second_closed (λ n l. a.no_ring n (under-leads A any-cell n n l)) (λ n l. b.no_ring n (under-leads B any-cell n n l)) n (leads-either n n l);
    in_effect = a.in_effect;
    below_rows = λ r h. elim (row-of r h) [ inl p ↦ subst (λ (n : NodeId). IsBelow F n.0) p.2 (a.below_rows p.0 p.1) | inr j ↦ b.below_rows r j ];
    below_cells = λ r c h i. elim (row-cell r c h i) [ inl p ↦ a.below_cells p.0 c p.1 p.3 | inr q ↦ b.below_cells q.0 c q.1 q.3 ];
    below_nodes = λ n h. elim (found-of n h) [ inl i ↦ a.below_nodes n i | inr i ↦ b.below_nodes n i ];
    below_fields = λ h i. elim (held-of h i) [ inl j ↦ a.below_fields h j | inr j ↦ b.below_fields h j.0 ];
  }

  -- ## The seed is as both find it

  pub first_row : (p : FoundRow) → Has A.rows p → AreAsSeen (content (laid_document (seed F W)) p.node) p.cells
  first_row p h = first-described (content (laid_document (seed F W)) p.node) p.cells (cells_of_row B.rows p.node)
      (seed_row F W both_can_be_found (joined_row B.rows p) (append_left (map (joined_row B.rows) A.rows) (filter (λ (r : FoundRow). not (lists_row A.rows r.node)) B.rows) (joined_row B.rows p) (map-has (joined_row B.rows) A.rows p h)))

  pub second_row : (q : FoundRow) → Has B.rows q → AreAsSeen (content (laid_document (seed F W)) q.node) q.cells
  second_row q h = go (lists_row A.rows q.node) refl
    where
      cells-are : (n : NodeId) → n ≡ q.node → cells_of_row B.rows n ≡ q.cells
      cells-are n e = ap (λ o. option_map_or (λ (r : FoundRow). r.cells) o []) (Rattle.st_marks.proofs.Members.first-distinct (λ (r : FoundRow). r.node) B.rows (λ (r : FoundRow). same_node r.node n) q b.rows_once h (ap (λ k. same_node k n) (sym e) ∙ same_node-itself n) (λ r t. same_node-true r.node n t ∙ e))

      go : (z : Bool) → lists_row A.rows q.node ≡ z → AreAsSeen (content (laid_document (seed F W)) q.node) q.cells
      go false e = seed_row F W both_can_be_found q (append_right (map (joined_row B.rows) A.rows) (filter (λ (r : FoundRow). not (lists_row A.rows r.node)) B.rows) q (filter-has (λ (r : FoundRow). not (lists_row A.rows r.node)) B.rows q h (ap not e)))
      go true e =
          let p = any-has (λ (r : FoundRow). same_node r.node q.node) A.rows e in
          let same = same_node-true p.0.node q.node p.2 in
          let d = seed_row F W both_can_be_found (joined_row B.rows p.0) (append_left (map (joined_row B.rows) A.rows) (filter (λ (r : FoundRow). not (lists_row A.rows r.node)) B.rows) (joined_row B.rows p.0) (map-has (joined_row B.rows) A.rows p.0 p.1)) in
          subst (λ n. AreAsSeen (content (laid_document (seed F W)) n) q.cells) same
          (second-described (content (laid_document (seed F W)) p.0.node) p.0.cells q.cells (g.rows p.0 q p.1 h same) (subst (λ ys. AreAsSeen (content (laid_document (seed F W)) p.0.node) (cells_of_both p.0.cells ys)) (cells-are p.0.node same) d))

  pub first_held : (h : FoundHeld) → Has A.held h → (laid_document (seed F W)).held h.field ≡ h.node
  first_held h i = seed_held F W both_can_be_found h (append_left A.held new_held h i)

  pub second_held : (k : FoundHeld) → Has B.held k → (laid_document (seed F W)).held k.field ≡ k.node
  second_held k i = go (list_any (λ (l : FoundHeld). same_field l.field k.field) A.held) refl
    where
      go : (z : Bool) → list_any (λ (l : FoundHeld). same_field l.field k.field) A.held ≡ z → (laid_document (seed F W)).held k.field ≡ k.node
      go false e = seed_held F W both_can_be_found k (append_right A.held new_held k (filter-has (λ (h : FoundHeld). not (list_any (λ (k : FoundHeld). same_field k.field h.field) A.held)) B.held k i (ap not e)))
      go true e = let h = any-has (λ (l : FoundHeld). same_field l.field k.field) A.held e in let f = same_field-true h.0.field k.field h.2 in
          subst (λ f. (laid_document (seed F W)).held f ≡ k.node) f (first_held h.0 h.1 ∙ g.held h.0 k h.1 i f)
