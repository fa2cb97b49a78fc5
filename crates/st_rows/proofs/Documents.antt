-- A row of a document as a field.
use Rattle.std.proofs.Common.{◌≡◌, ◌≢◌, Bool, true, false, List, [], ◌∷◌, ◌++◌, map, Option, Some, None, cond, refl, sym, ap, ◌∙◌, subst, inl, inr, ◌⊎◌, IsSome, IfSome, is_some, length, arith}
use Rattle.std.specs.List.{AllByRecursion, flat_map}
use Rattle.std.proofs.lemmas.List.{length-map}
use Rattle.st_ids.specs.Listing.{AreDistinct, Has}
use Rattle.st_ids.specs.Order.{same_node}
use Rattle.st_ids.proofs.Orders.{same_node-itself}
use Rattle.st_ids.specs.declared.names.CellId.{CellId}
use Rattle.st_ids.specs.declared.names.NodeId.{NodeId}
use Rattle.st_kind.specs.Named.{Nodes}
use Rattle.st_marks.specs.declared.intents.Group.{Group}
use Rattle.st_marks.specs.declared.intents.Intent.{Intent}
use Rattle.st_marks.specs.declared.intents.Owned.{Owned}
use Rattle.st_marks.specs.declared.intents.Put.{Put}
use Rattle.st_marks.specs.declared.intents.To.{To}
use Rattle.st_marks.specs.declared.places.Slot.{Slot}
use Rattle.st_marks.specs.declared.places.Spot.{Spot}
use Rattle.st_marks.specs.Document.{Document, IsSoundInForm, content, is_cell, owned_cell, slot}
use Rattle.st_ids.specs.Root.{root}
use Rattle.st_marks.specs.Embedding.{IsMentionedByIntent, is_among}
use Rattle.st_marks.specs.Intent.{Fits, Owns, group_at, group_cells, is_new, put_of}
use Rattle.st_marks.proofs.Full.{known_put}
use Rattle.st_marks.proofs.Lookups.{group_at-group, group_found, made_there, put-has}
use Rattle.st_marks.proofs.Members.{all-has, append_left, distinct-append, distinct-has, flat_map-has, has-all, has-flat_map, has-map, list_distinct, map-has, one_list}
use Rattle.st_rows.specs.Changes.{StandsIn}
use Rattle.st_rows.specs.Sequence.{RowCanHold, RowFits, ListsNew, SeqPart, cells_of, made_in, row_part_of, standing_nodes}
use Rattle.st_rows.proofs.ListTests.{any_has}
use Rattle.st_lemmas.proofs.Lists.{flat_map-map}
use Rattle.st_marks.proofs.Shared.{one_cell, new_node-rev, not_made}
use Rattle.st_marks.proofs.Unique.{distinct_content}
use Rattle.st_lemmas.proofs.Bools.{true-false}

-- ## What the row holds

pub is_slot : (D : Document) (n : NodeId) (s : Slot) → Has (content D n) s → (o : Owned) × Has (D.rows n) o × (slot D o ≡ s)
is_slot D n s w = has-map (slot D) (D.rows n) s w

has_standing : (D : Document) (os : List Owned) (n : NodeId) → Has (standing_nodes (map (slot D) os)) n → (o : Owned) × Has os o × (o.node ≡ n) × (is_cell o.cell (D.place o.node) ≡ true)
has_standing D [] n w = absurd w
has_standing D (o ∷ os) n w = elim (is_cell o.cell (D.place o.node)) as (λ b. is_cell o.cell (D.place o.node) ≡ b → Has (cond b (o.node ∷ standing_nodes (map (slot D) os)) (standing_nodes (map (slot D) os))) n → (p : Owned) × Has (o ∷ os) p × (p.node ≡ n) × (is_cell p.cell (D.place p.node) ≡ true)) [
  | true ↦ (λ e v. elim v [ inl q ↦ (o, inl refl, q, e) | inr u ↦ (let r = has_standing D os n u in (r.0, inr r.1, r.2, r.3)) ])
  | false ↦ (λ e v. let r = has_standing D os n v in (r.0, inr r.1, r.2, r.3))
] refl w

stands_once : (D : Document) (os : List Owned) → AreDistinct (λ (o : Owned). o.cell) os → AreDistinct (λ (n : NodeId). n) (standing_nodes (map (slot D) os))
stands_once D [] h = tt
stands_once D (o ∷ os) h = elim (is_cell o.cell (D.place o.node)) as (λ b. is_cell o.cell (D.place o.node) ≡ b → AreDistinct (λ (n : NodeId). n) (cond b (o.node ∷ standing_nodes (map (slot D) os)) (standing_nodes (map (slot D) os)))) [
  | true ↦ (λ e. (
    has-all (λ (k : NodeId). k ≢ o.node) (standing_nodes (map (slot D) os)) (λ k w q.
        let r = has_standing D os k w in
        all-has (λ (p : Owned). p.cell ≢ o.cell) os r.0 h.0 r.1 (one_cell r.0.cell o.cell (D.place o.node) (subst (λ x. is_cell r.0.cell (D.place x) ≡ true) (r.2 ∙ q) r.3) e)),
    stands_once D os h.1,
  ))
  | false ↦ (λ e. stands_once D os h.1)
] refl

root_nowhere : (D : Document) → D.place root ≡ Spot.Nowhere → (os : List Owned) → StandsIn root (map (slot D) os) → ⊥
root_nowhere D h [] w = w
root_nowhere D h (o ∷ os) (inl w) = let q : ◌≡◌ {A = Bool} false true = sym (ap (is_cell o.cell) (ap D.place w.0 ∙ h)) ∙ w.1 in cc
root_nowhere D h (o ∷ os) (inr w) = root_nowhere D h os w

pub can_hold : (D : Document) → IsSoundInForm D → (n : NodeId) → RowCanHold (content D n)
can_hold D x n = record {
  once = distinct_content D (D.rows n) (x.once n);
  stand_once = stands_once D (D.rows n) (x.once n);
  no_root = root_nowhere D x.root_nowhere (D.rows n);
  short = let e : length (content D n) ≡ length (D.rows n) = length-map (D.rows n) (slot D) in let s = x.short n in omega (arith, e, s);
}

pub in_document : (D : Document) → IsSoundInForm D → (n : NodeId) (a : CellId) → Has (cells_of (content D n)) a → D.row_of a ≡ Some n
in_document D x n a w =
    let r = has-map (λ (s : Slot). s.cell) (content D n) a w in
    let q = is_slot D n r.0 r.1 in
    (x.one_row a n).1 (q.0.node, subst (λ b. Has (D.rows n) (owned_cell b q.0.node)) (ap (λ (s : Slot). s.cell) q.2 ∙ r.2) q.1)

cell_there : (D : Document) (n : NodeId) (o : Owned) → Has (D.rows n) o → Has (cells_of (content D n)) o.cell
cell_there D n o w = map-has (λ (s : Slot). s.cell) (content D n) (slot D o) (map-has (slot D) (D.rows n) o w)

-- ## What the intent makes there

distinct-flat_map : {A B K : Type 0} (f : A → List B) (key : B → K) (xs : List A) → AreDistinct (λ x. x) xs → ((x : A) → AreDistinct key (f x)) → ((x y : A) (a b : B) → Has (f x) a → Has (f y) b → key a ≡ key b → x ≡ y) → AreDistinct key (flat_map f xs)
distinct-flat_map f key [] o h k = tt
distinct-flat_map f key (x ∷ xs) o h k = distinct-append key (f x) (flat_map f xs) (h x) (distinct-flat_map f key xs o.1 h k) (λ a b v w e. let r = has-flat_map f xs b w in all-has (λ y. y ≢ x) xs r.0 o.0 r.1 (sym (k x r.0 a b v r.2 (sym e))))

module _ (D : Document) (N : Intent) (m : Nodes) (new : List NodeId) (n : NodeId) (x : IsSoundInForm D) (w : Fits D N) (listed : ListsNew N new) (mentions : (k : NodeId) → IsMentionedByIntent D N k → m k ≡ true) where
  abbrev p : SeqPart
  p = row_part_of m new N n

  abbrev c : List Slot
  c = content D n

  old_node : (k : NodeId) → IsSome (D.nodes k) → is_among new k ≡ false
  old_node k h = listed.each k ∙ not_made D N w k h

  slot_old : (s : Slot) → Has c s → is_among new s.node ≡ false
  slot_old s v = let r = is_slot D n s v in ap (λ (t : Slot). is_among new t.node) (sym r.2) ∙ old_node r.0.node (x.cells_known n r.0 r.1).1

  abbrev anchors : List (Option CellId)
  anchors = None ∷ map (λ (s : Slot). Some s.cell) c

  made_all : made_in p.part c ≡ flat_map (group_at N n) anchors
  made_all = ap (λ l. group_at N n None ++ l) (sym (flat_map-map (group_at N n) (λ (s : Slot). Some s.cell) c))

  is_made : (o : Owned) → Has (made_in p.part c) o → Has (group_cells N) o
  is_made o v =
      let r = has-flat_map (group_at N n) anchors o (subst (λ l. Has l o) made_all v) in
      let g = group_at-group N n r.0 o r.2 in
      flat_map-has (λ (g : Group). g.cells) N.groups g.group o g.listed g.cell

  over_made : (P : Owned → Type 0) → ((o : Owned) → Has (group_cells N) o → P o) → AllByRecursion P (made_in p.part c)
  over_made P h = has-all P (made_in p.part c) (λ o v. h o (is_made o v))

  new_cell : (o : Owned) → Has (group_cells N) o → D.row_of o.cell ≡ None
  new_cell o v = w.fresh_cells o.cell (made_there N o v)

  not_new : (a : CellId) (k : NodeId) → D.row_of a ≡ Some k → D.row_of a ≡ None → ⊥
  not_new a k e f = let q : ◌≡◌ {A = Option NodeId} None (Some k) = sym f ∙ e in cc

  some_first : (a b : CellId) → ◌≡◌ {A = Option CellId} (Some a) (Some b) → a ≡ b
  some_first a b e = ap at e
    where
      at : Option CellId → CellId
      at None = a
      at (Some d) = d

  anchors_once : AreDistinct (λ (a : Option CellId). a) anchors
  anchors_once = (has-all (λ (a : Option CellId). a ≢ None) (map (λ (s : Slot). Some s.cell) c) (λ a v e. let r = has-map (λ (s : Slot). Some s.cell) c a v in let q : ◌≡◌ {A = Option CellId} (Some r.0.cell) None = r.2 ∙ e in cc), go c (can_hold D x n).once)
    where
      go : (d : List Slot) → AreDistinct (λ (s : Slot). s.cell) d → AreDistinct (λ (a : Option CellId). a) (map (λ (s : Slot). Some s.cell) d)
      go [] h = tt
      go (s ∷ d) h = (has-all (λ (a : Option CellId). a ≢ Some s.cell) (map (λ (s : Slot). Some s.cell) d) (λ a v e. let r = has-map (λ (s : Slot). Some s.cell) d a v in all-has (λ (t : Slot). t.cell ≢ s.cell) d r.0 h.0 r.1 (some_first r.0.cell s.cell (r.2 ∙ e))), go d h.1)

  group_once : (a : Option CellId) → AreDistinct (λ (o : Owned). o.cell) (group_at N n a)
  group_once a = go (group_at N n a) refl
    where
      go : (os : List Owned) → group_at N n a ≡ os → AreDistinct (λ (o : Owned). o.cell) os
      go [] e = tt
      go (o ∷ os) e =
          let g = group_at-group N n a o (subst (λ l. Has l o) (sym e) (inl refl)) in
          let same : group_at N n a ≡ g.group.cells = (λ i. group_at N (sym g.node i) (sym g.after i)) ∙ group_found N w.itself g.group g.listed in
          subst (AreDistinct (λ (o : Owned). o.cell)) (sym same ∙ e) (list_distinct (λ (g : Group). g.cells) (λ (o : Owned). o.cell) N.groups g.group w.itself.cell_once g.listed)

  made_once : AreDistinct (λ (o : Owned). o.cell) (made_in p.part c)
  made_once = subst (AreDistinct (λ (o : Owned). o.cell)) (sym made_all) (distinct-flat_map (group_at N n) (λ (o : Owned). o.cell) anchors anchors_once group_once (λ a b o q v u e.
      let g = group_at-group N n a o v in
      let k = group_at-group N n b q u in
      sym g.after ∙ ap (λ (y : Group). y.after) (one_list (λ (g : Group). g.cells) (λ (o : Owned). o.cell) N.groups g.group k.group o q w.itself.cell_once g.listed k.listed g.cell k.cell e) ∙ k.after))

  behind : (a : CellId) → group_at N n (Some a) ≢ [] → Has (cells_of c) a
  behind a h = go (group_at N n (Some a)) refl h
    where
      known : (g : Group) → Has N.groups g → g.node ≡ n → g.after ≡ Some a → D.row_of a ≡ Some n
      known g v e f = subst (λ (o : Option CellId). IfSome o (λ b. D.row_of b ≡ Some g.node)) f (all-has (λ (g : Group). _) N.groups g w.groups_known v).1 ∙ ap (λ (k : NodeId). Some k) e

      go : (os : List Owned) → group_at N n (Some a) ≡ os → os ≢ [] → Has (cells_of c) a
      go [] e q = absurd (q refl)
      go (o ∷ os) e q =
          let g = group_at-group N n (Some a) o (subst (λ l. Has l o) (sym e) (inl refl)) in
          let r = (x.one_row a n).0 (known g.group g.listed g.node g.after) in
          cell_there D n (owned_cell a r.0) r.1

  owns : (k : NodeId) (a : CellId) → put_of N k ≡ Some (To.Cell a) → Owns D N k a
  owns k a e = (known_put D N w k (To.Cell a) e).1

  own_old : (s : Slot) → Has c s → (k : NodeId) → put_of N k ≡ Some (To.Cell s.cell) → s.node ≡ k
  own_old s v k e = go (owns k s.cell e)
    where
      go : Owns D N k s.cell → s.node ≡ k
      go (inl (r, h)) =
          let q = is_slot D n s v in
          let there : D.row_of s.cell ≡ Some n = in_document D x n s.cell (map-has (λ (t : Slot). t.cell) c s v) in
          let same : D.row_of s.cell ≡ Some r = (x.one_row s.cell r).1 (k, h) in
          let row : r ≡ n = node_in (sym same ∙ there) in
          let cells : q.0 ≡ owned_cell s.cell k = distinct-has (λ (o : Owned). o.cell) (D.rows n) q.0 (owned_cell s.cell k) (x.once n) q.1 (subst (λ y. Has (D.rows y) (owned_cell s.cell k)) row h) (ap (λ (t : Slot). t.cell) q.2) in
          ap (λ (t : Slot). t.node) (sym q.2) ∙ ap (λ (o : Owned). o.node) cells
        where
          node_in : {y z : NodeId} → ◌≡◌ {A = Option NodeId} (Some y) (Some z) → y ≡ z
          node_in {y} e = ap at e
            where
              at : Option NodeId → NodeId
              at None = y
              at (Some d) = d
      go (inr h) = absurd (not_new s.cell n (in_document D x n s.cell (map-has (λ (t : Slot). t.cell) c s v)) (new_cell (owned_cell s.cell k) h))

  own_made : (o : Owned) → Has (group_cells N) o → (k : NodeId) → put_of N k ≡ Some (To.Cell o.cell) → o.node ≡ k
  own_made o v k e = go (owns k o.cell e)
    where
      go : Owns D N k o.cell → o.node ≡ k
      go (inl (r, h)) = absurd (not_new o.cell r ((x.one_row o.cell r).1 (k, h)) (new_cell o v))
      go (inr h) = ap (λ (q : Owned). q.node) (distinct-has (λ (q : Owned). q.cell) (group_cells N) o (owned_cell o.cell k) w.itself.cell_once v h refl)

  put_somewhere : (k : NodeId) → put_of N k ≢ None → (to : To) × (put_of N k ≡ Some to)
  put_somewhere k h = go (put_of N k) refl h
    where
      go : (g : Option To) → put_of N k ≡ g → g ≢ None → (to : To) × (put_of N k ≡ Some to)
      go None e q = absurd (q refl)
      go (Some to) e q = (to, e)

  mentioned : (k : NodeId) → put_of N k ≢ None → is_among new k ≡ false → m k ≡ true
  mentioned k h e =
      let q = put_somewhere k h in
      let there = put-has N k q.0 q.1 in
      mentions k (k, append_left _ _ k (append_left _ _ k (append_left _ _ k (append_left (map (λ (p : Put). p.node) N.put) N.need k (map-has (λ (p : Put). p.node) N.put (record { node = k; to = q.0 }) there)))), known (known_put D N w k q.0 q.1).0, 0, refl)
    where
      known : (is_new N k ≡ true) ⊎ IsSome (D.nodes k) → IsSome (D.nodes k)
      known (inl f) = absurd (true-false (listed.each k ∙ f) e)
      known (inr f) = f

  rows_empty : is_new N n ≡ true → c ≡ []
  rows_empty e = ap (map (slot D)) (go (D.rows n) refl)
    where
      go : (os : List Owned) → D.rows n ≡ os → os ≡ []
      go [] f = refl
      go (o ∷ os) f = absurd (true-false (x.cells_known n o (subst (λ l. Has l o) (sym f) (inl refl))).0 (ap is_some (w.fresh_nodes n e)))

  is_some_put : (g : Option To) → IsSome g → g ≢ None
  is_some_put None h = cc
  is_some_put (Some to) h = λ e. cc

  pub part_fits : RowFits p c
  part_fits = record {
    content = can_hold D x n;
    empty = rows_empty;
    old = has-all (λ (s : Slot). is_among new s.node ≡ false) c slot_old;
    rising = listed.rising;
    new_rev = has-all (λ (k : NodeId). k.0.rev ≡ N.rev) new (λ k v. new_node-rev N w.itself k (sym (listed.each k) ∙ any_has (λ j. same_node j k) new k v (same_node-itself k)));
    root_old = old_node root x.root_known;
    cell_rev = over_made (λ (o : Owned). o.cell.0.rev ≡ N.rev) (λ o v. all-has (λ (q : Owned). q.cell.0.rev ≡ N.rev) (group_cells N) o w.itself.cell_rev v);
    fresh = over_made (λ (o : Owned). Has (cells_of c) o.cell → ⊥) (λ o v h. not_new o.cell n (in_document D x n o.cell h) (new_cell o v));
    made_once = made_once;
    behind = behind;
    owners = over_made (λ (o : Owned). (is_among new o.node ≡ true) ⊎ (put_of N o.node ≢ None)) (λ o v. elim (all-has (λ (q : Owned). (is_new N q.node ≡ true) ⊎ IsSome (put_of N q.node)) (group_cells N) o w.itself.owners v) [ inl e ↦ inl (listed.each o.node ∙ e) | inr e ↦ inr (is_some_put (put_of N o.node) e) ]);
    own_old = has-all (λ (s : Slot). (k : NodeId) → put_of N k ≡ Some (To.Cell s.cell) → s.node ≡ k) c own_old;
    own_made = over_made (λ (o : Owned). (k : NodeId) → put_of N k ≡ Some (To.Cell o.cell) → o.node ≡ k) own_made;
    root_stays = w.itself.root_stays;
    somewhere = λ k e q. all-has (λ (p : Put). is_new N p.node ≡ true → p.to ≢ To.Nowhere) N.put (record { node = k; to = To.Nowhere }) w.itself.new_somewhere (put-has N k To.Nowhere q) (sym (listed.each k) ∙ e) refl;
    mentions = mentioned;
  }
