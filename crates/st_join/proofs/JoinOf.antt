-- The lists of the join of two parts are those of a join.
use Rattle.std.proofs.Common.{◌≡◌, ◌≢◌, ◌⊎◌, ◌↔◌, ◌||◌, ◌&&◌, not, Bool, true, false, List, [], ◌∷◌, ◌++◌, map, Option, Some, None, IsSome, IfSome, is_some, cond, option_map, option_and_then, refl, sym, ap, ◌∙◌, subst, inl, inr}
use Rattle.std.specs.List.{filter, filter_map, find, list_any}
use Rattle.std.specs.Option.{option_or}
use Rattle.std.proofs.lemmas.List.{append-nil}
use Rattle.std.proofs.lemmas.List.Folds.{find-append}
use Rattle.st_ids.specs.Listing.{AreDistinct, Has}
use Rattle.st_ids.specs.Order.{same_field, same_node}
use Rattle.st_ids.specs.declared.names.CellId.{CellId}
use Rattle.st_ids.specs.declared.names.FieldId.{FieldId}
use Rattle.st_ids.specs.declared.names.NodeId.{NodeId}
use Rattle.st_ids.proofs.Orders.{same_field-true, same_node-itself, same_node-true}
use Rattle.st_marks.specs.declared.changes.NewNode.{NewNode}
use Rattle.st_marks.specs.declared.intents.Group.{Group}
use Rattle.st_marks.specs.declared.intents.Intent.{Intent}
use Rattle.st_marks.specs.declared.intents.Owned.{Owned}
use Rattle.st_marks.specs.declared.intents.Put.{Put}
use Rattle.st_marks.specs.declared.intents.To.{To}
use Rattle.st_marks.specs.Document.{Document, IsSoundInForm}
use Rattle.st_marks.specs.Intent.{IsIntent, IsKnown, cells_of, clears, group_at, group_cells, is_new, new_row_of, put_of, same_anchor}
use Rattle.st_marks.specs.CarryOut.{full, with_groups}
use Rattle.st_marks.specs.Join.{AreParts, IsJoin, IsOldAnchor, joined_put, put_unless_new, unless_cleared_by}
use Rattle.st_lemmas.proofs.Bools.{and-both, and-true, not-true, or-cases, or-left, or-right, refuted-false, true-false}
use Rattle.st_lemmas.proofs.Options.{option_map-Some, option_or-None}
use Rattle.st_marks.proofs.Members.{all-has, any-has, append_left, append_right, distinct-append, first-has, flat_map-has, has-all, has-any, has-append, has-flat_map, has-map, list_distinct, map-has, none-has, one_list, distinct-filter}
use Rattle.st_marks.proofs.Lookups.{anchor_is, anchor_itself, group-new_row_of, group_at-group, group_found, has-put}
use Rattle.st_marks.proofs.NewRows.{made_kept, old_kept, with_groups-has}
use Rattle.st_join.specs.Listed.{IsListedJoin, IsMadeIn}
use Rattle.st_join.specs.inside.Lists.{has_place, is_needed, join_of, joined_groups, kept_put, left_put, takes_place, to_if_open, with_cells_after, with_cells_in}
use Rattle.st_join.proofs.JoinIntents.{joined_intent}
use Rattle.st_join.proofs.Picked.{has-picked, picked_distinct}
use Rattle.st_join.proofs.Picks.{any-append, any-filter, find-picked, flat_map-distinct, map-distinct, picked-distinct}
use Rattle.st_ids.proofs.Shared.{filter-has, filtered}
use Rattle.st_join.proofs.Rows.{made_in}

-- ## Places of one intent

-- the cells of a group are found at its place, and no two groups share one
module _ (K : Intent) (w : IsIntent K) where
  made_at : (n : NodeId) (a : Option CellId) (o : Owned) → Has (group_at K n a) o → IsMadeIn K n o
  made_at n a o h = let g = group_at-group K n a o h in (made_in K w n a o h, flat_map-has (λ (g : Group). g.cells) K.groups g.group o g.listed g.cell)

  one_place : (n m : NodeId) (a b : Option CellId) (x y : Owned) → Has (group_at K n a) x → Has (group_at K m b) y → x.cell ≡ y.cell → (n ≡ m) × (a ≡ b)
  one_place n m a b x y h i e =
      let g = group_at-group K n a x h in
      let k = group_at-group K m b y i in
      let same = one_list (λ (g : Group). g.cells) (λ (o : Owned). o.cell) K.groups g.group k.group x y w.cell_once g.listed k.listed g.cell k.cell e in
      (sym g.node ∙ ap (λ (g : Group). g.node) same ∙ k.node, sym g.after ∙ ap (λ (g : Group). g.after) same ∙ k.after)

  once_at : (n : NodeId) (a : Option CellId) → AreDistinct (λ (o : Owned). o.cell) (group_at K n a)
  once_at n a = go (find (λ (g : Group). same_node g.node n && same_anchor g.after a) K.groups) refl
    where
      go : (q : Option Group) → find (λ (g : Group). same_node g.node n && same_anchor g.after a) K.groups ≡ q → AreDistinct (λ (o : Owned). o.cell) (cells_of q)
      go None e = tt
      go (Some g) e = list_distinct (λ (g : Group). g.cells) (λ (o : Owned). o.cell) K.groups g w.cell_once (first-has (λ (g : Group). same_node g.node n && same_anchor g.after a) K.groups g e).0

  -- a place is taken by a group that stands there, or by one with the cell before it
  place_taken : (n : NodeId) (a : Option CellId) → has_place K n a ≡ true
      → ((g : Group) × Has K.groups g × (g.node ≡ n) × (g.after ≡ a)) ⊎ ((o : Owned) × (a ≡ Some o.cell) × ((g : Group) × Has K.groups g × (g.node ≡ n) × Has g.cells o))
  place_taken n a e =
      let g = any-has (takes_place n a) K.groups e in
      let b = and-true (same_node g.0.node n) _ g.2 in
      let node = same_node-true g.0.node n b.0 in
      elim (or-cases (same_anchor g.0.after a) _ b.1) [
        | inl i ↦ inl (g.0, g.1, node, anchor_is g.0.after a i)
        | inr i ↦ (let o = any-has (λ (o : Owned). same_anchor (Some o.cell) a) g.0.cells i in inr (o.0, sym (anchor_is (Some o.0.cell) a o.2), (g.0, g.1, node, o.1)))
      ]

  taken_at : (g : Group) → Has K.groups g → has_place K g.node g.after ≡ true
  taken_at g h = has-any (takes_place g.node g.after) K.groups g h (and-both _ _ (same_node-itself g.node) (or-left _ _ (anchor_itself g.after)))

  taken_after : (g : Group) (o : Owned) → Has K.groups g → Has g.cells o → has_place K g.node (Some o.cell) ≡ true
  taken_after g o h i = has-any (takes_place g.node (Some o.cell)) K.groups g h
      (and-both _ _ (same_node-itself g.node) (or-right (same_anchor g.after (Some o.cell)) _ (has-any (λ (p : Owned). same_anchor (Some p.cell) (Some o.cell)) g.cells o i (anchor_itself (Some o.cell)))))

after_is : (M : Intent) (n : NodeId) (os : List Owned) → with_cells_after (group_at M) n os ≡ with_groups M n os
after_is M n [] = refl
after_is M n (o ∷ os) = ap (λ ps. o ∷ (group_at M n (Some o.cell) ++ ps)) (after_is M n os)

some_has : {A : Type 0} (xs : List A) → xs ≢ [] → (x : A) × Has xs x
some_has [] some = absurd (some refl)
some_has (x ∷ xs) some = (x, inl refl)

has_some : {A : Type 0} (xs : List A) (x : A) → Has xs x → xs ≢ []
has_some xs x h e = subst (λ l. Has l x) e h

-- ## Puts

kept_node : (new : NodeId → Bool) (x y : Put) → kept_put new x ≡ Some y → y.node ≡ x.node
kept_node new x y e = let r = option_map-Some (λ (to : To). record { node = x.node; to = to }) (put_unless_new (new x.node) x.to) y e in ap (λ (q : Put). q.node) (sym r.2)

left_node : (new again : NodeId → Bool) (cleared : FieldId → Bool) (x y : Put) → left_put new again cleared x ≡ Some y → (again x.node ≡ false) × (y.node ≡ x.node)
left_node new again cleared x y e = go (again x.node) refl e
  where
    go : (b : Bool) → again x.node ≡ b → cond b None (kept_put new (record { node = x.node; to = to_if_open cleared x.to })) ≡ Some y → (again x.node ≡ false) × (y.node ≡ x.node)
    go true f e = let bad : None ≡ Some y = e in cc
    go false f e = (f, kept_node new (record { node = x.node; to = to_if_open cleared x.to }) y e)

open_is : (M : Intent) (to : To) → to_if_open (clears M) to ≡ unless_cleared_by M to
open_is M To.Nowhere = refl
open_is M (To.Cell c) = refl
open_is M (To.Register f) = refl

kept_to : (new : NodeId → Bool) (q : Put) → option_map (λ (r : Put). r.to) (kept_put new q) ≡ put_unless_new (new q.node) q.to
kept_to new q = go (put_unless_new (new q.node) q.to)
  where
    go : (o : Option To) → option_map (λ (r : Put). r.to) (option_map (λ (to : To). record { node = q.node; to = to }) o) ≡ o
    go None = refl
    go (Some to) = refl

neither : (a b : Bool) → not (a || b) ≡ true → a ≡ false
neither false b e = refl
neither true b e = let bad : false ≡ true = e in cc

module _ (D : Document) (N M : Intent) (s : IsSoundInForm D) (p : AreParts D N M) where
  w : IsIntent N
  w = p.first_fits.itself

  v : IsIntent M
  v = p.then_fits.itself

  -- what a join makes at a place
  abbrev made : NodeId → Option CellId → List Owned
  made n a = group_at M n a ++ with_groups M n (group_at N n a)

  -- a cell that the second makes is not made by the first
  unmade : (c : CellId) → IsSome (new_row_of M c) → new_row_of N c ≡ None
  unmade c h = go (D.row_of c) (p.then_fits.fresh_cells c h)
    where
      go : (o : Option NodeId) → option_or o (new_row_of N c) ≡ None → new_row_of N c ≡ None
      go None e = e
      go (Some n) e = let bad : Some n ≡ None = e in cc

  apart : (n m : NodeId) (a b : Option CellId) (x y : Owned) → Has (group_at N n a) x → Has (group_at M m b) y → x.cell ≡ y.cell → ⊥
  apart n m a b x y h i e =
      let none : new_row_of N y.cell ≡ None = unmade y.cell (ap is_some (made_in M v m b y i)) in
      let bad : None ≡ Some n = sym none ∙ ap (new_row_of N) (sym e) ∙ made_in N w n a x h in cc

  -- ## Each cell at one place, once

  -- a cell with what the second makes after it
  abbrev with_after : NodeId → Owned → List Owned
  with_after n o = o ∷ group_at M n (Some o.cell)

  once_after : (n : NodeId) (a : Option CellId) → AreDistinct (λ (o : Owned). o.cell) (with_cells_after (group_at M) n (group_at N n a))
  once_after n a = flat_map-distinct (with_after n) (λ (o : Owned). o.cell) (λ (o : Owned). o.cell) (group_at N n a) (once_at N w n a)
      (λ o h. (has-all (λ (y : Owned). y.cell ≢ o.cell) (group_at M n (Some o.cell)) (λ y i e. apart n n a (Some o.cell) o y h i (sym e)), once_at M v n (Some o.cell)))
      between
    where
      between : (o q x y : Owned) → Has (group_at N n a) o → Has (group_at N n a) q → Has (with_after n o) x → Has (with_after n q) y → x.cell ≡ y.cell → o.cell ≡ q.cell
      between o q x y h i (inl j) (inl k) e = ap (λ (o : Owned). o.cell) j ∙ e ∙ sym (ap (λ (o : Owned). o.cell) k)
      between o q x y h i (inl j) (inr k) e = absurd (apart n n a (Some q.cell) o y h k (ap (λ (o : Owned). o.cell) j ∙ e))
      between o q x y h i (inr j) (inl k) e = absurd (apart n n a (Some o.cell) q x i j (ap (λ (o : Owned). o.cell) k ∙ sym e))
      between o q x y h i (inr j) (inr k) e = let r = (one_place M v n n (Some o.cell) (Some q.cell) x y j k e).1 in let same : o.cell ≡ q.cell = cc in same

  -- the place of the first part at which a cell of the join is, or after whose cells
  abbrev IsAt : NodeId → Option CellId → Owned → Type 0
  IsAt n a x = Has (group_at M n a) x ⊎ (Has (group_at N n a) x ⊎ ((q : Owned) × Has (group_at N n a) q × Has (group_at M n (Some q.cell)) x))

  is_at : (n : NodeId) (a : Option CellId) (x : Owned) → Has (made n a) x → IsAt n a x
  is_at n a x h = elim (has-append (group_at M n a) (with_groups M n (group_at N n a)) x h) [ inl i ↦ inl i | inr i ↦ inr (with_groups-has M n (group_at N n a) x i) ]

  -- an old anchor isn't a cell of the first part
  not_after : (n m : NodeId) (a b : Option CellId) (q : Owned) → IsOldAnchor N a → Has (group_at N m b) q → a ≡ Some q.cell → ⊥
  not_after n m a b q old h e =
      let none : new_row_of N q.cell ≡ None = subst (IsOldAnchor N) e old in
      let bad : None ≡ Some m = sym none ∙ made_in N w m b q h in cc

  once_made : (n : NodeId) (a : Option CellId) → IsOldAnchor N a → AreDistinct (λ (o : Owned). o.cell) (made n a)
  once_made n a old = distinct-append (λ (o : Owned). o.cell) (group_at M n a) (with_groups M n (group_at N n a)) (once_at M v n a)
      (subst (AreDistinct (λ (o : Owned). o.cell)) (after_is M n (group_at N n a)) (once_after n a))
      (λ x y h i e. elim (with_groups-has M n (group_at N n a) y i) [
        | inl j ↦ apart n n a a y x j h e
        | inr j ↦ not_after n n a a j.0 old j.1 (sym (one_place M v n n (Some j.0.cell) a y x j.2 h e).1)
      ])

  one_made : (n m : NodeId) (a b : Option CellId) (x y : Owned) → IsOldAnchor N a → IsOldAnchor N b → IsAt n a x → IsAt m b y → x.cell ≡ y.cell → (n ≡ m) × (a ≡ b)
  one_made n m a b x y old new (inl h) (inl i) e = one_place M v n m a b x y h i e
  one_made n m a b x y old new (inl h) (inr (inl i)) e = absurd (apart m n b a y x i h (sym e))
  one_made n m a b x y old new (inl h) (inr (inr i)) e = absurd (not_after n m a b i.0 old i.1 (one_place M v n m a (Some i.0.cell) x y h i.2 e).1)
  one_made n m a b x y old new (inr (inl h)) (inl i) e = absurd (apart n m a b x y h i e)
  one_made n m a b x y old new (inr (inl h)) (inr (inl i)) e = one_place N w n m a b x y h i e
  one_made n m a b x y old new (inr (inl h)) (inr (inr i)) e = absurd (apart n m a (Some i.0.cell) x y h i.2 e)
  one_made n m a b x y old new (inr (inr h)) (inl i) e = absurd (not_after m n b a h.0 new h.1 (sym (one_place M v n m (Some h.0.cell) b x y h.2 i e).1))
  one_made n m a b x y old new (inr (inr h)) (inr (inl i)) e = absurd (apart m n b (Some h.0.cell) y x i h.2 (sym e))
  one_made n m a b x y old new (inr (inr h)) (inr (inr i)) e =
      let r = one_place M v n m (Some h.0.cell) (Some i.0.cell) x y h.2 i.2 e in
      let same : h.0.cell ≡ i.0.cell = let q : Some h.0.cell ≡ Some i.0.cell = r.1 in cc in
      one_place N w n m a b h.0 i.0 h.1 i.1 same

  -- ## Groups

  abbrev groups : List Group
  groups = joined_groups N M

  -- a group of the first part, with what is made in it
  abbrev inside : Group → Group
  inside g = with_cells_in (group_at M) g

  abbrev is_free : Group → Bool
  is_free g = not (has_place N g.node g.after)

  abbrev inner : List Group
  inner = map (with_cells_in (group_at M)) N.groups

  abbrev others : List Group
  others = filter (λ (g : Group). not (has_place N g.node g.after)) M.groups

  -- each group of the join stands where nothing of the first is made, and has what is made there
  record IsGroup (g : Group) : Type 0 where
    cells : g.cells ≡ made g.node g.after
    some : g.cells ≢ []
    old : IsOldAnchor N g.after
    row : IfSome g.after (λ c. (full D N).row_of c ≡ Some g.node)

  old_of_first : (g : Group) → Has N.groups g → IsOldAnchor N g.after
  old_of_first g h = go g.after (all-has (λ (g : Group). IfSome g.after (λ c. new_row_of N c ≡ None)) N.groups g w.anchor_old h)
    where
      go : (a : Option CellId) → IfSome a (λ c. new_row_of N c ≡ None) → IsOldAnchor N a
      go None k = tt
      go (Some c) k = k

  row_of_first : (a : Option CellId) (n : NodeId) → IfSome a (λ c. D.row_of c ≡ Some n) → IfSome a (λ c. (full D N).row_of c ≡ Some n)
  row_of_first None n k = tt
  row_of_first (Some c) n k = rw k refl

  first_is : (g : Group) → Has N.groups g → IsGroup (inside g)
  first_is g h = record {
    cells = ap (λ os. group_at M g.node g.after ++ os) (after_is M g.node g.cells ∙ ap (with_groups M g.node) (sym (group_found N w g h)));
    some = (
        let o = some_has g.cells (all-has (λ (g : Group). g.cells ≢ []) N.groups g w.group_some h) in
        has_some (inside g).cells o.0 (append_right (group_at M g.node g.after) (with_cells_after (group_at M) g.node g.cells) o.0 (subst (λ l. Has l o.0) (sym (after_is M g.node g.cells)) (old_kept M g.node g.cells o.0 o.1))));
    old = old_of_first g h;
    row = row_of_first g.after g.node (all-has (λ (g : Group). IsKnown D N g.node × IfSome g.after (λ c. D.row_of c ≡ Some g.node)) N.groups g p.first_fits.groups_known h).1;
  }

  -- a place that the first hasn't taken has no cells of it
  none_there : (n : NodeId) (a : Option CellId) → has_place N n a ≡ false → group_at N n a ≡ []
  none_there n a free = go (find (λ (g : Group). same_node g.node n && same_anchor g.after a) N.groups) refl
    where
      go : (q : Option Group) → find (λ (g : Group). same_node g.node n && same_anchor g.after a) N.groups ≡ q → cells_of q ≡ []
      go None e = refl
      go (Some g) e =
          let r = first-has (λ (g : Group). same_node g.node n && same_anchor g.after a) N.groups g e in
          let b = and-true (same_node g.node n) (same_anchor g.after a) r.1 in
          absurd (true-false (has-any (takes_place n a) N.groups g r.0 (and-both (same_node g.node n) (same_anchor g.after a || list_any (λ (o : Owned). same_anchor (Some o.cell) a) g.cells) b.0 (or-left (same_anchor g.after a) (list_any (λ (o : Owned). same_anchor (Some o.cell) a) g.cells) b.1))) free)

  -- nor is its anchor made by it, where that is in the row
  old_where_free : (n : NodeId) (a : Option CellId) → has_place N n a ≡ false → IfSome a (λ c. (full D N).row_of c ≡ Some n) → IsOldAnchor N a
  old_where_free n None free k = tt
  old_where_free n (Some c) free k = go (new_row_of N c) refl
    where
      go : (o : Option NodeId) → new_row_of N c ≡ o → new_row_of N c ≡ None
      go None e = e
      go (Some r) e =
          let gone : D.row_of c ≡ None = p.first_fits.fresh_cells c (ap is_some e) in
          let row : Some r ≡ Some n = rw (gone, e) at k in
          let same : r ≡ n = cc in
          let g = group-new_row_of N c r e in
          let taken : has_place N n (Some c) ≡ true = subst (λ m. has_place N m (Some c) ≡ true) (g.2 ∙ same) (subst (λ c. has_place N g.0.node (Some c) ≡ true) g.3.2 (taken_after N w g.0 g.3.0 g.1 g.3.1)) in
          absurd (true-false taken free)

  other_is : (g : Group) → Has M.groups g → has_place N g.node g.after ≡ false → IsGroup g
  other_is g h free =
      let row = (all-has (λ (g : Group). IsKnown (full D N) M g.node × IfSome g.after (λ c. (full D N).row_of c ≡ Some g.node)) M.groups g p.then_fits.groups_known h).1 in
      record {
        cells = sym (group_found M v g h) ∙ sym (append-nil (group_at M g.node g.after)) ∙ ap (λ os. group_at M g.node g.after ++ with_groups M g.node os) (sym (none_there g.node g.after free));
        some = all-has (λ (g : Group). g.cells ≢ []) M.groups g v.group_some h;
        old = old_where_free g.node g.after free row;
        row = row;
      }

  group_is : (g : Group) → Has groups g → IsGroup g
  group_is g h = elim (has-append inner others g h) [
    | inl i ↦ (let r = has-map (with_cells_in (group_at M)) N.groups g i in subst IsGroup r.2 (first_is r.0 r.1))
    | inr i ↦ (let r = filtered is_free M.groups g i in other_is g r.0 (not-true _ r.1))
  ]

  first_listed : (g : Group) → Has N.groups g → Has groups (inside g)
  first_listed g h = append_left inner others (inside g) (map-has (with_cells_in (group_at M)) N.groups g h)

  other_listed : (g : Group) → Has M.groups g → has_place N g.node g.after ≡ false → Has groups g
  other_listed g h free = append_right inner others g (filter-has is_free M.groups g h (rw free refl))

  starts_once : AreDistinct {K = NodeId × Option CellId} (λ (g : Group). (g.node, g.after)) groups
  starts_once = distinct-append {K = NodeId × Option CellId} (λ (g : Group). (g.node, g.after)) inner others
      (map-distinct {K = NodeId × Option CellId} (with_cells_in (group_at M)) (λ (g : Group). (g.node, g.after)) N.groups w.start_once)
      (distinct-filter {K = NodeId × Option CellId} (λ (g : Group). (g.node, g.after)) is_free M.groups v.start_once)
      (λ x y h i e.
      let r = has-map (with_cells_in (group_at M)) N.groups x h in
      let free = not-true _ (filtered is_free M.groups y i).1 in
      let place : ◌≡◌ {A = NodeId × Option CellId} (r.0.node, r.0.after) (y.node, y.after) = ap (λ (g : Group). (g.node, g.after)) r.2 ∙ sym e in
      true-false (subst {A = NodeId × Option CellId} (λ q. has_place N q.0 q.1 ≡ true) place (taken_at N w r.0 r.1)) free)

  -- ## Look-ups of groups

  place_free : (n : NodeId) (a : Option CellId) → IsOldAnchor N a → ((g : Group) → Has N.groups g → g.node ≡ n → g.after ≡ a → ⊥) → has_place N n a ≡ false
  place_free n a old none = refuted-false (has_place N n a) (λ e. elim (place_taken N w n a e) [
    | inl g ↦ none g.0 g.1 g.2 g.3
    | inr o ↦ after o.0 o.1 o.2
  ])
    where
      after : (o : Owned) → a ≡ Some o.cell → ((g : Group) × Has N.groups g × (g.node ≡ n) × Has g.cells o) → ⊥
      after o e g = not_after n g.0.node a g.0.after o old (subst (λ l. Has l o) (sym (group_found N w g.0 g.1)) g.3) e

  -- where no group of the join stands, neither part makes a cell
  nothing_made : (n : NodeId) (a : Option CellId) → IsOldAnchor N a → ((g : Group) → Has groups g → g.node ≡ n → g.after ≡ a → ⊥) → made n a ≡ []
  nothing_made n a old none = rw (second, first) refl
    where
      free : has_place N n a ≡ false
      free = place_free n a old (λ g h. none (inside g) (first_listed g h))

      first : group_at N n a ≡ []
      first = none_there n a free

      second : group_at M n a ≡ []
      second = go (group_at M n a) refl
        where
          go : (os : List Owned) → group_at M n a ≡ os → os ≡ []
          go [] e = refl
          go (o ∷ os) e =
              let g = group_at-group M n a o (subst (λ l. Has l o) (sym e) (inl refl)) in
              let here : has_place N g.group.node g.group.after ≡ false = (λ i. has_place N (g.node i) (g.after i)) ∙ free in
              absurd (none g.group (other_listed g.group g.listed here) g.node g.after)

  group_joined : (n : NodeId) (a : Option CellId) → IsOldAnchor N a → group_at (join_of N M) n a ≡ made n a
  group_joined n a old = go (find (λ (g : Group). same_node g.node n && same_anchor g.after a) groups) refl
    where
      passes : (g : Group) → g.node ≡ n → g.after ≡ a → (same_node g.node n && same_anchor g.after a) ≡ true
      passes g e f = and-both (same_node g.node n) (same_anchor g.after a) (ap (λ m. same_node m n) e ∙ same_node-itself n) (ap (λ b. same_anchor b a) f ∙ anchor_itself a)

      go : (q : Option Group) → find (λ (g : Group). same_node g.node n && same_anchor g.after a) groups ≡ q → cells_of q ≡ made n a
      go None e = sym (nothing_made n a old (λ g h x y. true-false (passes g x y) (none-has (λ (g : Group). same_node g.node n && same_anchor g.after a) groups g e h)))
      go (Some g) e =
          let r = first-has (λ (g : Group). same_node g.node n && same_anchor g.after a) groups g e in
          let b = and-true (same_node g.node n) (same_anchor g.after a) r.1 in
          let node = same_node-true g.node n b.0 in
          let after = anchor_is g.after a b.1 in
          (group_is g r.0).cells ∙ (λ i. made (node i) (after i))

  -- ## Cells

  cells_from : (g : Group) (o : Owned) → Has groups g → Has g.cells o → IsMadeIn N g.node o ⊎ IsMadeIn M g.node o
  cells_from g o h i = elim (is_at g.node g.after o (subst (λ l. Has l o) (group_is g h).cells i)) [
    | inl j ↦ inr (made_at M v g.node g.after o j)
    | inr j ↦ elim j [ inl k ↦ inl (made_at N w g.node g.after o k) | inr k ↦ inr (made_at M v g.node (Some k.0.cell) o k.2) ]
  ]

  cell_first : (o : Owned) → Has (group_cells N) o → Has (group_cells (join_of N M)) o
  cell_first o h =
      let g = has-flat_map (λ (g : Group). g.cells) N.groups o h in
      flat_map-has (λ (g : Group). g.cells) groups (inside g.0) o (first_listed g.0 g.1)
      (append_right (group_at M g.0.node g.0.after) (with_cells_after (group_at M) g.0.node g.0.cells) o (subst (λ l. Has l o) (sym (after_is M g.0.node g.0.cells)) (old_kept M g.0.node g.0.cells o g.2)))

  cell_second : (o : Owned) → Has (group_cells M) o → Has (group_cells (join_of N M)) o
  cell_second o h =
      let g = has-flat_map (λ (g : Group). g.cells) M.groups o h in
      look g.0 g.1 g.2 (has_place N g.0.node g.0.after) refl
    where
      look : (g : Group) → Has M.groups g → Has g.cells o → (b : Bool) → has_place N g.node g.after ≡ b → Has (group_cells (join_of N M)) o
      look g h i false e = flat_map-has (λ (g : Group). g.cells) groups g o (other_listed g h e) i
      look g h i true e = elim (place_taken N w g.node g.after e) [ inl k ↦ at_group k.0 k.1 k.2 k.3 | inr k ↦ at_cell k.0 k.1 k.2 ]
        where
          here : Has (group_at M g.node g.after) o
          here = subst (λ l. Has l o) (sym (group_found M v g h)) i

          at_group : (k : Group) → Has N.groups k → k.node ≡ g.node → k.after ≡ g.after → Has (group_cells (join_of N M)) o
          at_group k j x y = flat_map-has (λ (g : Group). g.cells) groups (inside k) o (first_listed k j)
              (append_left (group_at M k.node k.after) (with_cells_after (group_at M) k.node k.cells) o (subst (λ l. Has l o) (λ i. group_at M (sym x i) (sym y i)) here))

          at_cell : (q : Owned) → g.after ≡ Some q.cell → ((k : Group) × Has N.groups k × (k.node ≡ g.node) × Has k.cells q) → Has (group_cells (join_of N M)) o
          at_cell q y k = flat_map-has (λ (g : Group). g.cells) groups (inside k.0) o (first_listed k.0 k.1)
              (append_right (group_at M k.0.node k.0.after) (with_cells_after (group_at M) k.0.node k.0.cells) o (subst (λ l. Has l o) (sym (after_is M k.0.node k.0.cells))
              (made_kept M k.0.node k.0.cells q o k.3 (subst (λ l. Has l o) (λ i. group_at M (sym k.2 i) (y i)) here))))

  cells_once : AreDistinct (λ (o : Owned). o.cell) (group_cells (join_of N M))
  cells_once = flat_map-distinct {L = NodeId × Option CellId} (λ (g : Group). g.cells) (λ (o : Owned). o.cell) (λ (g : Group). (g.node, g.after)) groups starts_once
      (λ g h. let k = group_is g h in subst (AreDistinct (λ (o : Owned). o.cell)) (sym k.cells) (once_made g.node g.after k.old))
      (λ g h x y i j a b e.
      let k = group_is g i in
      let l = group_is h j in
      let r = one_made g.node h.node g.after h.after x y k.old l.old (is_at g.node g.after x (subst (λ l. Has l x) k.cells a)) (is_at h.node h.after y (subst (λ l. Has l y) l.cells b)) e in
      (λ i. (r.0 i, r.1 i)))

  -- ## Anchors

  anchors_once : AreDistinct (λ c. c) (filter_map (λ (g : Group). g.after) groups)
  anchors_once = picked_distinct (λ (g : Group). g.after) {N = NodeId × Option CellId} (λ (g : Group). (g.node, g.after)) groups starts_once one
    where
      in_row : (a : Option CellId) (n : NodeId) (c : CellId) → a ≡ Some c → IfSome a (λ c. (full D N).row_of c ≡ Some n) → (full D N).row_of c ≡ Some n
      in_row a n c e k = subst (λ a. IfSome a (λ c. (full D N).row_of c ≡ Some n)) e k

      one : (g h : Group) (c : CellId) → Has groups g → Has groups h → g.after ≡ Some c → h.after ≡ Some c → ◌≡◌ {A = NodeId × Option CellId} (g.node, g.after) (h.node, h.after)
      one g h c i j e f =
          let x = in_row g.after g.node c e (group_is g i).row in
          let y = in_row h.after h.node c f (group_is h j).row in
          let same : g.node ≡ h.node = let q : Some g.node ≡ Some h.node = sym x ∙ y in cc in
          (λ i. (same i, (e ∙ sym f) i))

  anchor_unmade : (a : Option CellId) (n : NodeId) → IsOldAnchor N a → IfSome a (λ c. (full D N).row_of c ≡ Some n) → IfSome a (λ c. (new_row_of N c ≡ None) × (new_row_of M c ≡ None))
  anchor_unmade None n old row = tt
  anchor_unmade (Some c) n old row = (old, go (new_row_of M c) refl)
    where
      go : (o : Option NodeId) → new_row_of M c ≡ o → new_row_of M c ≡ None
      go None e = e
      go (Some m) e =
          let gone : (full D N).row_of c ≡ None = p.then_fits.fresh_cells c (ap is_some e) in
          let bad : None ≡ Some n = sym gone ∙ row in cc

  -- ## Look-ups of puts

  abbrev second_kept : Put → Option Put
  second_kept q = kept_put (is_new N) q

  abbrev first_left : Put → Option Put
  first_left q = left_put (is_new N) (λ n. is_some (put_of M n)) (clears M) q

  second_node : (x y : Put) → second_kept x ≡ Some y → y.node ≡ x.node
  second_node x y e = kept_node (is_new N) x y e

  first_node : (x y : Put) → first_left x ≡ Some y → y.node ≡ x.node
  first_node x y e = (left_node (is_new N) (λ n. is_some (put_of M n)) (clears M) x y e).1

  puts_once : AreDistinct (λ (q : Put). q.node) (join_of N M).put
  puts_once = distinct-append (λ (q : Put). q.node) (filter_map second_kept M.put) (filter_map first_left N.put)
      (picked-distinct second_kept (λ (q : Put). q.node) (λ (q : Put). q.node) second_node M.put v.put_once)
      (picked-distinct first_left (λ (q : Put). q.node) (λ (q : Put). q.node) first_node N.put w.put_once)
      (λ x y h i e.
      let a = has-picked second_kept M.put x h in
      let b = has-picked first_left N.put y i in
      let l = left_node (is_new N) (λ n. is_some (put_of M n)) (clears M) b.0 y b.2 in
      let same : b.0.node ≡ a.0.node = sym l.1 ∙ e ∙ second_node a.0 x a.2 in
      true-false (ap is_some (has-put M v a.0 a.1)) (ap (λ n. is_some (put_of M n)) (sym same) ∙ l.0))

  put_joined : (n : NodeId) → put_of (join_of N M) n ≡ joined_put N M n
  put_joined n =
      ap (option_map (λ (q : Put). q.to)) (find-append (λ (q : Put). same_node q.node n) (filter_map second_kept M.put) (filter_map first_left N.put)
      ∙ (λ i. option_or (second_found i) (first_found i)))
      ∙ go (find (λ (q : Put). same_node q.node n) M.put) refl (find (λ (q : Put). same_node q.node n) N.put) refl
    where
      one : (k l : NodeId) → same_node k n ≡ true → same_node l n ≡ true → k ≡ l
      one k l e f = same_node-true k n e ∙ sym (same_node-true l n f)

      second_found : find (λ (q : Put). same_node q.node n) (filter_map second_kept M.put) ≡ option_and_then second_kept (find (λ (q : Put). same_node q.node n) M.put)
      second_found = find-picked second_kept (λ (q : Put). q.node) (λ (q : Put). q.node) second_node (λ m. same_node m n) one M.put v.put_once

      first_found : find (λ (q : Put). same_node q.node n) (filter_map first_left N.put) ≡ option_and_then first_left (find (λ (q : Put). same_node q.node n) N.put)
      first_found = find-picked first_left (λ (q : Put). q.node) (λ (q : Put). q.node) first_node (λ m. same_node m n) one N.put w.put_once

      node_is : (L : List Put) (q : Put) → find (λ (q : Put). same_node q.node n) L ≡ Some q → q.node ≡ n
      node_is L q e = same_node-true q.node n (first-has (λ (q : Put). same_node q.node n) L q e).1

      -- a put of the first part goes where the second puts the node too
      dropped : (q : Put) → find (λ (q : Put). same_node q.node n) M.put ≡ Some q → (b : Option Put) → find (λ (q : Put). same_node q.node n) N.put ≡ b → option_and_then first_left b ≡ None
      dropped q e None f = refl
      dropped q e (Some r) f =
          let put : is_some (put_of M r.node) ≡ true = ap (λ m. is_some (put_of M m)) (node_is N.put r f) ∙ ap (λ o. is_some (option_map (λ (q : Put). q.to) o)) e in
          ap (λ c. cond c None (kept_put (is_new N) (record { node = r.node; to = to_if_open (clears M) r.to }))) put

      go : (a : Option Put) → find (λ (q : Put). same_node q.node n) M.put ≡ a → (b : Option Put) → find (λ (q : Put). same_node q.node n) N.put ≡ b
          → option_map (λ (q : Put). q.to) (option_or (option_and_then second_kept a) (option_and_then first_left b))
          ≡ option_and_then (put_unless_new (is_new N n)) (option_or (option_map (λ (q : Put). q.to) a) (option_map (unless_cleared_by M) (option_map (λ (q : Put). q.to) b)))
      go (Some q) e b f =
          ap (λ o. option_map (λ (q : Put). q.to) (option_or (second_kept q) o)) (dropped q e b f) ∙ ap (option_map (λ (q : Put). q.to)) (option_or-None (second_kept q))
          ∙ kept_to (is_new N) q ∙ ap (λ m. put_unless_new (is_new N m) q.to) (node_is M.put q e)
      go None e (Some r) f =
          let node = node_is N.put r f in
          let unput : is_some (put_of M r.node) ≡ false = ap (λ m. is_some (put_of M m)) node ∙ ap (λ o. is_some (option_map (λ (q : Put). q.to) o)) e in
          ap (λ c. option_map (λ (q : Put). q.to) (cond c None (kept_put (is_new N) (record { node = r.node; to = to_if_open (clears M) r.to })))) unput
          ∙ kept_to (is_new N) (record { node = r.node; to = to_if_open (clears M) r.to }) ∙ (λ i. put_unless_new (is_new N (node i)) (open_is M r.to i))
      go None e None f = refl

  -- ## Clears and needs

  clears_joined : (f : FieldId) → clears (join_of N M) f ≡ (clears N f || clears M f)
  clears_joined f = any-append (λ g. same_field g f) N.clear (filter (λ f. not (clears N f)) M.clear) ∙ go (clears N f) refl
    where
      go : (b : Bool) → clears N f ≡ b → (b || list_any (λ g. same_field g f) (filter (λ f. not (clears N f)) M.clear)) ≡ (b || clears M f)
      go true e = refl
      go false e = any-filter (λ f. not (clears N f)) (λ g. same_field g f) M.clear (λ g t. ap (λ g. not (clears N g)) (same_field-true g f t) ∙ ap not e)

  abbrev still_needed : NodeId → Bool
  still_needed m = not (is_new N m || is_needed N m)

  needs_joined : (n : NodeId) → Has (join_of N M).need n ↔ (Has N.need n ⊎ (Has M.need n × (is_new N n ≡ false)))
  needs_joined n = (there, back)
    where
      there : Has (join_of N M).need n → Has N.need n ⊎ (Has M.need n × (is_new N n ≡ false))
      there h = elim (has-append N.need (filter still_needed M.need) n h) [ inl i ↦ inl i | inr i ↦ (let r = filtered still_needed M.need n i in inr (r.0, neither (is_new N n) (is_needed N n) r.1)) ]

      back : Has N.need n ⊎ (Has M.need n × (is_new N n ≡ false)) → Has (join_of N M).need n
      back (inl i) = append_left N.need (filter still_needed M.need) n i
      back (inr i) = go (is_needed N n) refl
        where
          go : (b : Bool) → is_needed N n ≡ b → Has (join_of N M).need n
          go true e = let r = any-has (λ m. same_node m n) N.need e in append_left N.need (filter still_needed M.need) n (subst (Has N.need) (same_node-true r.0 n r.2) r.1)
          go false e = append_right N.need (filter still_needed M.need) n (filter-has still_needed M.need n i.0 (rw (i.1, e) refl))

  -- ## Together

  lists_joined : IsListedJoin N M (join_of N M)
  lists_joined = record {
    rev = refl;
    no_schema = refl;
    new = refl;
    cells = cells_from;
    first_cells = cell_first;
    second_cells = cell_second;
    cell_once = cells_once;
    group_some = has-all (λ (g : Group). g.cells ≢ []) groups (λ g h. (group_is g h).some);
    start_once = starts_once;
    anchor_once = anchors_once;
    anchors = has-all (λ (g : Group). IfSome g.after (λ c. (new_row_of N c ≡ None) × (new_row_of M c ≡ None))) groups (λ g h. let k = group_is g h in anchor_unmade g.after g.node k.old k.row);
    put_once = puts_once;
    puts = put_joined;
    clears_both = clears_joined;
    needs = needs_joined;
  }

  pub joined_is_join : IsJoin N M (join_of N M)
  joined_is_join = record {
    itself = joined_intent D N M (join_of N M) s p lists_joined;
    rev = refl;
    under = refl;
    no_schema = refl;
    new_nodes = λ n. find-append (λ (m : NewNode). same_node m.node n) N.new M.new;
    groups = group_joined;
    puts = put_joined;
    clears_both = clears_joined;
    needs = needs_joined;
  }
