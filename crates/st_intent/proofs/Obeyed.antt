-- The tests of the rules tell whether the rules are obeyed.
use Rattle.std.proofs.Common.{◌≡◌, ◌≢◌, ℕ, ◌+◌, ◌≤◌, Bool, true, false, not, ◌&&◌, ◌||◌, List, [], ◌∷◌, ◌++◌, length, map, Option, Some, None, IsSome, IfSome, IsTrue, refl, sym, ap, ◌∙◌, subst, arith, ◌⊎◌, is_some, option_and_then, add-one}
use Rattle.std.specs.Ordering.{is_eq}
use Rattle.std.specs.List.{list_any, AllByRecursion, filter_map, flat_map}
use Rattle.std.proofs.lemmas.Cmp.{tied_itself}
use Rattle.std.proofs.lemmas.List.{length-map}
use Rattle.st_ids.specs.Listing.{AreDistinct, Has}
use Rattle.st_ids.specs.Order.{same_rev, same_node, same_cell, same_field, rev_cmp}
use Rattle.st_ids.specs.declared.names.CellId.{CellId}
use Rattle.st_ids.specs.declared.names.FieldId.{FieldId}
use Rattle.st_ids.specs.declared.names.NodeId.{NodeId}
use Rattle.st_ids.specs.declared.names.Rev.{Rev}
use Rattle.st_ids.proofs.Orders.{rev_cmp_exact, rev_cmp_total, same_node-true, same_node-itself, same_cell-true, same_cell-itself, same_field-true, same_field-itself, is_eq_equal}
use Rattle.st_marks.specs.declared.changes.NewNode.{NewNode}
use Rattle.st_marks.specs.declared.intents.Group.{Group}
use Rattle.st_marks.specs.declared.intents.Intent.{Intent}
use Rattle.st_marks.specs.declared.intents.Owned.{Owned}
use Rattle.st_marks.specs.declared.intents.Put.{Put}
use Rattle.st_marks.specs.declared.intents.To.{To}
use Rattle.st_marks.specs.Document.{ClimbsToAnEnd}
use Rattle.st_ids.specs.Root.{root}
use Rattle.st_marks.specs.Intent.{IsIntent, is_new, put_of, new_row_of, clears, cell_of, register_of, same_anchor, group_cells, above_new}
use Rattle.st_marks.proofs.Members.{any-has, has-any, all-has, has-all, has-flat_map, flat_map-has, map-has, distinct-append, distinct-left, distinct-right, distinct-between}
use Rattle.st_intent.specs.Rules.{makes, is_put}
use Rattle.st_intent.specs.inside.Rules.{are_same, new_names_hold, cells_are_distinct, anchor_made, group_holds, groups_hold, is_nowhere, fills_cleared, put_holds, puts_hold, ends_within, no_ring_holds, is_empty, has_nothing, schema_holds, others_hold, is_intent}
use Rattle.st_intent.proofs.Tells.{Tells, tells_both, tells_either, tells_not, not_false, tells_as, tells_all, tells_apart, tells_apart_some, tells_some}
use Rattle.st_intent.proofs.Scans.{is_some-find, is_new-listed}
use Rattle.st_intent.proofs.Ends.{ends_from, ends_soon}
use Rattle.st_lemmas.proofs.Bools.{true-false}
use Rattle.st_lemmas.proofs.Options.{is_some-option_map}

-- ## Names

pub one_rev : (a b : Rev) → Tells (same_rev a b) (a ≡ b)
unfolding same_rev
one_rev a b = (λ e. rev_cmp_exact a b (is_eq_equal _ e), λ e. ap (λ c. is_eq (rev_cmp a c)) (sym e) ∙ ap is_eq (tied_itself rev_cmp_total a))

pub one_node : (a b : NodeId) → Tells (same_node a b) (a ≡ b)
one_node a b = (same_node-true a b, λ e. ap (same_node a) (sym e) ∙ same_node-itself a)

pub one_cell : (a b : CellId) → Tells (same_cell a b) (a ≡ b)
one_cell a b = (same_cell-true a b, λ e. ap (same_cell a) (sym e) ∙ same_cell-itself a)

pub one_field : (a b : FieldId) → Tells (same_field a b) (a ≡ b)
one_field a b = (same_field-true a b, λ e. ap (same_field a) (sym e) ∙ same_field-itself a)

one_anchor : (a b : Option CellId) → Tells (same_anchor a b) (a ≡ b)
one_anchor None None = (λ e. refl, λ e. refl)
one_anchor None (Some d) = (λ e. cc, λ e. cc)
one_anchor (Some c) None = (λ e. cc, λ e. cc)
one_anchor (Some c) (Some d) = (λ e. ap (λ x. Some x) (same_cell-true c d e), λ e. let s : c ≡ d = cc in (one_cell c d).1 s)

module _ {K : Type 0} (same : K → K → Bool) (one : (a b : K) → Tells (same a b) (a ≡ b)) where
  one_some : (a b : Option K) (k : K) → b ≡ Some k → Tells (are_same same a b) (a ≡ Some k)
  one_some None b k e = (λ f. cc, λ f. cc)
  one_some (Some x) None k e = (λ f. cc, λ f. cc)
  one_some (Some x) (Some y) k e = let s : y ≡ k = cc in (λ f. ap (λ z. Some z) ((one x y).0 f ∙ s), λ f. let t : x ≡ k = cc in (one x y).1 (t ∙ sym s))

  not_one : (a b : Option K) → b ≡ None → are_same same a b ≡ false
  not_one None b e = refl
  not_one (Some x) None e = refl
  not_one (Some x) (Some y) e = cc

-- ## New nodes

new_names : (N : Intent) → Tells (new_names_hold N) (AllByRecursion (λ (m : NewNode). m.node.0.rev ≡ N.rev) N.new × AreDistinct (λ (m : NewNode). m.node) N.new)
new_names N =
    tells_both _ _ _ _ (tells_all (λ (m : NewNode). same_rev m.node.0.rev N.rev) (λ (m : NewNode). m.node.0.rev ≡ N.rev) (λ m. one_rev m.node.0.rev N.rev) N.new)
    (tells_apart (λ (m k : NewNode). same_node m.node k.node) (λ (m : NewNode). m.node) (λ x y. one_node y.node x.node) N.new)

-- ## Groups

pub put_tells : (N : Intent) (n : NodeId) → Tells (is_put N n) (IsSome (put_of N n))
put_tells N n = let same = is_some-option_map (λ (p : Put). p.to) _ ∙ is_some-find (λ (p : Put). same_node p.node n) N.put in (λ e. same ∙ e, λ h. sym same ∙ h)

pub is_none_tells : {A : Type 0} (o : Option A) → Tells (not (is_some o)) (o ≡ None)
is_none_tells None = (λ e. refl, λ e. refl)
is_none_tells (Some x) = (λ e. cc, λ e. cc)

pub made_is : (N : Intent) (c : CellId) → is_some (new_row_of N c) ≡ makes N.groups c
made_is N c = is_some-option_map (λ (g : Group). g.node) _ ∙ is_some-find (λ (g : Group). list_any (λ (o : Owned). same_cell o.cell c) g.cells) N.groups

old_anchor : (N : Intent) (a : Option CellId) → Tells (not (anchor_made N a)) (IfSome a (λ c. new_row_of N c ≡ None))
old_anchor N None = (λ e. tt, λ h. refl)
old_anchor N (Some c) = subst (λ b. Tells (not b) (new_row_of N c ≡ None)) (made_is N c) (is_none_tells (new_row_of N c))

abbrev IsTouched : Intent → Owned → Type 0
IsTouched N o = IsTrue (is_new N o.node) ⊎ IsSome (put_of N o.node)

abbrev GroupObeys : Intent → Group → Type 0
GroupObeys N g = AllByRecursion (λ (o : Owned). o.cell.0.rev ≡ N.rev) g.cells × ((g.cells ≢ []) × (AllByRecursion (IsTouched N) g.cells × IfSome g.after (λ c. new_row_of N c ≡ None)))

one_group : (N : Intent) (g : Group) → Tells (group_holds N g) (GroupObeys N g)
one_group N g =
    tells_both _ _ _ _ (tells_all (λ (o : Owned). same_rev o.cell.0.rev N.rev) (λ (o : Owned). o.cell.0.rev ≡ N.rev) (λ o. one_rev o.cell.0.rev N.rev) g.cells)
    (tells_both _ _ _ _ (tells_some g.cells)
    (tells_both _ _ _ _ (tells_all (λ (o : Owned). is_new N o.node || is_put N o.node) (IsTouched N) (λ o. tells_either (is_new N o.node) (is_put N o.node) _ _ (λ e. e, λ h. h) (put_tells N o.node)) g.cells)
    (old_anchor N g.after)))

made_among : (gs : List Group) (y : Owned) → Has (flat_map (λ (g : Group). g.cells) gs) y → makes gs y.cell ≡ true
made_among gs y h =
    let g = has-flat_map (λ (g : Group). g.cells) gs y h in
    has-any (λ (g : Group). list_any (λ (o : Owned). same_cell o.cell y.cell) g.cells) gs g.0 g.1 (has-any (λ (o : Owned). same_cell o.cell y.cell) g.0.cells y g.2 (same_cell-itself y.cell))

among_made : (gs : List Group) (c : CellId) → makes gs c ≡ true → (y : Owned) × Has (flat_map (λ (g : Group). g.cells) gs) y × (y.cell ≡ c)
among_made gs c e =
    let g = any-has (λ (g : Group). list_any (λ (o : Owned). same_cell o.cell c) g.cells) gs e in
    let y = any-has (λ (o : Owned). same_cell o.cell c) g.0.cells g.2 in
    (y.0, flat_map-has (λ (g : Group). g.cells) gs g.0 y.0 g.1 y.1, same_cell-true y.0.cell c y.2)

cells_once : (gs : List Group) → Tells (cells_are_distinct gs) (AreDistinct (λ (o : Owned). o.cell) (flat_map (λ (g : Group). g.cells) gs))
cells_once [] = (λ e. tt, λ h. refl)
cells_once (g ∷ gs) = tells_as _ _ _ to from
    (tells_both _ _ _ _ (tells_apart (λ (o p : Owned). same_cell o.cell p.cell) (λ (o : Owned). o.cell) (λ x y. one_cell y.cell x.cell) g.cells)
    (tells_both _ _ _ _ (tells_all (λ (o : Owned). not (makes gs o.cell)) (λ (o : Owned). makes gs o.cell ≡ false) (λ o. not_false (makes gs o.cell)) g.cells) (cells_once gs)))
  where
    rest : List Owned
    rest = flat_map (λ (g : Group). g.cells) gs

    to : AreDistinct (λ (o : Owned). o.cell) g.cells × (AllByRecursion (λ (o : Owned). makes gs o.cell ≡ false) g.cells × AreDistinct (λ (o : Owned). o.cell) (flat_map (λ (g : Group). g.cells) gs))
        → AreDistinct (λ (o : Owned). o.cell) (g.cells ++ flat_map (λ (g : Group). g.cells) gs)
    to h = distinct-append (λ (o : Owned). o.cell) g.cells (flat_map (λ (g : Group). g.cells) gs) h.0 h.1.1
        (λ x y k l q. true-false (made_among gs y l) (ap (makes gs) q ∙ all-has (λ (o : Owned). makes gs o.cell ≡ false) g.cells x h.1.0 k))

    from : AreDistinct (λ (o : Owned). o.cell) (g.cells ++ flat_map (λ (g : Group). g.cells) gs)
        → AreDistinct (λ (o : Owned). o.cell) g.cells × (AllByRecursion (λ (o : Owned). makes gs o.cell ≡ false) g.cells × AreDistinct (λ (o : Owned). o.cell) (flat_map (λ (g : Group). g.cells) gs))
    from d =
        let f : List Owned = flat_map (λ (g : Group). g.cells) gs in (
          distinct-left (λ (o : Owned). o.cell) g.cells f d,
          (has-all (λ (o : Owned). makes gs o.cell ≡ false) g.cells (λ x k. pick x k (makes gs x.cell) refl), distinct-right (λ (o : Owned). o.cell) g.cells f d),
        )
      where
        pick : (x : Owned) → Has g.cells x → (b : Bool) → makes gs x.cell ≡ b → makes gs x.cell ≡ false
        pick x k false e = e
        pick x k true e = let y = among_made gs x.cell e in absurd (distinct-between (λ (o : Owned). o.cell) g.cells (flat_map (λ (g : Group). g.cells) gs) x y.0 d k y.1 y.2)

same_start : (g h : Group) → Tells (same_node g.node h.node && same_anchor g.after h.after) (◌≡◌ {A = NodeId × Option CellId} (g.node, g.after) (h.node, h.after))
same_start g h = tells_as _ _ _ (λ p i. (p.0 i, p.1 i)) (λ q. ((λ i. (q i).0), (λ i. (q i).1))) (tells_both _ _ _ _ (one_node g.node h.node) (one_anchor g.after h.after))

groups_obey : (N : Intent) → Tells (groups_hold N) (AllByRecursion (GroupObeys N) N.groups
    × (AreDistinct (λ (o : Owned). o.cell) (group_cells N) × (AreDistinct {K = NodeId × Option CellId} (λ (g : Group). (g.node, g.after)) N.groups × AreDistinct (λ (c : CellId). c) (filter_map (λ (g : Group). g.after) N.groups))))
groups_obey N =
    tells_both _ _ _ _ (tells_all (group_holds N) (GroupObeys N) (one_group N) N.groups)
    (tells_both _ _ _ _ (cells_once N.groups)
    (tells_both _ _ _ _ (tells_apart (λ (g h : Group). same_node g.node h.node && same_anchor g.after h.after) (λ (g : Group). (g.node, g.after)) (λ x y. same_start y x) N.groups)
    (tells_apart_some (λ (g h : Group). are_same same_cell g.after h.after) (λ (g : Group). g.after) (λ x y k e. one_some same_cell one_cell y.after x.after k e) (λ x y e. not_one same_cell one_cell y.after x.after e) N.groups)))

-- ## Puts

nowhere_tells : (to : To) → Tells (is_nowhere to) (to ≡ To.Nowhere)
nowhere_tells To.Nowhere = (λ e. refl, λ e. refl)
nowhere_tells (To.Cell c) = (λ e. cc, λ e. cc)
nowhere_tells (To.Register f) = (λ e. cc, λ e. cc)

cleared_tells : (N : Intent) (to : To) → Tells (fills_cleared N to) (IfSome (register_of to) (λ f. IsTrue (clears N f)))
cleared_tells N To.Nowhere = (λ e. tt, λ h. refl)
cleared_tells N (To.Cell c) = (λ e. tt, λ h. refl)
cleared_tells N (To.Register f) = (λ e. e, λ h. h)

abbrev PutObeys : Intent → Put → Type 0
PutObeys N p = (IsTrue (is_new N p.node) → p.to ≢ To.Nowhere) × IfSome (register_of p.to) (λ f. IsTrue (clears N f))

one_put : (N : Intent) (p : Put) → Tells (put_holds N p) (PutObeys N p)
one_put N p =
    tells_both _ _ _ _ (tells_as _ _ _ (λ never n e. never (n, e)) (λ h q. h q.0 q.1)
    (tells_not (is_new N p.node && is_nowhere p.to) (IsTrue (is_new N p.node) × (p.to ≡ To.Nowhere)) (tells_both _ _ _ _ (λ e. e, λ h. h) (nowhere_tells p.to))))
    (cleared_tells N p.to)

root_tells : (N : Intent) → Tells (not (is_put N root)) (put_of N root ≡ None)
root_tells N = subst (λ b. Tells (not b) (put_of N root ≡ None)) (is_some-option_map (λ (p : Put). p.to) _ ∙ is_some-find (λ (p : Put). same_node p.node root) N.put) (is_none_tells (put_of N root))

puts_obey : (N : Intent) → Tells (puts_hold N) (AllByRecursion (PutObeys N) N.put
    × ((put_of N root ≡ None) × (AreDistinct (λ (p : Put). p.node) N.put
    × (AreDistinct (λ (c : CellId). c) (filter_map (λ (p : Put). cell_of p.to) N.put) × AreDistinct (λ (f : FieldId). f) (filter_map (λ (p : Put). register_of p.to) N.put)))))
puts_obey N =
    tells_both _ _ _ _ (tells_all (put_holds N) (PutObeys N) (one_put N) N.put)
    (tells_both _ _ _ _ (root_tells N)
    (tells_both _ _ _ _ (tells_apart (λ (p q : Put). same_node p.node q.node) (λ (p : Put). p.node) (λ x y. one_node y.node x.node) N.put)
    (tells_both _ _ _ _
    (tells_apart_some (λ (p q : Put). are_same same_cell (cell_of p.to) (cell_of q.to)) (λ (p : Put). cell_of p.to) (λ x y k e. one_some same_cell one_cell (cell_of y.to) (cell_of x.to) k e) (λ x y e. not_one same_cell one_cell (cell_of y.to) (cell_of x.to) e) N.put)
    (tells_apart_some (λ (p q : Put). are_same same_field (register_of p.to) (register_of q.to)) (λ (p : Put). register_of p.to) (λ x y k e. one_some same_field one_field (register_of y.to) (register_of x.to) k e) (λ x y e. not_one same_field one_field (register_of y.to) (register_of x.to) e) N.put))))

-- ## The rest

no_ring_tells : (N : Intent) → Tells (no_ring_holds N) ((n : NodeId) → ClimbsToAnEnd (above_new N) n)
no_ring_tells N = (λ e n. to e n (is_new N n) refl, λ h. each.1 (has-all Passes N.new (λ m k. from h m)))
  where
    Passes : NewNode → Type 0
    Passes m = ends_within (above_new N) (length N.new + 1) m.node ≡ true

    each : Tells (no_ring_holds N) (AllByRecursion (λ (m : NewNode). ends_within (above_new N) (length N.new + 1) m.node ≡ true) N.new)
    each = tells_all (λ (m : NewNode). ends_within (above_new N) (length N.new + 1) m.node) (λ (m : NewNode). ends_within (above_new N) (length N.new + 1) m.node ≡ true) (λ m. (λ e. e, λ h. h)) N.new

    to : no_ring_holds N ≡ true → (n : NodeId) (b : Bool) → is_new N n ≡ b → ClimbsToAnEnd (above_new N) n
    to e n false new = (1, let none : above_new N n ≡ None = rw new refl in ap (option_and_then (λ p. Some p)) none)
    to e n true new =
        let m = any-has (λ (m : NewNode). same_node m.node n) N.new (sym (is_new-listed N n) ∙ new) in
        subst (ClimbsToAnEnd (above_new N)) (same_node-true m.0.node n m.2)
        (ends_from (above_new N) (length N.new + 1) m.0.node (all-has (λ (m : NewNode). ends_within (above_new N) (length N.new + 1) m.node ≡ true) N.new m.0 (each.0 e) m.1))

    above_listed : (x q : NodeId) → above_new N x ≡ Some q → (b : Bool) → is_new N x ≡ b → Has (map (λ (m : NewNode). m.node) N.new) x
    above_listed x q e false new = let none : above_new N x ≡ None = rw new refl in absurd (let bad : None ≡ Some q = sym none ∙ e in cc)
    above_listed x q e true new =
        let m = any-has (λ (m : NewNode). same_node m.node x) N.new (sym (is_new-listed N x) ∙ new) in
        subst (Has (map (λ (m : NewNode). m.node) N.new)) (same_node-true m.0.node x m.2) (map-has (λ (m : NewNode). m.node) N.new m.0 m.1)

    from : ((n : NodeId) → ClimbsToAnEnd (above_new N) n) → (m : NewNode) → ends_within (above_new N) (length N.new + 1) m.node ≡ true
    from h m =
        let few : length (map (λ (m : NewNode). m.node) N.new) ≤ length N.new = omega (arith, length-map N.new (λ (m : NewNode). m.node)) in
        rw add-one (ends_soon (above_new N) (length N.new) (map (λ (m : NewNode). m.node) N.new) m.node (h m.node).0 few (h m.node).1 (λ j x q c e. above_listed x q e (is_new N x) refl))

empty_tells : {A : Type 0} (xs : List A) → Tells (is_empty xs) (xs ≡ [])
empty_tells [] = (λ e. refl, λ e. refl)
empty_tells (x ∷ xs) = (λ e. cc, λ e. cc)

abbrev HasNothing : Intent → Type 0
HasNothing N = (N.new ≡ []) × (N.groups ≡ []) × (N.clear ≡ []) × (N.put ≡ []) × (N.need ≡ [])

nothing_tells : (N : Intent) → Tells (has_nothing N) (HasNothing N)
nothing_tells N = tells_as _ _ _ (λ h. (h.0, h.1.0, h.1.1.0, h.1.1.1.0, h.1.1.1.1)) (λ h. (h.0, (h.1, (h.2, (h.3, h.4)))))
    (tells_both _ _ _ _ (empty_tells N.new) (tells_both _ _ _ _ (empty_tells N.groups) (tells_both _ _ _ _ (empty_tells N.clear) (tells_both _ _ _ _ (empty_tells N.put) (empty_tells N.need)))))

schema_tells : (N : Intent) (s : Option (List ℕ)) → Tells (schema_holds N s) (IfSome s (λ _. HasNothing N))
schema_tells N None = (λ e. tt, λ h. refl)
schema_tells N (Some text) = nothing_tells N

others_obey : (N : Intent) → Tells (others_hold N) (AllByRecursion (λ (f : FieldId). f.key.0 ≢ []) N.clear
    × (AllByRecursion (λ n. is_new N n ≡ false) N.need × (((n : NodeId) → ClimbsToAnEnd (above_new N) n) × IfSome N.schema (λ _. HasNothing N))))
others_obey N =
    tells_both _ _ _ _ (tells_all _ (λ (f : FieldId). f.key.0 ≢ []) (λ f. tells_some f.key.0) N.clear)
    (tells_both _ _ _ _ (tells_all _ (λ n. is_new N n ≡ false) (λ n. not_false (is_new N n)) N.need) (tells_both _ _ _ _ (no_ring_tells N) (schema_tells N N.schema)))

-- ## All

flat_all : (P : Owned → Type 0) (gs : List Group) → ((g : Group) → Has gs g → AllByRecursion P g.cells) → AllByRecursion P (flat_map (λ (g : Group). g.cells) gs)
flat_all P gs h = has-all P _ (λ o k. let g = has-flat_map (λ (g : Group). g.cells) gs o k in all-has P g.0.cells o (h g.0 g.1) g.2)

part_all : (P : Owned → Type 0) (gs : List Group) → AllByRecursion P (flat_map (λ (g : Group). g.cells) gs) → (g : Group) → Has gs g → AllByRecursion P g.cells
part_all P gs a g k = has-all P g.cells (λ o l. all-has P _ o a (flat_map-has (λ (g : Group). g.cells) gs g o k l))

-- the rules in the order of the tests
abbrev pub Obeys : Intent → Type 0
Obeys N =
    (AllByRecursion (λ (m : NewNode). m.node.0.rev ≡ N.rev) N.new × AreDistinct (λ (m : NewNode). m.node) N.new)
    × ((AllByRecursion (GroupObeys N) N.groups
    × (AreDistinct (λ (o : Owned). o.cell) (group_cells N) × (AreDistinct {K = NodeId × Option CellId} (λ (g : Group). (g.node, g.after)) N.groups × AreDistinct (λ (c : CellId). c) (filter_map (λ (g : Group). g.after) N.groups))))
    × ((AllByRecursion (PutObeys N) N.put
    × ((put_of N root ≡ None) × (AreDistinct (λ (p : Put). p.node) N.put
    × (AreDistinct (λ (c : CellId). c) (filter_map (λ (p : Put). cell_of p.to) N.put) × AreDistinct (λ (f : FieldId). f) (filter_map (λ (p : Put). register_of p.to) N.put)))))
    × (AllByRecursion (λ (f : FieldId). f.key.0 ≢ []) N.clear
    × (AllByRecursion (λ n. is_new N n ≡ false) N.need × (((n : NodeId) → ClimbsToAnEnd (above_new N) n) × IfSome N.schema (λ _. HasNothing N))))))

obeys_is : (N : Intent) → Obeys N → IsIntent N
obeys_is N h = record {
  new_rev = h.0.0;
  new_once = h.0.1;
  cell_rev = flat_all (λ o. o.cell.0.rev ≡ N.rev) N.groups (λ g k. (group g k).0);
  cell_once = h.1.0.1.0;
  group_some = has-all (λ (g : Group). g.cells ≢ []) N.groups (λ g k. (group g k).1.0);
  start_once = h.1.0.1.1.0;
  anchor_once = h.1.0.1.1.1;
  anchor_old = has-all (λ (g : Group). IfSome g.after (λ c. new_row_of N c ≡ None)) N.groups (λ g k. (group g k).1.1.1);
  owners = flat_all (IsTouched N) N.groups (λ g k. (group g k).1.1.0);
  root_stays = h.1.1.0.1.0;
  put_once = h.1.1.0.1.1.0;
  no_cell_twice = h.1.1.0.1.1.1.0;
  no_register_twice = h.1.1.0.1.1.1.1;
  new_somewhere = has-all (λ (p : Put). IsTrue (is_new N p.node) → p.to ≢ To.Nowhere) N.put (λ p k. (put p k).0);
  cleared = has-all (λ (p : Put). IfSome (register_of p.to) (λ f. IsTrue (clears N f))) N.put (λ p k. (put p k).1);
  register_keys = h.1.1.1.0;
  need_old = h.1.1.1.1.0;
  no_ring = h.1.1.1.1.1.0;
  schema_alone = h.1.1.1.1.1.1;
}
  where
    group : (g : Group) → Has N.groups g → GroupObeys N g
    group g k = all-has (GroupObeys N) N.groups g h.1.0.0 k

    put : (p : Put) → Has N.put p → PutObeys N p
    put p k = all-has (PutObeys N) N.put p h.1.1.0.0 k

is_obeys : (N : Intent) → IsIntent N → Obeys N
is_obeys N w = (
  (w.new_rev, w.new_once),
  (
    (has-all (GroupObeys N) N.groups group, (w.cell_once, (w.start_once, w.anchor_once))),
    (
      (has-all (PutObeys N) N.put put, (w.root_stays, (w.put_once, (w.no_cell_twice, w.no_register_twice)))),
      (w.register_keys, (w.need_old, (w.no_ring, w.schema_alone))),
    ),
  ),
)
  where
    group : (g : Group) → Has N.groups g → GroupObeys N g
    group g k = (
      part_all (λ o. o.cell.0.rev ≡ N.rev) N.groups w.cell_rev g k,
      (
        all-has (λ (g : Group). g.cells ≢ []) N.groups g w.group_some k,
        (part_all (IsTouched N) N.groups w.owners g k, all-has (λ (g : Group). IfSome g.after (λ c. new_row_of N c ≡ None)) N.groups g w.anchor_old k),
      ),
    )

    put : (p : Put) → Has N.put p → PutObeys N p
    put p k = (all-has (λ (p : Put). IsTrue (is_new N p.node) → p.to ≢ To.Nowhere) N.put p w.new_somewhere k, all-has (λ (p : Put). IfSome (register_of p.to) (λ f. IsTrue (clears N f))) N.put p w.cleared k)

pub is_intent_tells : (N : Intent) → Tells (is_intent N) (IsIntent N)
is_intent_tells N = tells_as _ _ _ (obeys_is N) (is_obeys N) (tells_both _ _ _ _ (new_names N) (tells_both _ _ _ _ (groups_obey N) (tells_both _ _ _ _ (puts_obey N) (others_obey N))))
