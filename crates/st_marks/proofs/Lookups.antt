-- What an intent's lists say by look-ups.
use Rattle.std.proofs.Common.{◌≡◌, true, List, Option, Some, None, ◌&&◌, refl, sym, ap, ◌∙◌, subst, IsSome, IsTrue, IfSome, option_map}
use Rattle.std.specs.List.{find, list_any}
use Rattle.st_ids.specs.Listing.{Has}
use Rattle.st_ids.specs.Order.{same_node, same_cell, same_field}
use Rattle.st_ids.specs.declared.names.CellId.{CellId}
use Rattle.st_ids.specs.declared.names.FieldId.{FieldId}
use Rattle.st_ids.specs.declared.names.NodeId.{NodeId}
use Rattle.st_ids.proofs.Orders.{same_node-true, same_node-itself, same_cell-true, same_cell-itself, same_field-true, same_field-itself}
use Rattle.st_marks.specs.declared.intents.Group.{Group}
use Rattle.st_marks.specs.declared.intents.Intent.{Intent}
use Rattle.st_marks.specs.declared.intents.Owned.{Owned}
use Rattle.st_marks.specs.declared.intents.Put.{Put}
use Rattle.st_marks.specs.declared.intents.To.{To}
use Rattle.st_marks.specs.Intent.{put_of, put_in, clears, is_register, register_of, same_option, group_at, new_row_of, group_cells, IsIntent}
use Rattle.st_marks.proofs.Members.{all-has, first-has, none-has, any-has, has-any, distinct-has, first-distinct, distinct-filter_map, flat_map-has, has-flat_map, one_list}
use Rattle.st_lemmas.proofs.Bools.{and-true, true-false}

-- ## Puts and clears

pub put-has : (N : Intent) (n : NodeId) (to : To) → put_of N n ≡ Some to → Has N.put (record { node = n; to = to })
put-has N n to e = go (find (λ (p : Put). same_node p.node n) N.put) refl e
  where
    go : (o : Option Put) → find (λ (p : Put). same_node p.node n) N.put ≡ o → option_map (λ (p : Put). p.to) o ≡ Some to → Has N.put (record { node = n; to = to })
    go None f e = cc
    go (Some p) f e =
        let r = first-has (λ (p : Put). same_node p.node n) N.put p f in
        let q : p.to ≡ to = cc in
        subst (Has N.put) (λ i. record { node = same_node-true p.node n r.1 i; to = q i }) r.0

pub has-put : (N : Intent) → IsIntent N → (p : Put) → Has N.put p → put_of N p.node ≡ Some p.to
has-put N w p h = ap (option_map (λ (p : Put). p.to)) (first-distinct (λ (p : Put). p.node) N.put (λ (q : Put). same_node q.node p.node) p w.put_once h (same_node-itself p.node) (λ q t. same_node-true q.node p.node t))

is_register-true : (f : FieldId) (to : To) → is_register f to ≡ true → to ≡ To.Register f
is_register-true f To.Nowhere e = cc
is_register-true f (To.Cell c) e = cc
is_register-true f (To.Register g) e = ap (λ f. To.Register f) (sym (same_field-true f g e))

pub put_in-has : (N : Intent) (f : FieldId) (n : NodeId) → put_in N f ≡ Some n → Has N.put (record { node = n; to = To.Register f })
put_in-has N f n e = go (find (λ (p : Put). is_register f p.to) N.put) refl e
  where
    go : (o : Option Put) → find (λ (p : Put). is_register f p.to) N.put ≡ o → option_map (λ (p : Put). p.node) o ≡ Some n → Has N.put (record { node = n; to = To.Register f })
    go None h e = cc
    go (Some p) h e =
        let r = first-has (λ (p : Put). is_register f p.to) N.put p h in
        let q : p.node ≡ n = cc in
        subst (Has N.put) (λ i. record { node = q i; to = is_register-true f p.to r.1 i }) r.0

pub has-put_in : (N : Intent) → IsIntent N → (n : NodeId) (f : FieldId) → Has N.put (record { node = n; to = To.Register f }) → put_in N f ≡ Some n
has-put_in N w n f h = go (find (λ (p : Put). is_register f p.to) N.put) refl
  where
    go : (o : Option Put) → find (λ (p : Put). is_register f p.to) N.put ≡ o → put_in N f ≡ Some n
    go None e = absurd (true-false (same_field-itself f) (none-has (λ (p : Put). is_register f p.to) N.put _ e h))
    go (Some p) e =
        let r = first-has (λ (p : Put). is_register f p.to) N.put p e in
        let same = distinct-filter_map (λ (p : Put). register_of p.to) N.put p (record { node = n; to = To.Register f }) f w.no_register_twice r.0 h (ap register_of (is_register-true f p.to r.1)) refl in
        ap (option_map (λ (p : Put). p.node)) e ∙ ap (λ (p : Put). Some p.node) same

-- a put into a register clears it
pub put_clears : (N : Intent) → IsIntent N → (n : NodeId) (f : FieldId) → Has N.put (record { node = n; to = To.Register f }) → clears N f ≡ true
put_clears N w n f h = all-has (λ (p : Put). IfSome (register_of p.to) (λ f. IsTrue (clears N f))) N.put (record { node = n; to = To.Register f }) w.cleared h

pub clears-has : (fs : List FieldId) (f : FieldId) → list_any (λ g. same_field g f) fs ≡ true → Has fs f
clears-has fs f e = let r = any-has (λ g. same_field g f) fs e in subst (Has fs) (same_field-true r.0 f r.2) r.1

-- ## Groups

pub anchor_is : (a b : Option CellId) → same_option same_cell a b ≡ true → a ≡ b
anchor_is None None e = refl
anchor_is None (Some d) e = cc
anchor_is (Some c) None e = cc
anchor_is (Some c) (Some d) e = ap (λ c. Some c) (same_cell-true c d e)

pub anchor_itself : (a : Option CellId) → same_option same_cell a a ≡ true
anchor_itself None = refl
anchor_itself (Some c) = same_cell-itself c

-- what is made at an anchor is of one group there
pub record IsMadeAt (N : Intent) (n : NodeId) (a : Option CellId) (o : Owned) : Type 0 where
  pub group : Group
  pub listed : Has N.groups group
  pub node : group.node ≡ n
  pub after : group.after ≡ a
  pub cell : Has group.cells o

pub group_at-group : (N : Intent) (n : NodeId) (a : Option CellId) (o : Owned) → Has (group_at N n a) o → IsMadeAt N n a o
group_at-group N n a o h = go (find (λ (g : Group). same_node g.node n && same_option same_cell g.after a) N.groups) refl h
  where
    go : (q : Option Group) → find (λ (g : Group). same_node g.node n && same_option same_cell g.after a) N.groups ≡ q → Has (group_at N n a) o → IsMadeAt N n a o
    go None e h = absurd (rw e at h)
    go (Some g) e h =
        let r = first-has (λ (g : Group). same_node g.node n && same_option same_cell g.after a) N.groups g e in
        let b = and-true _ _ r.1 in
        record { group = g; listed = r.0; node = same_node-true g.node n b.0; after = anchor_is g.after a b.1; cell = rw e at h }

-- a group is found at its anchor
pub group_found : (N : Intent) → IsIntent N → (g : Group) → Has N.groups g → group_at N g.node g.after ≡ g.cells
group_found N w g h = go (find (λ (k : Group). same_node k.node g.node && same_option same_cell k.after g.after) N.groups) refl
  where
    passes : (same_node g.node g.node && same_option same_cell g.after g.after) ≡ true
    passes = rw (same_node-itself g.node, anchor_itself g.after) refl

    go : (q : Option Group) → find (λ (k : Group). same_node k.node g.node && same_option same_cell k.after g.after) N.groups ≡ q → group_at N g.node g.after ≡ g.cells
    go None e = absurd (true-false passes (none-has (λ (k : Group). same_node k.node g.node && same_option same_cell k.after g.after) N.groups g e h))
    go (Some k) e =
        let r = first-has (λ (k : Group). same_node k.node g.node && same_option same_cell k.after g.after) N.groups k e in
        let b = and-true _ _ r.1 in
        let same = distinct-has {K = NodeId × Option CellId} (λ (g : Group). (g.node, g.after)) N.groups k g w.start_once r.0 h
        (λ i. (same_node-true k.node g.node b.0 i, anchor_is k.after g.after b.1 i)) in
        rw e (ap (λ (g : Group). g.cells) same)

-- a made cell has a row, which is that of its group
pub made_there : (N : Intent) (o : Owned) → Has (group_cells N) o → IsSome (new_row_of N o.cell)
made_there N o h = go (find (λ (g : Group). list_any (λ (p : Owned). same_cell p.cell o.cell) g.cells) N.groups) refl
  where
    go : (q : Option Group) → find (λ (g : Group). list_any (λ (p : Owned). same_cell p.cell o.cell) g.cells) N.groups ≡ q → IsSome (new_row_of N o.cell)
    go (Some g) e = rw e refl
    go None e =
        let r = has-flat_map (λ (g : Group). g.cells) N.groups o h in
        absurd (true-false (has-any (λ (p : Owned). same_cell p.cell o.cell) r.0.cells o r.2 (same_cell-itself o.cell)) (none-has (λ (g : Group). list_any (λ (p : Owned). same_cell p.cell o.cell) g.cells) N.groups r.0 e r.1))

pub new_row_of-group : (N : Intent) → IsIntent N → (g : Group) (o : Owned) → Has N.groups g → Has g.cells o → new_row_of N o.cell ≡ Some g.node
new_row_of-group N w g o h i = go (find (λ (g : Group). list_any (λ (p : Owned). same_cell p.cell o.cell) g.cells) N.groups) refl
  where
    go : (q : Option Group) → find (λ (g : Group). list_any (λ (p : Owned). same_cell p.cell o.cell) g.cells) N.groups ≡ q → new_row_of N o.cell ≡ Some g.node
    go None e = let there = made_there N o (flat_map-has (λ (g : Group). g.cells) N.groups g o h i) in let bad = rw e at there in cc
    go (Some k) e =
        let r = first-has (λ (g : Group). list_any (λ (p : Owned). same_cell p.cell o.cell) g.cells) N.groups k e in
        let p = any-has (λ (p : Owned). same_cell p.cell o.cell) k.cells r.1 in
        let same = one_list (λ (g : Group). g.cells) (λ (o : Owned). o.cell) N.groups k g p.0 o w.cell_once r.0 h p.1 i (same_cell-true p.0.cell o.cell p.2) in
        rw e (ap (λ (g : Group). Some g.node) same)

-- the group that makes a cell, with the cell in it
pub group-new_row_of : (N : Intent) (c : CellId) (n : NodeId) → new_row_of N c ≡ Some n → (g : Group) × Has N.groups g × (g.node ≡ n) × ((o : Owned) × Has g.cells o × (o.cell ≡ c))
group-new_row_of N c n e = go (find (λ (g : Group). list_any (λ (o : Owned). same_cell o.cell c) g.cells) N.groups) refl e
  where
    go : (q : Option Group) → find (λ (g : Group). list_any (λ (o : Owned). same_cell o.cell c) g.cells) N.groups ≡ q → option_map (λ (g : Group). g.node) q ≡ Some n
        → (g : Group) × Has N.groups g × (g.node ≡ n) × ((o : Owned) × Has g.cells o × (o.cell ≡ c))
    go None e h = cc
    go (Some g) e h =
        let r = first-has (λ (g : Group). list_any (λ (o : Owned). same_cell o.cell c) g.cells) N.groups g e in
        let p = any-has (λ (o : Owned). same_cell o.cell c) g.cells r.1 in
        let q : g.node ≡ n = cc in
        (g, r.0, q, (p.0, p.1, same_cell-true p.0.cell c p.2))
