-- An intent whose lists stand in order obeys the rules where one that looks alike does.
use Rattle.std.proofs.Common.{ℕ, ◌≡◌, ◌≢◌, false, ◌&&◌, List, [], ◌∷◌, Option, Some, None, IsSome, IsTrue, IfSome, cond, option_map, option_and_then, is_some, refl, sym, ap, ◌∙◌, subst, inl, inr, ◌⊎◌}
use mathlib.Core.Path.{fun_ext}
use Rattle.st_ids.specs.Listing.{AreDistinct, Has}
use Rattle.st_ids.specs.Order.{node_cmp, same_field, same_node}
use Rattle.st_ids.specs.Root.{root}
use Rattle.st_ids.specs.declared.names.CellId.{CellId}
use Rattle.st_ids.specs.declared.names.FieldId.{FieldId}
use Rattle.st_ids.specs.declared.names.NodeId.{NodeId}
use Rattle.st_ids.proofs.Orders.{node_cmp_total, same_field-itself, same_node-itself, same_node-true}
use Rattle.st_ids.proofs.Shared.{no_members}
use Rattle.st_marks.specs.declared.changes.NewNode.{NewNode}
use Rattle.st_marks.specs.declared.intents.Group.{Group}
use Rattle.st_marks.specs.declared.intents.Intent.{Intent}
use Rattle.st_marks.specs.declared.intents.Owned.{Owned}
use Rattle.st_marks.specs.declared.intents.Put.{Put}
use Rattle.st_marks.specs.declared.intents.To.{To}
use Rattle.st_marks.specs.Document.{ClimbsToAnEnd, NodeType}
use Rattle.st_marks.specs.Intent.{IsIntent, above_new, cell_of, cells_of, clears, group_at, group_cells, is_new, new_row_of, put_of, put_under, register_of, same_anchor}
use Rattle.st_marks.proofs.Lookups.{IsMadeAt, anchor_is, anchor_itself, clears-has, group-new_row_of, group_at-group, group_found, made_there, new_row_of-group, put-has}
use Rattle.st_marks.proofs.Members.{all-has, distinct-filter_map, first-distinct, first-has, flat_map-has, has-all, has-any, has-flat_map, list_distinct, one_list}
use Rattle.st_puts.proofs.Groups.{distinct-flat}
use Rattle.st_puts.proofs.MeaningFits.{once-filter_map, rising_distinct}
use Rattle.st_same_laws.specs.Same.{LooksAlike}
use Rattle.st_lemmas.proofs.Bools.{and-both, and-true}
use Rattle.st_meaning.specs.InOrder.{IsInOrder, place_cmp, place_of}
use Rattle.st_meaning.proofs.PlaceOrder.{place_total}

if_also : {A : Type 0} (o : Option A) (P Q : A → Type 0) → ((x : A) → P x → Q x) → IfSome o P → IfSome o Q
if_also None P Q f h = tt
if_also (Some x) P Q f h = f x h

-- a group is one of an intent's
record IsGroupOf (N : Intent) (g : Group) : Type 0 where
  pub group : Group
  pub listed : Has N.groups group
  pub node : group.node ≡ g.node
  pub after : group.after ≡ g.after
  pub cells : group.cells ≡ g.cells

module _ (N M : Intent) (w : IsIntent N) (s : LooksAlike N M) (o : IsInOrder M) where
  new_once : AreDistinct (λ (m : NewNode). m.node) M.new
  new_once = rising_distinct node_cmp node_cmp_total (λ (m : NewNode). m.node) M.new o.new

  put_once : AreDistinct (λ (p : Put). p.node) M.put
  put_once = rising_distinct node_cmp node_cmp_total (λ (p : Put). p.node) M.put o.put

  start_once : AreDistinct {K = NodeId × Option CellId} place_of M.groups
  start_once = rising_distinct place_cmp place_total place_of M.groups o.groups

  new_same : (n : NodeId) → is_new N n ≡ is_new M n
  new_same n = ap (λ (o : Option NewNode). is_some (option_map (λ (m : NewNode). let t : NodeType = record { ty = m.ty; leaf = m.leaf } in t) o)) (s.new n)

  -- ## What is listed is listed by the other too

  pub new_too : (m : NewNode) → Has M.new m → Has N.new m
  new_too m h =
      (first-has (λ (k : NewNode). same_node k.node m.node) N.new m (s.new m.node
      ∙ first-distinct (λ (k : NewNode). k.node) M.new (λ (k : NewNode). same_node k.node m.node) m new_once h (same_node-itself m.node) (λ k t. same_node-true k.node m.node t))).0

  pub put_too : (p : Put) → Has M.put p → Has N.put p
  put_too p h = put-has N p.node p.to (s.puts p.node
      ∙ ap (option_map (λ (p : Put). p.to)) (first-distinct (λ (p : Put). p.node) M.put (λ (q : Put). same_node q.node p.node) p put_once h (same_node-itself p.node) (λ q t. same_node-true q.node p.node t)))

  pub clear_too : (f : FieldId) → Has M.clear f → Has N.clear f
  clear_too f h = clears-has N.clear f (s.clear f ∙ has-any (λ g. same_field g f) M.clear f h (same_field-itself f))

  pub need_too : (n : NodeId) → Has M.need n → Has N.need n
  need_too n h = (s.needs n).1 h

  cells_here : (g : Group) → Has M.groups g → group_at N g.node g.after ≡ g.cells
  cells_here g h = s.groups g.node g.after ∙ ap cells_of (first-distinct {K = NodeId × Option CellId} place_of M.groups (λ (k : Group). same_node k.node g.node && same_anchor k.after g.after) g start_once h
      (and-both _ _ (same_node-itself g.node) (anchor_itself g.after))
      (λ k t. let b = and-true _ _ t in λ i. (same_node-true k.node g.node b.0 i, anchor_is k.after g.after b.1 i)))

  group_too : (g : Group) → Has M.groups g → IsGroupOf N g
  group_too g h = go g.cells refl (all-has (λ (g : Group). g.cells ≢ []) M.groups g o.groups_some h)
    where
      go : (os : List Owned) → g.cells ≡ os → g.cells ≢ [] → IsGroupOf N g
      go [] e some = absurd (some e)
      go (p ∷ os) e some =
          let made : IsMadeAt N g.node g.after p = group_at-group N g.node g.after p (subst (λ (l : List Owned). Has l p) (sym (cells_here g h ∙ e)) (inl refl)) in
          record {
            group = made.group;
            listed = made.listed;
            node = made.node;
            after = made.after;
            cells = sym (group_found N w made.group made.listed) ∙ (λ i. group_at N (made.node i) (made.after i)) ∙ cells_here g h;
          }

  pub group_listed : (g : Group) → Has M.groups g → Has N.groups g
  group_listed g h =
      let k = group_too g h in
      subst (Has N.groups) (λ i. record { node = k.node i; after = k.after i; cells = k.cells i }) k.listed

  cell_too : (p : Owned) → Has (group_cells M) p → Has (group_cells N) p
  cell_too p h =
      let g = has-flat_map (λ (g : Group). g.cells) M.groups p h in
      let k = group_too g.0 g.1 in
      flat_map-has (λ (g : Group). g.cells) N.groups k.group p k.listed (subst (λ (l : List Owned). Has l p) (sym k.cells) g.2)

  -- groups of one group are at one place
  one_place : (y z : Group) → (a : IsGroupOf N y) (b : IsGroupOf N z) → a.group ≡ b.group → ◌≡◌ {A = NodeId × Option CellId} (place_of z) (place_of y)
  one_place y z a b e =
      let n = sym b.node ∙ ap (λ (g : Group). g.node) (sym e) ∙ a.node in
      let c = sym b.after ∙ ap (λ (g : Group). g.after) (sym e) ∙ a.after in
      λ i. (n i, c i)

  -- ## Rows of new cells

  row_there : (c : CellId) (r : NodeId) → new_row_of M c ≡ Some r → new_row_of N c ≡ Some r
  row_there c r e =
      let g = group-new_row_of M c r e in
      let k = group_too g.0 g.1 in
      let p = g.3.0 in
      ap (new_row_of N) (sym g.3.2) ∙ new_row_of-group N w k.group p k.listed (subst (λ (l : List Owned). Has l p) (sym k.cells) g.3.1) ∙ ap (λ n. Some n) (k.node ∙ g.2)

  row_some : (c : CellId) (r : NodeId) → new_row_of N c ≡ Some r → IsSome (new_row_of M c)
  row_some c r e =
      let g = group-new_row_of N c r e in
      let p = g.3.0 in
      let in_n : Has (group_at N g.0.node g.0.after) p = subst (λ (l : List Owned). Has l p) (sym (group_found N w g.0 g.1)) g.3.1 in
      let made : IsMadeAt M g.0.node g.0.after p = group_at-group M g.0.node g.0.after p (subst (λ (l : List Owned). Has l p) (s.groups g.0.node g.0.after) in_n) in
      subst (λ (c : CellId). IsSome (new_row_of M c)) g.3.2 (made_there M p (flat_map-has (λ (g : Group). g.cells) M.groups made.group p made.listed made.cell))

  row_same : (c : CellId) → new_row_of N c ≡ new_row_of M c
  row_same c = go (new_row_of M c) refl (new_row_of N c) refl
    where
      go : (q : Option NodeId) → new_row_of M c ≡ q → (p : Option NodeId) → new_row_of N c ≡ p → new_row_of N c ≡ new_row_of M c
      go (Some r) e p f = row_there c r e ∙ sym e
      go None e None f = f ∙ sym e
      go None e (Some r) f = let there = row_some c r f in let bad = rw e at there in cc

  under_same : (q : Option To) → put_under N q ≡ put_under M q
  under_same None = refl
  under_same (Some To.Nowhere) = refl
  under_same (Some (To.Cell c)) = row_same c
  under_same (Some (To.Register f)) = refl

  above_same : (n : NodeId) → above_new N n ≡ above_new M n
  above_same n = (λ i. cond (new_same n i) (option_and_then (λ p. cond (is_new N p) (Some p) None) (put_under N (s.puts n i))) None)
      ∙ ap (λ q. cond (is_new M n) (option_and_then (λ p. cond (is_new N p) (Some p) None) q) None) (under_same (put_of M n))
      ∙ ap (λ k. cond (is_new M n) (option_and_then k (put_under M (put_of M n))) None) (fun_ext (λ p. ap (λ b. cond b (Some p) None) (new_same p)))

  -- ## All of it

  empty_too : {A : Type 0} (xs ys : List A) → ((x : A) → Has ys x → Has xs x) → xs ≡ [] → ys ≡ []
  empty_too xs ys f e = no_members ys (λ x h. subst (λ l. Has l x) e (f x h))

  pub ordered_is_intent : IsIntent M
  ordered_is_intent = record {
    new_rev = has-all _ M.new (λ m h. all-has (λ (m : NewNode). m.node.0.rev ≡ N.rev) N.new m w.new_rev (new_too m h) ∙ s.rev);
    new_once = new_once;
    cell_rev = has-all _ (group_cells M) (λ p h. all-has (λ (p : Owned). p.cell.0.rev ≡ N.rev) (group_cells N) p w.cell_rev (cell_too p h) ∙ s.rev);
    cell_once = distinct-flat {J = NodeId × Option CellId} (λ (p : Owned). p.cell) (λ (g : Group). g.cells) place_of M.groups start_once
        (λ g h. let k = group_too g h in subst (AreDistinct (λ (p : Owned). p.cell)) k.cells (list_distinct (λ (g : Group). g.cells) (λ (p : Owned). p.cell) N.groups k.group w.cell_once k.listed))
        (λ y z a b h i j l e.
        let p = group_too y h in
        let q = group_too z i in
        one_place y z p q (one_list (λ (g : Group). g.cells) (λ (p : Owned). p.cell) N.groups p.group q.group a b w.cell_once p.listed q.listed (subst (λ (l : List Owned). Has l a) (sym p.cells) j) (subst (λ (l : List Owned). Has l b) (sym q.cells) l) (sym e)));
    group_some = o.groups_some;
    start_once = start_once;
    anchor_once = once-filter_map {J = NodeId × Option CellId} (λ (g : Group). g.after) place_of M.groups start_once (λ y z c h i e f.
        let p = group_too y h in
        let q = group_too z i in
        one_place y z p q (distinct-filter_map (λ (g : Group). g.after) N.groups p.group q.group c w.anchor_once p.listed q.listed (p.after ∙ e) (q.after ∙ f)));
    anchor_old = has-all _ M.groups (λ g h.
        let k = group_too g h in
        let old : IfSome k.group.after (λ c. new_row_of N c ≡ None) = all-has (λ (g : Group). IfSome g.after (λ c. new_row_of N c ≡ None)) N.groups k.group w.anchor_old k.listed in
        if_also g.after (λ c. new_row_of N c ≡ None) (λ c. new_row_of M c ≡ None) (λ c e. sym (row_same c) ∙ e) (subst (λ (a : Option CellId). IfSome a (λ c. new_row_of N c ≡ None)) k.after old));
    owners = has-all _ (group_cells M) (λ p h. elim (all-has (λ (p : Owned). IsTrue (is_new N p.node) ⊎ IsSome (put_of N p.node)) (group_cells N) p w.owners (cell_too p h)) [
      | inl t ↦ inl (sym (new_same p.node) ∙ t)
      | inr t ↦ inr (subst (λ (q : Option To). IsSome q) (s.puts p.node) t)
    ]);
    root_stays = sym (s.puts root) ∙ w.root_stays;
    put_once = put_once;
    no_cell_twice = once-filter_map (λ (p : Put). cell_of p.to) (λ (p : Put). p.node) M.put put_once (λ y z c h i e f.
        ap (λ (p : Put). p.node) (distinct-filter_map (λ (p : Put). cell_of p.to) N.put z y c w.no_cell_twice (put_too z i) (put_too y h) f e));
    no_register_twice = once-filter_map (λ (p : Put). register_of p.to) (λ (p : Put). p.node) M.put put_once (λ y z c h i e f.
        ap (λ (p : Put). p.node) (distinct-filter_map (λ (p : Put). register_of p.to) N.put z y c w.no_register_twice (put_too z i) (put_too y h) f e));
    new_somewhere = has-all _ M.put (λ p h t. all-has (λ (p : Put). IsTrue (is_new N p.node) → p.to ≢ To.Nowhere) N.put p w.new_somewhere (put_too p h) (new_same p.node ∙ t));
    cleared = has-all _ M.put (λ p h. if_also (register_of p.to) (λ f. IsTrue (clears N f)) (λ f. IsTrue (clears M f)) (λ f t. sym (s.clear f) ∙ t)
        (all-has (λ (p : Put). IfSome (register_of p.to) (λ f. IsTrue (clears N f))) N.put p w.cleared (put_too p h)));
    register_keys = has-all _ M.clear (λ f h. all-has (λ (f : FieldId). f.key.0 ≢ []) N.clear f w.register_keys (clear_too f h));
    need_old = has-all _ M.need (λ n h. sym (new_same n) ∙ all-has (λ n. is_new N n ≡ false) N.need n w.need_old (need_too n h));
    no_ring = λ n. subst (λ (f : NodeId → Option NodeId). ClimbsToAnEnd f n) (fun_ext above_same) (w.no_ring n);
    schema_alone = subst (λ (q : Option (List ℕ)). IfSome q (λ _. (M.new ≡ []) × (M.groups ≡ []) × (M.clear ≡ []) × (M.put ≡ []) × (M.need ≡ []))) s.schema
        (if_also N.schema (λ _. (N.new ≡ []) × (N.groups ≡ []) × (N.clear ≡ []) × (N.put ≡ []) × (N.need ≡ [])) (λ _. (M.new ≡ []) × (M.groups ≡ []) × (M.clear ≡ []) × (M.put ≡ []) × (M.need ≡ [])) (λ t e. (
          empty_too N.new M.new new_too e.0,
          no_members M.groups (λ g h. let k = group_too g h in subst (λ l. Has l k.group) e.1 k.listed),
          empty_too N.clear M.clear clear_too e.2,
          empty_too N.put M.put put_too e.3,
          empty_too N.need M.need need_too e.4,
        )) w.schema_alone);
  }
