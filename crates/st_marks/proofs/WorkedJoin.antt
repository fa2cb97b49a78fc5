-- A worked case of joining: the second part of a commit inserts after a cell that the first part makes.
use Rattle.std.proofs.Common.{◌≡◌, ◌≢◌, Bool, true, false, ◌||◌, [], ◌∷◌, ◌++◌, Option, Some, None, cond, refl, sym, ap, subst, inl, inr, option_map, option_and_then}
use Rattle.std.specs.Option.{option_or}
use Rattle.st_ids.specs.Order.{same_node, same_cell}
use Rattle.st_ids.specs.declared.names.CellId.{CellId}
use Rattle.st_ids.specs.declared.names.NodeId.{NodeId}
use Rattle.st_ids.proofs.Orders.{same_node-true}
use Rattle.st_marks.specs.declared.intents.Group.{Group}
use Rattle.st_marks.specs.declared.intents.Intent.{Intent}
use Rattle.st_marks.specs.declared.intents.Put.{Put}
use Rattle.st_marks.specs.declared.intents.To.{To}
use Rattle.st_marks.specs.Document.{climb, content, owned_cell}
use Rattle.st_ids.specs.Root.{root}
use Rattle.st_marks.specs.Intent.{IsIntent, new_node, put_of, put_under, is_new, above_new, cells_of, group_at}
use Rattle.st_marks.specs.CarryOut.{full, with_groups}
use Rattle.st_marks.specs.Join.{IsJoin, IsOldAnchor, joined_put, put_unless_new, unless_cleared_by}
use Rattle.st_marks.proofs.Worked.{node, cell, old, old_cell, rev, full_cell, two, intent, new, group, inserts, puts, is_one}

-- the first part makes 1.1.0 after the old cell 0.0.0, the second 1.1.1 after the cell of 1.1.0
abbrev first : Intent
first = inserts 1 (Some (old_cell 0))

abbrev second : Intent
second = intent (rev 1 1) (new (node 1 1 1) ∷ []) (group root (Some (cell 1 1 0)) (cell 1 1 1) (node 1 1 1) ∷ []) [] (puts (node 1 1 1) (To.Cell (cell 1 1 1)) ∷ [])

-- both together make one group
abbrev both_cells : Group
both_cells = record { node = root; after = Some (old_cell 0); cells = owned_cell (cell 1 1 0) (node 1 1 0) ∷ owned_cell (cell 1 1 1) (node 1 1 1) ∷ [] }

abbrev both : Intent
both = intent (rev 1 1) (new (node 1 1 0) ∷ new (node 1 1 1) ∷ []) (both_cells ∷ []) [] (puts (node 1 1 1) (To.Cell (cell 1 1 1)) ∷ puts (node 1 1 0) (To.Cell (cell 1 1 0)) ∷ [])

-- the joined group, by the definition and by the documents
joined_group : group_at second root (Some (old_cell 0)) ++ with_groups second root (group_at first root (Some (old_cell 0))) ≡ both_cells.cells
unfolding same_node same_cell
joined_group = refl

row_in_turn : content (full (full two first) second) root
    ≡ full_cell (old_cell 0) (old 1) ∷ full_cell (cell 1 1 0) (node 1 1 0) ∷ full_cell (cell 1 1 1) (node 1 1 1) ∷ full_cell (old_cell 1) (old 2) ∷ []
unfolding same_node same_cell
row_in_turn = refl

row_of_both : content (full two both) root ≡ content (full (full two first) second) root
unfolding same_node same_cell
row_of_both = refl

-- ## It is the join

other_node : node 1 1 1 ≢ node 1 1 0
other_node e = let q : ◌≡◌ {A = Bool} true false = ap (λ (n : NodeId). is_one n.0.at) e in cc

other_cell : cell 1 1 1 ≢ cell 1 1 0
other_cell e = let q : ◌≡◌ {A = Bool} true false = ap (λ (c : CellId). is_one c.0.at) e in cc

-- no new node stands in a new node
puts_under_old : (t a b : Bool)
    → cond t (option_and_then (λ p. cond (is_new both p) (Some p) None) (put_under both (option_map (λ (p : Put). p.to) (cond a (Some (puts (node 1 1 1) (To.Cell (cell 1 1 1)))) (cond b (Some (puts (node 1 1 0) (To.Cell (cell 1 1 0)))) None))))) None ≡ None
unfolding same_node same_cell
puts_under_old false a b = refl
puts_under_old true true b = refl
puts_under_old true false true = refl
puts_under_old true false false = refl

nothing_above : (n : NodeId) → above_new both n ≡ None
nothing_above n = puts_under_old (is_new both n) (same_node (node 1 1 1) n) (same_node (node 1 1 0) n)

both_is_intent : IsIntent both
unfolding same_node same_cell
both_is_intent = record {
  new_rev = (refl, (refl, tt));
  new_once = ((other_node, tt), (tt, tt));
  cell_rev = (refl, (refl, tt));
  cell_once = ((other_cell, tt), (tt, tt));
  group_some = ((λ e. cc), tt);
  start_once = (tt, tt);
  anchor_once = (tt, tt);
  anchor_old = (refl, tt);
  owners = (inl refl, (inl refl, tt));
  root_stays = refl;
  put_once = (((λ e. other_node (sym e)), tt), (tt, tt));
  no_cell_twice = (((λ e. other_cell (sym e)), tt), (tt, tt));
  no_register_twice = tt;
  new_somewhere = ((λ h e. cc), ((λ h e. cc), tt));
  cleared = (tt, (tt, tt));
  register_keys = tt;
  need_old = tt;
  no_ring = λ n. (1, ap (option_and_then (climb (above_new both) 0)) (nothing_above n));
  schema_alone = tt;
}

at_root : (a : Option CellId) → IsOldAnchor first a → group_at both root a ≡ group_at second root a ++ with_groups second root (group_at first root a)
unfolding same_node same_cell
at_root None h = refl
at_root (Some c) h = go (same_cell (old_cell 0) c) (same_cell (cell 1 1 0) c) h
  where
    go : (s t : Bool) → option_map (λ (g : Group). g.node) (cond (t || false) (Some (group root (Some (old_cell 0)) (cell 1 1 0) (node 1 1 0))) None) ≡ None
        → cells_of (cond s (Some both_cells) None)
        ≡ cells_of (cond t (Some (group root (Some (cell 1 1 0)) (cell 1 1 1) (node 1 1 1))) None)
        ++ with_groups second root (cells_of (cond s (Some (group root (Some (old_cell 0)) (cell 1 1 0) (node 1 1 0))) None))
    go s true h = cc
    go true false h = refl
    go false false h = refl

joined_groups : (n : NodeId) (a : Option CellId) → IsOldAnchor first a → group_at both n a ≡ group_at second n a ++ with_groups second n (group_at first n a)
joined_groups n a h = go (same_node root n) refl
  where
    go : (r : Bool) → same_node root n ≡ r → group_at both n a ≡ group_at second n a ++ with_groups second n (group_at first n a)
    go true e = subst (λ n. group_at both n a ≡ group_at second n a ++ with_groups second n (group_at first n a)) (same_node-true root n e) (at_root a h)
    go false e = rw e refl

joined_nodes : (n : NodeId) → new_node both n ≡ option_or (new_node first n) (new_node second n)
joined_nodes n = go (same_node (node 1 1 0) n) (same_node (node 1 1 1) n)
  where
    go : (a b : Bool) → cond a (Some (new (node 1 1 0))) (cond b (Some (new (node 1 1 1))) None) ≡ option_or (cond a (Some (new (node 1 1 0))) None) (cond b (Some (new (node 1 1 1))) None)
    go true b = refl
    go false true = refl
    go false false = refl

joined_puts : (n : NodeId) → put_of both n ≡ joined_put first second n
joined_puts n = go (is_new first n) (same_node (node 1 1 1) n) (same_node (node 1 1 0) n)
  where
    go : (t a b : Bool)
        → option_map (λ (p : Put). p.to) (cond a (Some (puts (node 1 1 1) (To.Cell (cell 1 1 1)))) (cond b (Some (puts (node 1 1 0) (To.Cell (cell 1 1 0)))) None))
        ≡ option_and_then (put_unless_new t)
        (option_or (option_map (λ (p : Put). p.to) (cond a (Some (puts (node 1 1 1) (To.Cell (cell 1 1 1)))) None))
        (option_map (unless_cleared_by second) (option_map (λ (p : Put). p.to) (cond b (Some (puts (node 1 1 0) (To.Cell (cell 1 1 0)))) None))))
    go t true b = refl
    go t false true = refl
    go t false false = refl

both_is_join : IsJoin first second both
both_is_join = record {
  itself = both_is_intent;
  rev = refl;
  under = refl;
  no_schema = refl;
  new_nodes = joined_nodes;
  groups = joined_groups;
  puts = joined_puts;
  clears_both = λ f. refl;
  needs = λ n. ((λ h. absurd h), (λ h. elim h [ inl q ↦ absurd q | inr q ↦ absurd q.0 ]));
}
