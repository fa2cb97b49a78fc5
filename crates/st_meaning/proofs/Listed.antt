-- Puts and groups that are listed from the entries of maps.
use Rattle.std.proofs.Common.{◌≡◌, ◌≢◌, ◌&&◌, List, [], ◌∷◌, Option, Some, None, option_map, option_and_then, unwrap_or, refl, sym, ap, ◌∙◌}
use Rattle.std.specs.BTreeMap.{is_at}
use Rattle.std.specs.List.{AllByRecursion, filter_map}
use Rattle.std.specs.List.Sorted.{IsStrictlySortedBy}
use Rattle.std.specs.Map.{keys_of, lookup}
use Rattle.st_ids.specs.Listing.{IsRising}
use Rattle.st_ids.specs.Order.{node_cmp, same_node}
use Rattle.st_ids.specs.declared.names.CellId.{CellId}
use Rattle.st_ids.specs.declared.names.NodeId.{NodeId}
use Rattle.st_ids.proofs.Orders.{node_cmp_exact, node_cmp_total, same_node-itself, same_node-true}
use Rattle.st_ids.proofs.Shared.{filter-from}
use Rattle.st_marks.specs.declared.intents.Group.{Group}
use Rattle.st_marks.specs.declared.intents.Owned.{Owned}
use Rattle.st_marks.specs.declared.intents.Put.{Put}
use Rattle.st_marks.specs.declared.intents.To.{To}
use Rattle.st_marks.specs.Intent.{cells_of, same_anchor}
use Rattle.st_marks.proofs.Lookups.{anchor_is, anchor_itself}
use Rattle.st_marks.proofs.Members.{has-all}
use Rattle.st_lemmas.proofs.Bools.{and-both, and-true}
use Rattle.st_meaning.specs.InOrder.{place_cmp, place_of}
use Rattle.st_meaning.specs.inside.Made.{group_here, made_at, put_by}
use Rattle.st_meaning.proofs.Entries.{found, found_by, rising}
use Rattle.st_meaning.proofs.PlaceOrder.{place_exact, place_total}

-- ## Puts

abbrev pub put_entry : NodeId × To → Option Put
put_entry e = Some (record { node = e.0; to = e.1 })

put_named : (e : NodeId × To) (p : Put) → put_entry e ≡ Some p → p.node ≡ e.0
put_named e p q = cc

pub puts_rise : (es : List (NodeId × To)) → IsStrictlySortedBy node_cmp (keys_of es) → IsRising node_cmp (λ (p : Put). p.node) (filter_map put_entry es)
puts_rise es s = rising node_cmp node_cmp_total node_cmp_exact (λ (p : Put). p.node) put_entry put_named es s

pub puts_found : (es : List (NodeId × To)) (n : NodeId) → IsStrictlySortedBy node_cmp (keys_of es) → put_by (filter_map put_entry es) n ≡ lookup (is_at (node_cmp n)) es
puts_found es n s =
    ap (option_map (λ (p : Put). p.to)) (found_by node_cmp node_cmp_total node_cmp_exact (λ (p : Put). p.node) (λ (p : Put). same_node p.node n) n
    (λ p t. same_node-true p.node n t) (λ p i. ap (λ k. same_node k n) i ∙ same_node-itself n) (filter_map put_entry es)
    ∙ found node_cmp node_cmp_total node_cmp_exact (λ (p : Put). p.node) put_entry put_named es n s)
    ∙ same (lookup (is_at (node_cmp n)) es)
  where
    same : (o : Option To) → option_map (λ (p : Put). p.to) (option_and_then (λ v. put_entry (n, v)) o) ≡ o
    same None = refl
    same (Some t) = refl

-- ## Groups

abbrev pub group_entry : (NodeId × Option CellId) × List Owned → Option Group
group_entry e = group_here e.0.0 e.0.1 e.1

group_named : (e : (NodeId × Option CellId) × List Owned) (g : Group) → group_entry e ≡ Some g → ◌≡◌ {A = NodeId × Option CellId} (place_of g) e.0
group_named e g q = go e.1 q
  where
    go : (os : List Owned) → group_here e.0.0 e.0.1 os ≡ Some g → ◌≡◌ {A = NodeId × Option CellId} (place_of g) e.0
    go [] q = cc
    go (o ∷ os) q =
        let n : g.node ≡ e.0.0 = cc in
        let a : g.after ≡ e.0.1 = cc in
        λ i. (n i, a i)

group_some : (n : NodeId) (a : Option CellId) (os : List Owned) (g : Group) → group_here n a os ≡ Some g → g.cells ≢ []
group_some n a [] g q e = cc
group_some n a (o ∷ os) g q e = let c : g.cells ≡ o ∷ os = cc in let bad : o ∷ os ≡ [] = sym c ∙ e in cc

pub groups_rise : (es : List ((NodeId × Option CellId) × List Owned)) → IsStrictlySortedBy place_cmp (keys_of es) → IsRising place_cmp place_of (filter_map group_entry es)
groups_rise es s = rising place_cmp place_total place_exact place_of group_entry group_named es s

pub groups_some : (es : List ((NodeId × Option CellId) × List Owned)) → AllByRecursion (λ (g : Group). g.cells ≢ []) (filter_map group_entry es)
groups_some es = has-all (λ (g : Group). g.cells ≢ []) (filter_map group_entry es) (λ g h. let r = filter-from group_entry es g h in group_some r.0.0.0 r.0.0.1 r.0.1 g r.2)

pub groups_found : (es : List ((NodeId × Option CellId) × List Owned)) (n : NodeId) (a : Option CellId) → IsStrictlySortedBy place_cmp (keys_of es) → made_at (filter_map group_entry es) n a ≡ unwrap_or (lookup (is_at (place_cmp (n, a))) es) []
groups_found es n a s =
    ap cells_of (found_by place_cmp place_total place_exact place_of (λ (g : Group). same_node g.node n && same_anchor g.after a) (n, a)
    (λ g t. let b = and-true _ _ t in λ i. (same_node-true g.node n b.0 i, anchor_is g.after a b.1 i))
    (λ g i. and-both _ _ (ap (λ (p : NodeId × Option CellId). same_node p.0 n) i ∙ same_node-itself n) (ap (λ (p : NodeId × Option CellId). same_anchor p.1 a) i ∙ anchor_itself a))
    (filter_map group_entry es)
    ∙ found place_cmp place_total place_exact place_of group_entry group_named es (n, a) s)
    ∙ same (lookup (is_at (place_cmp (n, a))) es)
  where
    here : (os : List Owned) → cells_of (group_here n a os) ≡ os
    here [] = refl
    here (o ∷ os) = refl

    same : (o : Option (List Owned)) → cells_of (option_and_then (λ v. group_entry ((n, a), v)) o) ≡ unwrap_or o []
    same None = refl
    same (Some os) = here os
