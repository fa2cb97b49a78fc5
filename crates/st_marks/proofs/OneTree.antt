-- A document shows one tree.
use Rattle.std.proofs.Common.{◌≡◌, ℕ, Bool, List, Some, None, refl, sym, ap, ◌∙◌, subst}
use Rattle.std.specs.Cmp.Lexicographic.{nat_list_cmp_total}
use Rattle.std.proofs.lemmas.Map.Lookups.{exact_bytes}
use Rattle.serde_json.specs.Data.{Data, array, object, Items, item, Members, member}
use Rattle.serde_json.specs.Written.{compact_text}
use Rattle.st_ids.specs.declared.names.NodeId.{NodeId}
use Rattle.st_marks.specs.Document.{Document, NodeType}
use Rattle.st_ids.specs.Root.{root}
use Rattle.st_marks.specs.LiveTree.{Shows, shows_leaf, shows_row, shows_registers, ShowsItems, no_more_items, next_item, ShowsMembers, no_more_members, next_member, one_member, key_at, IsTreeText}
use Rattle.st_ids.specs.LeafText.{leaf_data}
use Rattle.st_marks.proofs.Unique.{one_list}
use Rattle.st_lemmas.proofs.Bools.{true-false}

module _ (is_array : List ℕ → Bool) (D : Document) where
  same_type : (n : NodeId) (t u : NodeType) → D.nodes n ≡ Some t → D.nodes n ≡ Some u → t ≡ u
  same_type n t u e f = let q : Some t ≡ Some u = sym e ∙ f in cc

  mutual
    one_tree_of : {n : NodeId} {d e : Data} → Shows is_array D n d → Shows is_array D n e → d ≡ e
    one_tree_of (shows_leaf n ty v p) (shows_leaf _ uy w q) = let t = same_type n _ _ p q in let o : Some v ≡ Some w = ap (λ (t : NodeType). t.leaf) t in let same : v ≡ w = cc in ap leaf_data same
    one_tree_of (shows_leaf n ty v p) (shows_row _ uy items q a s) = let t = same_type n _ _ p q in let o : Some v ≡ None = ap (λ (t : NodeType). t.leaf) t in cc
    one_tree_of (shows_leaf n ty v p) (shows_registers _ uy keys ms q a l s) = let t = same_type n _ _ p q in let o : Some v ≡ None = ap (λ (t : NodeType). t.leaf) t in cc
    one_tree_of (shows_row n ty items p a r) (shows_leaf _ uy w q) = let t = same_type n _ _ p q in let o : None ≡ Some w = ap (λ (t : NodeType). t.leaf) t in cc
    one_tree_of (shows_row n ty items p a r) (shows_row _ uy jtems q b s) =
        let t = same_type n _ _ p q in
        let name : ty ≡ uy = ap (λ (t : NodeType). t.ty) t in
        let same = one_items r s in
        λ i. one_member (name i) (array (same i))
    one_tree_of (shows_row n ty items p a r) (shows_registers _ uy keys ms q b l s) =
        let t = same_type n _ _ p q in
        let name : ty ≡ uy = ap (λ (t : NodeType). t.ty) t in
        absurd (true-false a (ap is_array name ∙ b))
    one_tree_of (shows_registers n ty keys ms p a l r) (shows_leaf _ uy w q) = let t = same_type n _ _ p q in let o : None ≡ Some w = ap (λ (t : NodeType). t.leaf) t in cc
    one_tree_of (shows_registers n ty keys ms p a l r) (shows_row _ uy items q b s) =
        let t = same_type n _ _ p q in
        let name : ty ≡ uy = ap (λ (t : NodeType). t.ty) t in
        absurd (true-false b (ap is_array (sym name) ∙ a))
    one_tree_of (shows_registers n ty keys ms p a l r) (shows_registers _ uy leys ns q b k s) =
        let t = same_type n _ _ p q in
        let name : ty ≡ uy = ap (λ (t : NodeType). t.ty) t in
        let listed : leys ≡ keys = one_list nat_list_cmp_total exact_bytes (λ (k : List ℕ). k) leys keys (key_at D n) (key_at D n) refl k l in
        let same = one_members r (subst (λ ks. ShowsMembers is_array D n ks ns) listed s) in
        λ i. one_member (name i) (object (same i))

    one_items : {ns : List NodeId} {is js : Items} → ShowsItems is_array D ns is → ShowsItems is_array D ns js → is ≡ js
    one_items no_more_items no_more_items = refl
    one_items (next_item n d ns ds a r) (next_item _ e _ es b s) = let h = one_tree_of a b in let t = one_items r s in λ i. item (h i) (t i)

    one_members : {n : NodeId} {ks : List (List ℕ)} {ms ns : Members} → ShowsMembers is_array D n ks ms → ShowsMembers is_array D n ks ns → ms ≡ ns
    one_members (no_more_members n) (no_more_members _) = refl
    one_members (next_member n m k d ks ms p a r) (next_member _ o _ e _ ns q b s) =
        let held : Some m ≡ Some o = sym p ∙ q in
        let same : o ≡ m = cc in
        let h = one_tree_of a (subst (λ m. Shows is_array D m e) same b) in
        let t = one_members r s in
        λ i. member k (h i) (t i)

  pub one_tree : (n : NodeId) (d e : Data) → Shows is_array D n d → Shows is_array D n e → d ≡ e
  one_tree n d e s t = one_tree_of s t

  pub one_text : (t u : List ℕ) → IsTreeText is_array D t → IsTreeText is_array D u → t ≡ u
  one_text t u s r = s.2 ∙ ap compact_text (one_tree root s.0 r.0 s.1 r.1) ∙ sym r.2
