-- Documents that are alike from a node downwards show one tree there.
use Rattle.std.proofs.Common.{◌≡◌, ℕ, Bool, List, Option, Some, None, is_some, cond, refl, sym, ap, ◌∙◌, subst, inl, inr}
use Rattle.std.specs.Ordering.{nat_cmp}
use Rattle.std.specs.Cmp.Lexicographic.{slice_cmp}
use Rattle.serde_json.specs.Data.{Data, Items, Members}
use Rattle.st_ids.specs.Listing.{Has, IsListing}
use Rattle.st_ids.specs.declared.names.NodeId.{NodeId}
use Rattle.st_marks.specs.Document.{Document, IsSoundInForm}
use Rattle.st_marks.specs.LiveTree.{Shows, shows_leaf, shows_row, shows_registers, ShowsItems, no_more_items, next_item, ShowsMembers, no_more_members, next_member, register, key_at}
use Rattle.st_schema_laws.specs.Alike.{AreAlikeFrom}
use Rattle.st_schema_laws.proofs.Beneath.{row_above, held_above, from_child}

-- the keys of registers that hold a node are the same where the registers hold the same
pub same_keys : (D E : Document) (n : NodeId) (keys : List (List ℕ)) → ((k : List ℕ) → E.held (register n k) ≡ D.held (register n k)) → IsListing (slice_cmp nat_cmp) (λ (k : List ℕ). k) keys (key_at D n)
    → IsListing (slice_cmp nat_cmp) (λ (k : List ℕ). k) keys (key_at E n)
same_keys D E n keys same l = record { rising = l.rising; at_each = λ k. l.at_each k ∙ ap (λ (o : Option NodeId). cond (is_some o) (Some k) None) (sym (same k)) }

module _ (is_array : List ℕ → Bool) (D E : Document) (sound : IsSoundInForm D) where
  mutual
    same_tree : {n : NodeId} {d : Data} → Shows is_array D n d → AreAlikeFrom D E n → Shows is_array E n d
    same_tree (shows_leaf n ty v p) alike = shows_leaf n ty v ((alike n (ap is_some p) (0, refl)).node _ p)
    same_tree (shows_row n ty items p a s) alike =
        let here = alike n (ap is_some p) (0, refl) in
        shows_row n ty items (here.node _ p) a
        (subst (λ ns. ShowsItems is_array E ns items) (sym here.row)
        (same_items s (λ x h y there w. alike y there (from_child D sound n x y (row_above D sound n x h) w))))
    same_tree (shows_registers n ty keys ms p a l s) alike =
        let here = alike n (ap is_some p) (0, refl) in
        shows_registers n ty keys ms (here.node _ p) a (same_keys D E n keys here.held l)
        (same_members s here.held (λ x k h y there w. alike y there (from_child D sound n x y (held_above D sound n x k h) w)))

    same_items : {ns : List NodeId} {ds : Items} → ShowsItems is_array D ns ds → ((x : NodeId) → Has ns x → AreAlikeFrom D E x) → ShowsItems is_array E ns ds
    same_items no_more_items alike = no_more_items
    same_items (next_item n d ns ds a s) alike = next_item n d ns ds (same_tree a (alike n (inl refl))) (same_items s (λ x h. alike x (inr h)))

    same_members : {n : NodeId} {ks : List (List ℕ)} {ms : Members} → ShowsMembers is_array D n ks ms → ((k : List ℕ) → E.held (register n k) ≡ D.held (register n k))
        → ((x : NodeId) (k : List ℕ) → D.held (register n k) ≡ Some x → AreAlikeFrom D E x) → ShowsMembers is_array E n ks ms
    same_members (no_more_members n) held alike = no_more_members n
    same_members (next_member n m k d ks ms p a s) held alike = next_member n m k d ks ms (held k ∙ p) (same_tree a (alike m k p)) (same_members s held alike)

  pub same_below : (n : NodeId) (d : Data) → AreAlikeFrom D E n → Shows is_array D n d → Shows is_array E n d
  same_below n d alike s = same_tree s alike
