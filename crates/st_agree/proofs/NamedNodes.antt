-- The nodes in marks, and those that are made.
use Rattle.std.proofs.Common.{◌≡◌, ◌<◌, ◌≤◌, ◌+◌, ◌||◌, ℕ, zero, suc, List, [], ◌∷◌, ◌++◌, length, take, get_or, refl, sym, ap, ◌∙◌}
use Rattle.std.specs.List.{flat_map, list_any}
use Rattle.std.specs.List.Sorted.{IsBinarySearchResult}
use Rattle.std.specs.Prelude.{MatchResult, Result, is_ok}
use Rattle.st_ids.specs.Listing.{IsRising}
use Rattle.st_ids.specs.Order.{node_cmp, same_node}
use Rattle.st_ids.specs.declared.names.NodeId.{NodeId}
use Rattle.st_ids.proofs.Orders.{node_cmp_exact, node_cmp_total}
use Rattle.st_marks.specs.declared.changes.NewNode.{NewNode}
use Rattle.st_marks.specs.declared.marks.Mark.{Mark}
use Rattle.st_marks.specs.Embedding.{is_among}
use Rattle.st_marks.specs.Listings.{nodes_in, nodes_new}
use Rattle.st_marks.specs.Row.{CellMark, counted_cells, spread}
use Rattle.st_ids.specs.declared.names.FieldId.{FieldId}
use Rattle.std.proofs.lemmas.List.{append-nil}
use Rattle.st_agree.specs.inside.Names.{made_again, node_of_mark}
use Rattle.st_clash.proofs.LeastFields.{flat_more}
use Rattle.st_clash.proofs.ItemSearch.{found_or_not}

counted_name : (k : ℕ) (xs : List CellMark) → nodes_in (counted_cells k xs) ≡ nodes_in xs
counted_name zero xs = refl
counted_name (suc k) xs = counted_name k xs

marks_name : (ms : List Mark) → nodes_in (spread ms) ≡ flat_map node_of_mark ms
marks_name [] = refl
marks_name (Mark.Skip k ∷ ms) = counted_name k (spread ms) ∙ marks_name ms
marks_name (Mark.Gap c ∷ ms) = marks_name ms
marks_name (Mark.Touch c n h ∷ ms) = ap (λ l. n ∷ l) (marks_name ms)
marks_name (Mark.Make c n b ∷ ms) = ap (λ l. n ∷ l) (marks_name ms)
marks_name (Mark.Fill c n ∷ ms) = ap (λ l. n ∷ l) (marks_name ms)

pub marks_more : (old before now : List NodeId) (ms : List Mark) (i : ℕ) (d m : Mark) → i < length ms → get_or ms i d ≡ m
    → before ≡ old ++ nodes_in (spread (take i ms)) → now ≡ before ++ node_of_mark m → now ≡ old ++ nodes_in (spread (take (i + 1) ms))
marks_more old before now ms i d m inside at so_far h =
    flat_more node_of_mark old before now ms i d m inside at (so_far ∙ ap (λ l. old ++ l) (marks_name (take i ms))) h
    ∙ ap (λ l. old ++ l) (sym (marks_name (take (i + 1) ms)))

among_new : (new : List NewNode) (n : NodeId) → is_among (nodes_new new) n ≡ list_any (λ (m : NewNode). same_node m.node n) new
among_new [] n = refl
among_new (m ∷ new) n = ap (λ b. same_node m.node n || b) (among_new new n)

pub made_or_not : (new : List NewNode) (n : NodeId) (r : Result ℕ ℕ) → IsRising node_cmp (λ (m : NewNode). m.node) new → MatchResult r (λ i. i < length new) (λ i. i ≤ length new)
    → IsBinarySearchResult (λ (m : NewNode). node_cmp m.node n) new r → is_ok r ≡ is_among (nodes_new new) n
unfolding same_node
made_or_not new n r h b s = found_or_not node_cmp node_cmp_total node_cmp_exact (λ (m : NewNode). m.node) new n r h b s ∙ sym (among_new new n)

-- where none is made, none is made again
pub none_made : (new : List NewNode) → length new ≡ 0 → (old : List FieldId) (names : List NodeId) → old ≡ old ++ flat_map (made_again new) names
none_made new e old names = sym (append-nil old) ∙ ap (λ l. old ++ l) (sym (none new e names))
  where
    none : (new : List NewNode) → length new ≡ 0 → (names : List NodeId) → flat_map (made_again new) names ≡ []
    none [] e [] = refl
    none [] e (n ∷ names) = none [] e names
    none (m ∷ new) e names = cc
