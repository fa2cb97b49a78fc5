-- The rows of new array nodes, read off a map of all rows.
use Rattle.std.proofs.Common.{◌≡◌, ℕ, ◌+◌, ◌<◌, Bool, true, false, cond, List, ◌++◌, length, drop, get_or, Option, Some, None, refl, sym, ap, ◌∙◌, append_assoc}
use Rattle.std.specs.List.{cons_option, filter_map}
use Rattle.std.specs.Option.{option_to_list}
use Rattle.st_ids.specs.Order.{same_node}
use Rattle.st_ids.specs.declared.names.NodeId.{NodeId}
use Rattle.st_tree.specs.declared.flat.FlatAt.{FlatAt}
use Rattle.st_tree.specs.declared.flat.FlatNode.{FlatNode}
use Rattle.st_marks.specs.declared.intents.Group.{Group}
use Rattle.st_marks.specs.declared.intents.Owned.{Owned}
use Rattle.st_marks.specs.Document.{owned_cell}
use Rattle.st_opening.specs.Start.{cell_at}
use Rattle.st_doc.proofs.Look.{drop_one}
use Rattle.st_edits.specs.New.{cells_under, group_of, group_under, owned_by, row_cell}

pub same_cells : (xs : List FlatNode) (n : NodeId) → filter_map (λ (x : FlatNode). cell_at n x.node x.at) xs ≡ cells_under xs n
same_cells xs n = λ i. filter_map (λ (x : FlatNode). one x.node x.at i) xs
  where
    one : (m : NodeId) (at : FlatAt) → cell_at n m at ≡ owned_by m (row_cell n at)
    one m FlatAt.Root = refl
    one m (FlatAt.Top c) = refl
    one m (FlatAt.Row r c) = go (same_node r n)
      where
        go : (b : Bool) → cond b (Some (owned_cell c m)) None ≡ owned_by m (cond b (Some c) None)
        go true = refl
        go false = refl
    one m (FlatAt.Register f) = refl

-- one node more
pub more_groups : (nodes : List FlatNode) (i : ℕ) (x : FlatNode) (cells : List Owned) (before now whole : List Group) → i < length nodes → get_or nodes i x ≡ x → cells ≡ cells_under nodes x.node
    → now ≡ before ++ option_to_list (cond x.row (group_of x.node None cells) None)
    → before ++ filter_map (group_under nodes) (drop i nodes) ≡ whole → now ++ filter_map (group_under nodes) (drop (i + 1) nodes) ≡ whole
more_groups nodes i x cells before now whole inside at under pushed so_far =
    ap (λ l. l ++ rest) (pushed ∙ ap (λ cs. before ++ option_to_list (cond x.row (group_of x.node None cs) None)) under)
    ∙ append_assoc before (option_to_list (group_under nodes x)) rest ∙ ap (λ l. before ++ l) (one (group_under nodes x))
    ∙ ap (λ l. before ++ filter_map (group_under nodes) l) (sym (drop_one nodes i x x inside at)) ∙ so_far
  where
    rest : List Group
    rest = filter_map (group_under nodes) (drop (i + 1) nodes)

    one : (o : Option Group) → option_to_list o ++ rest ≡ cons_option o rest
    one None = refl
    one (Some g) = refl
