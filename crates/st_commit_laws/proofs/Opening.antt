-- The opening document can be told: its names are numbered below the number of nodes that a tree may have, and its keys are
-- those of fields that its schema has.
use Rattle.std.proofs.Common.{◌≡◌, ◌<◌, ◌≤◌, ℕ, Bool, true, false, cond, not, ◌∷◌, nat_lt, List, [], Option, Some, None, IsSome, Result, Ok, Err, refl, subst, inl, inr, arith}
use Rattle.std.specs.List.{cons_option, filter_map, position_from}
use Rattle.std.specs.Option.{option_or}
use Rattle.std.specs.Prelude.{unwrap_or}
use Rattle.std.proofs.lemmas.Bool.Decides.{nat_tests}
use Rattle.st_lemmas.proofs.Lists.{position_from-None}
use Rattle.st_ids.specs.Listing.{Has}
use Rattle.st_ids.specs.Order.{same_node}
use Rattle.st_ids.specs.Root.{opening}
use Rattle.st_ids.proofs.Orders.{same_node-true}
use Rattle.st_ids.specs.declared.names.NodeId.{NodeId}
use Rattle.st_tree.specs.Node.{Node}
use Rattle.st_tree.specs.Preorder.{opening_listed}
use Rattle.st_tree.specs.Size.{check_of, height, node_count}
use Rattle.st_tree.specs.declared.flat.FlatAt.{FlatAt}
use Rattle.st_tree.specs.declared.flat.FlatNode.{FlatNode}
use Rattle.st_tree.specs.declared.limits.TreeFault.{TreeFault}
use Rattle.st_tree.specs.declared.limits.TreeFault.TheVariants.{TooDeep, TooMany}
use Rattle.st_tree.proofs.Cells.{cells_fit}
use Rattle.st_schema.specs.Conforms.{refusal, verdicts}
use Rattle.st_marks.specs.declared.intents.Owned.{Owned}
use Rattle.st_marks.specs.declared.places.Spot.{Spot}
use Rattle.st_marks.specs.Document.{NodeType, owned_cell}
use Rattle.st_opening.specs.Start.{cell_at, first_said, place_at, spot_at, type_at}
use Rattle.st_script.specs.Header.{HeaderView}
use Rattle.st_world.specs.World.{opening_document}
use Rattle.st_world_laws.specs.Worlds.{IsHeader}
use Rattle.st_world_laws.proofs.Begun.{opens_allowed, opens_within}
use Rattle.st_change_laws.specs.Within.{DocumentIsWithin}
use Rattle.st_commit_laws.specs.Tellable.{NameIsShort}
use Rattle.st_commit_laws.proofs.Back.{HasShortKeys, SpotIsShort}
use Rattle.st_commit_laws.proofs.Trees.{HasLowCell, HasShortKey, IsLow, tree_keys, tree_low}

few_nodes : (t : Node) → check_of t ≡ Ok tt → node_count t ≤ 1024
few_nodes t h = go (nat_lt 1024 (node_count t)) refl h
  where
    go : (b : Bool) → nat_lt 1024 (node_count t) ≡ b → ◌≡◌ {A = Result (Unit {0}) TreeFault} (cond b (Err TooMany) (cond (nat_lt 48 (height t)) (Err TooDeep) (Ok tt))) (Ok tt) → node_count t ≤ 1024
    go true e f = absurd (cc)
    go false e f = grind (arith, nat_tests)

none_refused : (o : Option ℕ) → refusal o ≡ Ok tt → o ≡ None
none_refused None e = refl
none_refused (Some i) e = absurd (cc)

-- ## What a node of a list says

module _ (xs : List FlatNode) (low : (y : FlatNode) → Has xs y → IsLow 1024 y) (keys : (y : FlatNode) → Has xs y → HasShortKey y.at) where
  node_low : (n : NodeId) → IsSome (first_said (type_at n) xs) → n.0.at < 1024
  node_low n some = go xs low some
    where
      go : (ys : List FlatNode) → ((y : FlatNode) → Has ys y → IsLow 1024 y) → IsSome (first_said (type_at n) ys) → n.0.at < 1024
      go [] each e = cc
      go (y ∷ ys) each e = by (same_node y.node n) refl e (go ys (λ z i. each z (inr i)))
        where
          by : (b : Bool) → same_node y.node n ≡ b → IsSome (option_or {T = NodeType} (cond b (Some (record { ty = y.ty; leaf = y.leaf })) None) (first_said (type_at n) ys)) → (IsSome (first_said (type_at n) ys) → n.0.at < 1024) → n.0.at < 1024
          by true q f later = subst (λ (m : NodeId). m.0.at < 1024) (same_node-true y.node n q) (each y (inl refl)).0
          by false q f later = later f

  -- the cell of a node that stands in the row, or one of those after it
  row_cell_low : (n m : NodeId) (o : Owned) (at : FlatAt) (later : List Owned) → HasLowCell 1024 at → (Has later o → o.cell.0.at < 1024) → Has (cons_option (cell_at n m at) later) o → o.cell.0.at < 1024
  row_cell_low n m o FlatAt.Root later l rest e = rest e
  row_cell_low n m o (FlatAt.Top c) later l rest e = rest e
  row_cell_low n m o (FlatAt.Register g) later l rest e = rest e
  row_cell_low n m o (FlatAt.Row r c) later l rest e = go (same_node r n) e
    where
      go : (b : Bool) → Has (cons_option (cond b (Some (owned_cell c m)) None) later) o → o.cell.0.at < 1024
      go false f = rest f
      go true (inl same) = subst (λ (p : Owned). p.cell.0.at < 1024) same l
      go true (inr j) = rest j

  cell_low : (n : NodeId) (o : Owned) → Has (filter_map (λ (x : FlatNode). cell_at n x.node x.at) xs) o → o.cell.0.at < 1024
  cell_low n o i = go xs low i
    where
      go : (ys : List FlatNode) → ((y : FlatNode) → Has ys y → IsLow 1024 y) → Has (filter_map (λ (x : FlatNode). cell_at n x.node x.at) ys) o → o.cell.0.at < 1024
      go [] each e = absurd e
      go (y ∷ ys) each e = row_cell_low n y.node o y.at (filter_map (λ (x : FlatNode). cell_at n x.node x.at) ys) (each y (inl refl)).1 (go ys (λ z j. each z (inr j))) e

  spot_short : (at : FlatAt) → HasShortKey at → SpotIsShort (spot_at at)
  spot_short FlatAt.Root h = tt
  spot_short (FlatAt.Top c) h = tt
  spot_short (FlatAt.Row n c) h = tt
  spot_short (FlatAt.Register f) h = h

  place_short : (n : NodeId) → SpotIsShort (unwrap_or (first_said (place_at n) xs) Spot.Nowhere)
  place_short n = go xs keys
    where
      go : (ys : List FlatNode) → ((y : FlatNode) → Has ys y → HasShortKey y.at) → SpotIsShort (unwrap_or (first_said (place_at n) ys) Spot.Nowhere)
      go [] each = tt
      go (y ∷ ys) each = by (same_node y.node n) (go ys (λ z i. each z (inr i)))
        where
          by : (b : Bool) → SpotIsShort (unwrap_or (first_said (place_at n) ys) Spot.Nowhere) → SpotIsShort (unwrap_or (option_or (cond b (Some (spot_at y.at)) None) (first_said (place_at n) ys)) Spot.Nowhere)
          by true later = spot_short y.at (each y (inl refl))
          by false later = later

-- ## The opening

module _ (h : HeaderView) (k : IsHeader h) where
  within : node_count h.tree ≤ 1024
  within = few_nodes h.tree (opens_within h.schema h.tree k.tree)

  low : (y : FlatNode) → Has (opening_listed h.tree) y → IsLow 1024 y
  low = tree_low 1024 opening FlatAt.Root 0 0 h.tree tt (omega (arith, within)) (omega (arith, within, cells_fit h.tree))

  keys : (y : FlatNode) → Has (opening_listed h.tree) y → HasShortKey y.at
  keys =
      let none = none_refused (position_from (λ ok. not ok) 0 (verdicts h.schema h.schema.root h.tree)) (opens_allowed h.schema h.tree k.tree) in
      tree_keys h.schema k.schema h.schema.root opening FlatAt.Root 0 0 h.tree tt (position_from-None 0 (verdicts h.schema h.schema.root h.tree) none)

  pub opening_keys : HasShortKeys (opening_document h)
  opening_keys = place_short (opening_listed h.tree) low keys

  pub opening_within : DocumentIsWithin NameIsShort (opening_document h)
  opening_within = record {
    nodes = λ n some. (let less : n.0.at < 1024 = node_low (opening_listed h.tree) low keys n some in omega (arith, less));
    cells = λ n o i. (let less : o.cell.0.at < 1024 = cell_low (opening_listed h.tree) low keys n o i in omega (arith, less));
    keys = λ n f e. subst SpotIsShort e (opening_keys n);
  }
