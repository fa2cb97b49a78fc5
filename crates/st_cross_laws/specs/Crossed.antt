-- A step after a change, told name by name from what the two list.
use Rattle.std.specs.Prelude.{◌≡◌, ◌||◌, ◌&&◌, Bool, not, List, ◌++◌, map, Option, Some, None, if◌then◌else◌}
use Rattle.std.specs.BTreeSet.{BTreeSet, IsOrdered, contains}
use Rattle.std.specs.List.{filter_map}
use Rattle.st_ids.specs.Listing.{IsListing, item_of}
use Rattle.st_ids.specs.Order.{field_cmp, node_cmp, same_node}
use Rattle.st_ids.specs.Root.{root}
use Rattle.st_ids.specs.declared.names.NodeId.{NodeId}
use Rattle.st_kind.specs.Named.{Nodes}
use Rattle.st_marks.specs.declared.changes.Change.{Change}
use Rattle.st_marks.specs.declared.intents.To.{To}
use Rattle.st_marks.specs.declared.marks.How.TheVariants.{Stay, Leave}
use Rattle.st_marks.specs.declared.marks.Loose.{Loose}
use Rattle.st_marks.specs.declared.marks.RegMark.{RegMark}
use Rattle.st_marks.specs.declared.marks.RegStep.{RegStep}
use Rattle.st_marks.specs.declared.marks.RowMarks.{RowMarks}
use Rattle.st_marks.specs.declared.steps.Step.{Step}
use Rattle.st_marks.specs.Embedding.{is_among}
use Rattle.st_marks.specs.Listings.{nodes_loose, nodes_new, placed_after, placed_before}
use Rattle.st_rows.specs.Changes.{placed_by}
use Rattle.st_over.specs.Across.{register_across, row_across}

-- the nodes that a step finds nowhere or somewhere, and those that a change finds
abbrev pub found_by_step : Step → List NodeId
found_by_step S = nodes_loose S.loose ++ placed_before S.rows (map (λ (r : RegStep). r.before) S.regs)

abbrev pub found_by_change : Change → List NodeId
found_by_change C = nodes_loose C.loose ++ placed_before C.rows (map (λ (r : RegMark). r.held) C.regs)

-- whether a node is named: it is found by the step, new, or found by the change, unless that is void before and after
abbrev pub is_named : Bool → Bool → Change → Step → NodeId → Bool
is_named was is C S n = is_among (found_by_step S) n || (is_among (nodes_new C.new) n || (not (was && is) && is_among (found_by_change C) n))

-- a node that is named, if it is nowhere before
abbrev pub loose_across : Nodes → Nodes → NodeId → Option Loose
loose_across stood stands n = if stood n || same_node n root then None else Some (record { node = n; how = if stands n then Leave else Stay })

-- the loose nodes, of those in a set
abbrev pub loose_of : Step → List NodeId → List Loose
loose_of G names = filter_map (loose_across (is_among (placed_before G.rows (map (λ (r : RegStep). r.before) G.regs))) (is_among (placed_after G.rows (map (λ (r : RegStep). r.after) G.regs)))) names

-- G tells of each name what the step says after the change, which puts nodes so and is void before the step or not, and after it or not
pub record IsCrossed (l was is : Bool) (target_of : NodeId → Option To) (C : Change) (S G : Step) : Type 0 where
  pub schema : G.schema ≡ S.schema
  pub new_nodes : G.new ≡ S.new
  pub rows : IsListing node_cmp (λ (r : RowMarks). r.node) G.rows (λ n. row_across l was is (placed_by (is_among (nodes_new C.new) n) (nodes_new C.new)) target_of n
      (item_of node_cmp (λ (r : RowMarks). r.node) C.rows n) (item_of node_cmp (λ (r : RowMarks). r.node) S.rows n))
  pub regs : IsListing field_cmp (λ (r : RegStep). r.field) G.regs (λ f. register_across was is (is_among (nodes_new C.new)) target_of f
      (item_of field_cmp (λ (r : RegMark). r.field) C.regs f) (item_of field_cmp (λ (r : RegStep). r.field) S.regs f))
  pub names : BTreeSet NodeId
  pub named : (n : NodeId) → contains node_cmp names n ≡ is_named was is C S n
  pub ordered : IsOrdered node_cmp names
  pub loose : G.loose ≡ loose_of G names.keys
