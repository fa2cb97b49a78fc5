-- Fields and loose nodes that are told make a step told name by name.
use Rattle.std.proofs.Common.{◌≡◌, Bool, List, map, Option, refl, sym, ◌∙◌, subst}
use mathlib.Core.Path.{fun_ext}
use Rattle.std.specs.List.{filter_map}
use Rattle.st_ids.specs.Listing.{IsListing}
use Rattle.st_ids.specs.Order.{field_cmp, node_cmp}
use Rattle.st_ids.specs.declared.names.NodeId.{NodeId}
use Rattle.st_kind.specs.Named.{Nodes}
use Rattle.st_marks.specs.declared.changes.Change.{Change}
use Rattle.st_marks.specs.declared.intents.To.{To}
use Rattle.st_marks.specs.declared.marks.Loose.{Loose}
use Rattle.st_marks.specs.declared.marks.RegStep.{RegStep}
use Rattle.st_marks.specs.declared.marks.RowMarks.{RowMarks}
use Rattle.st_marks.specs.declared.steps.Step.{Step}
use Rattle.st_marks.specs.Embedding.{is_among}
use Rattle.st_marks.specs.Listings.{nodes_new, placed_after, placed_before}
use Rattle.st_cross_laws.specs.Crossed.{IsCrossed, loose_across}
use Rattle.st_cross.specs.Fields.{register_at, row_at}
use Rattle.st_carry.specs.inside.Listed.{HasFields, loose_by}

-- the loose nodes, by sets of those that stand somewhere
pub loose_told : (rows : List RowMarks) (regs : List RegStep) (stood stands : Nodes) (names : List NodeId) (loose : List Loose) → ((n : NodeId) → stood n ≡ is_among (placed_before rows (map (λ (r : RegStep). r.before) regs)) n)
    → ((n : NodeId) → stands n ≡ is_among (placed_after rows (map (λ (r : RegStep). r.after) regs)) n) → loose ≡ filter_map (loose_across stood stands) names → loose ≡ loose_by rows regs names
loose_told rows regs stood stands names loose e f h = h ∙ (λ i. filter_map (loose_across (fun_ext e i) (fun_ext f i)) names)

pub listed : (l was is : Bool) (made : Nodes) (t : NodeId → Option To) (C : Change) (S G : Step) (rows : List RowMarks) (regs : List RegStep) → ((n : NodeId) → made n ≡ is_among (nodes_new C.new) n)
    → IsListing node_cmp (λ (r : RowMarks). r.node) rows (row_at l was is made t C.rows S.rows) → IsListing field_cmp (λ (r : RegStep). r.field) regs (register_at was is made t C.regs S.regs)
    → HasFields was is C S rows regs G → IsCrossed l was is t C S G
listed l was is made t C S G rows regs known a b (loose, left, told) = subst (IsCrossed l was is t C S) (sym told) (record {
  schema = refl;
  new_nodes = refl;
  rows = subst (λ m. IsListing node_cmp (λ (r : RowMarks). r.node) rows (row_at l was is m t C.rows S.rows)) (fun_ext known) a;
  regs = subst (λ m. IsListing field_cmp (λ (r : RegStep). r.field) regs (register_at was is m t C.regs S.regs)) (fun_ext known) b;
  names = left.names;
  named = left.named;
  ordered = left.ordered;
  loose = left.told;
})
