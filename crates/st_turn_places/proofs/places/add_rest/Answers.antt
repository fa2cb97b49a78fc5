use Rattle.std.proofs.Common.{append_assoc, subst, ◌∙◌}
use Rattle.std.specs.BTreeMap.{get}
use Rattle.std.specs.List.{flat_map}
use Rattle.st_ids.specs.Order.{node_cmp}
use Rattle.st_marks.specs.declared.changes.NewNode.{NewNode}
use Rattle.st_turn_places.specs.declared.places.Placed.{Placed}
use Rattle.st_turn_places.specs.inside.Sides.{IsTable, found_by, if_free}
use Rattle.st_turn_places.proofs.places.add_rest.Goals as goal

pub returns : goal.returns
returns c =
    let at = get node_cmp c.in_ok-table.table in (
      at,
      subst (λ l. IsTable l at) c.as_slice.ensures c.in_ok-table.ensures,
      c.in_ok-add_free.ensures ∙ append_assoc c.args.list.now (flat_map (λ (m : NewNode). if_free at m.node) c.args.step.now.new) (flat_map (λ (p : Placed). if_free at p.node) (found_by c.args.step.now)),
    )
