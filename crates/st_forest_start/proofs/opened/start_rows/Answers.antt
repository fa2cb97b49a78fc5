use Rattle.std.proofs.Common.{◌^◌, [], option_map, sym, unwrap_or}
use Rattle.std.specs.BTreeMap.{get}
use Rattle.st_ids.specs.Order.{node_cmp}
use Rattle.st_marks.specs.declared.places.Spot.{Spot as Standing}
use Rattle.st_forest.specs.declared.forest.Seated.{Seated as Entry}
use Rattle.st_forest_start.specs.inside.Opening.{slot_at}
use Rattle.st_forest.proofs.Written.{filtered_more}
use Rattle.st_forest_start.proofs.Preordered.{few_kept}
use Rattle.st_forest_start.proofs.opened.start_rows.Goals as goal

pub add_slot-requires : goal.add_slot-requires
add_slot-requires c = λ n.
    few_kept (slot_at (λ m. unwrap_or (option_map (λ (s : Entry). s.place) (get node_cmp c.args.nodes.now m)) Standing.Nowhere) n)
    c.args.flat.now c.loop-x.x-index (2 ^ 32) (unwrap_or (get node_cmp c.loop-x.rows n) []) c.loop-x-test.true c.requires (c.loop-x.invariant n)

pub loop-x-preserved : goal.loop-x-preserved
loop-x-preserved c = λ n.
    filtered_more (slot_at (λ m. unwrap_or (option_map (λ (s : Entry). s.place) (get node_cmp c.args.nodes.now m)) Standing.Nowhere) n)
    (unwrap_or (get node_cmp c.loop-x.rows n) []) (unwrap_or (get node_cmp c.add_slot.new.rows n) []) c.args.flat.now c.loop-x.x-index c.x-item.result c.x-item.result
    c.loop-x-test.true (sym c.x-item.is) (c.loop-x.invariant n) (c.in_ok-add_slot.ensures n)
