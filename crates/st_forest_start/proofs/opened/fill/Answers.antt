use Rattle.std.proofs.Common.{◌∙◌, ap, option_map, unwrap_or}
use Rattle.std.specs.BTreeMap.{get}
use Rattle.st_ids.specs.Order.{node_cmp}
use Rattle.st_marks.specs.declared.places.Spot.{Spot as Standing}
use Rattle.st_forest.specs.declared.forest.Seated.{Seated as Entry}
use Rattle.st_forest_start.proofs.Preordered.{opened_row}
use Rattle.st_forest_start.proofs.opened.fill.Goals as goal

pub returns : goal.returns
returns c = record {
  nodes = c.in_ok-forest.ensures.node;
  places = λ n. ap (λ o. unwrap_or o Standing.Nowhere) (c.in_ok-forest.ensures.place n);
  rows = λ n. c.in_ok-forest-2.ensures n ∙ opened_row (λ m. unwrap_or (option_map (λ (s : Entry). s.place) (get node_cmp c.in_ok-forest.field-0 m)) Standing.Nowhere) n c.args.flat.now c.args.schema
      (λ m. ap (λ o. unwrap_or o Standing.Nowhere) (c.in_ok-forest.ensures.place m));
  held = c.in_ok-forest-3.ensures;
  schemas = c.in_ok-forest-4.ensures;
}
