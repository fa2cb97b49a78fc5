-- The order of places.
use Rattle.std.proofs.Common.{Option, Some, None, refl, ap}
use Rattle.std.specs.Cmp.{IsTotalOrder}
use Rattle.std.specs.Cmp.Lexicographic.{options_total}
use Rattle.std.specs.Option.{option_cmp}
use Rattle.std.proofs.lemmas.Cmp.{on_total, then_total}
use Rattle.std.proofs.lemmas.Map.Lookups.{CmpEqualImpliesEq, exact_pairs}
use Rattle.st_ids.specs.Order.{cell_cmp, node_cmp}
use Rattle.st_ids.specs.declared.names.CellId.{CellId}
use Rattle.st_ids.specs.declared.names.NodeId.{NodeId}
use Rattle.st_ids.proofs.Orders.{cell_cmp_exact, cell_cmp_total, node_cmp_exact, node_cmp_total}
use Rattle.st_meaning.specs.InOrder.{place_cmp}

pub place_total : IsTotalOrder place_cmp
place_total = then_total (on_total (λ (p : NodeId × Option CellId). p.0) node_cmp_total) (on_total (λ (p : NodeId × Option CellId). p.1) (options_total cell_cmp_total))

anchors_exact : CmpEqualImpliesEq (option_cmp cell_cmp)
anchors_exact None None e = refl
anchors_exact None (Some d) e = cc
anchors_exact (Some c) None e = cc
anchors_exact (Some c) (Some d) e = ap (λ c. Some c) (cell_cmp_exact c d e)

pub place_exact : CmpEqualImpliesEq place_cmp
place_exact = exact_pairs node_cmp (option_cmp cell_cmp) node_cmp_exact anchors_exact
