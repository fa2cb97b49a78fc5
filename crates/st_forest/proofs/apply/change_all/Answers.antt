use Rattle.std.proofs.Common.{[], ap, option_map, subst, unwrap_or, ◌∙◌}
use Rattle.std.specs.BTreeMap.{get}
use Rattle.st_ids.specs.Order.{field_cmp, node_cmp, same_field, same_node}
use Rattle.st_forest.specs.inside.Writes.{AreLed, RowsLead, held_writes, new_seats, reseated, step_seats, written}
use Rattle.st_forest.proofs.apply.change_all.Goals as goal

pub returns : goal.returns
returns c =
    let S = c.args.step.now in
    let F = c.args.forest.now in
    record {
      nodes = λ n.
          c.in_ok-seat_all.ensures n
          ∙ ap (option_map (reseated (step_seats S) n)) (c.in_ok-add_nodes.ensures n ∙ ap (λ ms. written same_node (new_seats ms) n (get node_cmp F.nodes n)) c.as_slice.ensures);
      rows = λ R.
          subst (λ rs. RowsLead (λ n. unwrap_or (get node_cmp F.rows n) []) R rs → AreLed (λ n. unwrap_or (get node_cmp F.rows n) []) R rs (λ n. unwrap_or (get node_cmp c.change_rows.new.rows n) []))
          c.as_slice-2.ensures (c.in_ok-change_rows.ensures R);
      held = λ f. c.in_ok-change_registers.ensures f ∙ ap (λ ss. written same_field (held_writes ss) f (get field_cmp F.held f)) c.as_slice-3.ensures;
      schemas = c.in_ok-change_schemas.ensures;
    }
