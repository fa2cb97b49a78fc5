use Rattle.std.proofs.Common.{ap, ◌∙◌}
use Rattle.std.specs.BTreeMap.{get}
use Rattle.std.specs.List.{flat_map}
use Rattle.std.specs.Option.{option_or}
use Rattle.st_ids.specs.Order.{node_cmp}
use Rattle.st_marks.specs.declared.marks.RegStep.{RegStep}
use Rattle.st_puts.specs.inside.Spots.{held_spot, row_told}
use Rattle.st_puts.specs.declared.spots.Told.{Told}
use Rattle.st_puts.specs.inside.First.{first_at}
use Rattle.st_puts.proofs.Firsts.{kept_then}
use Rattle.st_puts.proofs.spots.keep_standing.Goals as goal

pub returns : goal.returns
returns c = λ n.
    kept_then (get node_cmp c.args.spots.now n) (get node_cmp c.keep_rows.new.spots n) (get node_cmp c.keep_after.new.spots n) (flat_map (row_told Told.After) c.args.step.now.rows) (flat_map (λ (r : RegStep). held_spot r.field r.after) c.args.step.now.regs) n
    (c.in_ok-keep_rows.ensures n ∙ ap (λ l. option_or (get node_cmp c.args.spots.now n) (first_at (flat_map (row_told Told.After) l) n)) c.as_slice.ensures)
    (c.in_ok-keep_after.ensures n ∙ ap (λ l. option_or (get node_cmp c.keep_rows.new.spots n) (first_at (flat_map (λ (r : RegStep). held_spot r.field r.after) l) n)) c.as_slice-2.ensures)
