use Rattle.std.proofs.Common.{◌++◌, map, ap, ◌∙◌}
use Rattle.std.specs.BTreeMap.{get}
use Rattle.std.specs.List.{flat_map}
use Rattle.std.specs.Option.{option_or}
use Rattle.st_ids.specs.Order.{node_cmp}
use Rattle.st_marks.specs.declared.marks.RegStep.{RegStep}
use Rattle.st_puts.specs.inside.Spots.{gone_spot, loose_spot, new_spot, row_told}
use Rattle.st_puts.specs.declared.spots.Told.{Told}
use Rattle.st_puts.specs.inside.First.{first_at}
use Rattle.st_puts.proofs.Firsts.{kept_then}
use Rattle.st_puts.proofs.spots.keep_rest.Goals as goal

pub returns : goal.returns
returns c = λ n.
    kept_then (get node_cmp c.args.spots.now n) (get node_cmp c.keep_loose.new.spots n) (get node_cmp c.keep_new.new.spots n) (((flat_map (row_told Told.Left) c.args.step.now.rows) ++ (flat_map (λ (r : RegStep). gone_spot r.before) c.args.step.now.regs)) ++ (map loose_spot c.args.step.now.loose)) (map new_spot c.args.step.now.new) n
    (kept_then (get node_cmp c.args.spots.now n) (get node_cmp c.keep_gone.new.spots n) (get node_cmp c.keep_loose.new.spots n) ((flat_map (row_told Told.Left) c.args.step.now.rows) ++ (flat_map (λ (r : RegStep). gone_spot r.before) c.args.step.now.regs)) (map loose_spot c.args.step.now.loose) n
    (kept_then (get node_cmp c.args.spots.now n) (get node_cmp c.keep_rows.new.spots n) (get node_cmp c.keep_gone.new.spots n) (flat_map (row_told Told.Left) c.args.step.now.rows) (flat_map (λ (r : RegStep). gone_spot r.before) c.args.step.now.regs) n
    (c.in_ok-keep_rows.ensures n ∙ ap (λ l. option_or (get node_cmp c.args.spots.now n) (first_at (flat_map (row_told Told.Left) l) n)) c.as_slice.ensures)
    (c.in_ok-keep_gone.ensures n ∙ ap (λ l. option_or (get node_cmp c.keep_rows.new.spots n) (first_at (flat_map (λ (r : RegStep). gone_spot r.before) l) n)) c.as_slice-2.ensures))
    (c.in_ok-keep_loose.ensures n ∙ ap (λ l. option_or (get node_cmp c.keep_gone.new.spots n) (first_at (map loose_spot l) n)) c.as_slice-3.ensures))
    (c.in_ok-keep_new.ensures n ∙ ap (λ l. option_or (get node_cmp c.keep_loose.new.spots n) (first_at (map new_spot l) n)) c.as_slice-4.ensures)
