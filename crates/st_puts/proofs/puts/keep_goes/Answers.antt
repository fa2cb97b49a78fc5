use Rattle.std.proofs.Common.{◌++◌, ap, ◌∙◌}
use Rattle.std.specs.BTreeMap.{get}
use Rattle.std.specs.List.{flat_map}
use Rattle.std.specs.Option.{option_or}
use Rattle.st_ids.specs.Order.{node_cmp}
use Rattle.st_marks.specs.declared.marks.RegMark.{RegMark}
use Rattle.st_puts.specs.inside.Puts.{into_nowhere, leaving, loose_put, row_fate}
use Rattle.st_puts.specs.declared.puts.Fate.{Fate}
use Rattle.st_puts.specs.inside.First.{first_at}
use Rattle.st_puts.proofs.Firsts.{kept_then}
use Rattle.st_puts.proofs.puts.keep_goes.Goals as goal

pub returns : goal.returns
returns c = λ n.
    kept_then (get node_cmp c.args.puts.now n) (get node_cmp c.keep_leaving.new.puts n) (get node_cmp c.keep_loose.new.puts n) ((flat_map (row_fate Fate.Goes) c.args.change.now.rows) ++ (flat_map (λ (r : RegMark). into_nowhere (leaving r)) c.args.change.now.regs)) (flat_map loose_put c.args.change.now.loose) n
    (kept_then (get node_cmp c.args.puts.now n) (get node_cmp c.keep_rows.new.puts n) (get node_cmp c.keep_leaving.new.puts n) (flat_map (row_fate Fate.Goes) c.args.change.now.rows) (flat_map (λ (r : RegMark). into_nowhere (leaving r)) c.args.change.now.regs) n
    (c.in_ok-keep_rows.ensures n ∙ ap (λ l. option_or (get node_cmp c.args.puts.now n) (first_at (flat_map (row_fate Fate.Goes) l) n)) c.as_slice.ensures)
    (c.in_ok-keep_leaving.ensures n ∙ ap (λ l. option_or (get node_cmp c.keep_rows.new.puts n) (first_at (flat_map (λ (r : RegMark). into_nowhere (leaving r)) l) n)) c.as_slice-2.ensures))
    (c.in_ok-keep_loose.ensures n ∙ ap (λ l. option_or (get node_cmp c.keep_leaving.new.puts n) (first_at (flat_map loose_put l) n)) c.as_slice-3.ensures)
