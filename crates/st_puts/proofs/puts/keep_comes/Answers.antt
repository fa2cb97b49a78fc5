use Rattle.std.proofs.Common.{◌++◌, ap, ◌∙◌}
use Rattle.std.specs.BTreeMap.{get}
use Rattle.std.specs.List.{flat_map}
use Rattle.std.specs.Option.{option_or}
use Rattle.st_ids.specs.Order.{node_cmp}
use Rattle.st_marks.specs.declared.marks.RegMark.{RegMark}
use Rattle.st_puts.specs.inside.Puts.{into_register, row_fate, set_here}
use Rattle.st_puts.specs.declared.puts.Fate.{Fate}
use Rattle.st_puts.specs.inside.First.{first_at}
use Rattle.st_puts.proofs.Firsts.{kept_then}
use Rattle.st_puts.proofs.puts.keep_comes.Goals as goal

pub returns : goal.returns
returns c = λ n.
    kept_then (get node_cmp c.args.puts.now n) (get node_cmp c.keep_rows.new.puts n) (get node_cmp c.keep_registers.new.puts n) (flat_map (row_fate Fate.Comes) c.args.change.now.rows) (flat_map (λ (r : RegMark). into_register r.field r.fill ++ into_register r.field (set_here r)) c.args.change.now.regs) n
    (c.in_ok-keep_rows.ensures n ∙ ap (λ l. option_or (get node_cmp c.args.puts.now n) (first_at (flat_map (row_fate Fate.Comes) l) n)) c.as_slice.ensures)
    (c.in_ok-keep_registers.ensures n ∙ ap (λ l. option_or (get node_cmp c.keep_rows.new.puts n) (first_at (flat_map (λ (r : RegMark). into_register r.field r.fill ++ into_register r.field (set_here r)) l) n)) c.as_slice-2.ensures)
