use Rattle.std.proofs.Common.{◌++◌, ◌∙◌, ap, sym, option_and_then}
use Rattle.std.specs.BTreeMap.{get}
use Rattle.std.specs.Option.{option_to_list}
use Rattle.st_ids.specs.Order.{cell_cmp}
use Rattle.st_marks.specs.declared.intents.Put.{Put}
use Rattle.st_marks.specs.Intent.{cell_of}
use Rattle.st_embed.proofs.Naming.{picked_more}
use Rattle.st_embed.proofs.targets.push_target_rows.Goals as goal

pub loop-put-preserved : goal.loop-put-preserved
loop-put-preserved c =
    picked_more (λ (p : Put). option_and_then (get cell_cmp c.args.rows.now) (cell_of p.to)) c.args.names.now c.loop-put.names c.push_if_some.new.names c.args.puts.now c.loop-put.put-index c.put-item.result c.put-item.result
    c.loop-put-test.true (sym c.put-item.is) c.loop-put.invariant (c.in_ok-push_if_some.ensures ∙ ap (λ o. c.loop-put.names ++ option_to_list o) c.row_of_target.ensures)
