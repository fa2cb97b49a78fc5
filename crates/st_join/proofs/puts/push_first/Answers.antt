use Rattle.std.proofs.Common.{◌++◌, ◌∙◌, ap, sym}
use Rattle.std.specs.BTreeSet.{contains}
use Rattle.std.specs.List.{filter_map}
use Rattle.st_ids.specs.Order.{field_cmp, node_cmp}
use Rattle.st_lemmas.proofs.Lists.{filter_map-append}
use Rattle.st_join.specs.inside.Lists.{left_put}
use Rattle.st_join.proofs.Assembled.{one_mapped}
use Rattle.st_join.proofs.Steps.{list_more}
use Rattle.st_join.proofs.puts.push_first.Goals as goal

pub loop-put-preserved : goal.loop-put-preserved
loop-put-preserved c =
    let h = left_put (contains node_cmp c.args.new.now) (contains node_cmp c.args.again.now) (contains field_cmp c.args.cleared.now) in
    let q = c.put-item.result in
    list_more (filter_map h) (filter_map-append h) c.args.puts.now c.loop-put.puts c.push_left.new.puts c.args.first.now c.loop-put.put-index q q c.loop-put-test.true (sym c.put-item.is)
    c.loop-put.invariant
    (c.in_ok-push_left.ensures ∙ ap (λ qs. c.loop-put.puts ++ qs) (sym (one_mapped h q)))
