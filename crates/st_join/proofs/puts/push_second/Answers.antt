use Rattle.std.proofs.Common.{◌++◌, ◌∙◌, ap, sym}
use Rattle.std.specs.BTreeSet.{contains}
use Rattle.std.specs.List.{filter_map}
use Rattle.std.specs.Option.{option_to_list}
use Rattle.st_ids.specs.Order.{node_cmp}
use Rattle.st_lemmas.proofs.Lists.{filter_map-append}
use Rattle.st_marks.specs.declared.intents.To.{To}
use Rattle.st_join.specs.inside.Lists.{kept_put}
use Rattle.st_join.proofs.Assembled.{one_mapped}
use Rattle.st_join.proofs.Steps.{list_more}
use Rattle.st_join.proofs.puts.push_second.Goals as goal

pub loop-put-preserved : goal.loop-put-preserved
loop-put-preserved c =
    let h = kept_put (contains node_cmp c.args.new.now) in
    let q = c.put-item.result in
    list_more (filter_map h) (filter_map-append h) c.args.puts.now c.loop-put.puts c.push_put.new.puts c.args.second.now c.loop-put.put-index q q c.loop-put-test.true (sym c.put-item.is)
    c.loop-put.invariant
    (c.in_ok-push_put.ensures ∙ ap (λ (to : To). c.loop-put.puts ++ option_to_list (h (record { node = q.node; to = to }))) c.in_ok-copy.ensures ∙ ap (λ qs. c.loop-put.puts ++ qs) (sym (one_mapped h q)))
