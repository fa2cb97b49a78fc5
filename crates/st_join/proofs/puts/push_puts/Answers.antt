use Rattle.std.proofs.Common.{◌++◌, ◌∙◌, ap}
use Rattle.std.specs.BTreeSet.{contains}
use Rattle.std.specs.List.{filter_map}
use Rattle.st_ids.specs.Order.{field_cmp, node_cmp}
use Rattle.st_join.specs.inside.Lists.{kept_put, left_put}
use Rattle.st_join.proofs.Assembled.{puts_joined}
use Rattle.st_join.proofs.puts.push_puts.Goals as goal

pub returns : goal.returns
returns c =
    let new = contains node_cmp c.args.new.now in
    let again = contains node_cmp c.in_ok-again.again in
    let cleared = contains field_cmp c.in_ok-cleared.cleared in
    puts_joined c.args.first.now c.args.second.now new again cleared c.requires c.in_ok-again.ensures c.in_ok-cleared.ensures
    c.args.puts.now c.push_second.new.puts c.push_first.new.puts
    (c.in_ok-push_second.ensures ∙ ap (λ qs. c.args.puts.now ++ filter_map (kept_put new) qs) c.as_slice.ensures)
    (c.in_ok-push_first.ensures ∙ ap (λ qs. c.push_second.new.puts ++ filter_map (left_put new again cleared) qs) c.as_slice-2.ensures)
