use Rattle.std.specs.BTreeMap.{is_at}
use Rattle.std.proofs.Common.{ap}
use Rattle.std.specs.List.{list_any}
use Rattle.std.specs.BTreeSet.{contains}
use Rattle.st_ids.specs.Order.{node_cmp}
use Rattle.st_part_rings.proofs.LinksTold.{joint_from}
use Rattle.st_part_rings.proofs.links.links_joint.Goals as goal

pub returns : goal.returns
returns c =
    joint_from (contains node_cmp c.args.made.now) (contains node_cmp c.in_ok-taken.taken) (contains node_cmp c.new.result) c.args.first.now c.args.second.now
    c.new-links.result c.push_kept.new.links c.push_kept-2.new.links c.new-links.ensures c.in_ok-taken.ensures (λ n. ap (list_any (is_at (node_cmp n))) c.new.ensures.empty) c.in_ok-push_kept.ensures c.in_ok-push_kept-2.ensures
