use Rattle.std.proofs.Common.{◌≡◌, ◌+◌, ◌*◌, ◌≤◌, ◌<◌, ◌/◌, length, ap, subst, sym, take, drop}
use Rattle.st_chunks.specs.inside.Groups.{AreGroups, IsCountOf}
use Rattle.st_chunks.proofs.GroupCounts.{groups_pushed}
use Rattle.st_chunks.proofs.Walks.{next_inside}
use Rattle.st_chunks.proofs.group.fill.Goals as goal

pub groups-preserved : goal.groups-preserved
groups-preserved c =
    let gs = c.groups.groups.items in
    let bs = c.args.blocks.now in
    let n : length c.as_slice-in-groups.result.now ≡ length gs = ap length c.as_slice-in-groups.ensures.value in
    let m : length c.as_slice.result.now ≡ length gs = ap length c.as_slice.ensures.value in
    let w : length gs * 64 + 64 ≤ length bs = next_inside (length bs) (length gs) (subst (λ k. k < length bs / 64) m c.groups-test.true) in
    subst (λ x. AreGroups x bs) (sym c.if-not-push_group.ensures)
    (groups_pushed gs c.count_group-group.result bs c.groups.invariant w (subst (λ k. IsCountOf c.count_group-group.result (take 64 (drop (k * 64) bs))) n c.count_group-group.ensures))
