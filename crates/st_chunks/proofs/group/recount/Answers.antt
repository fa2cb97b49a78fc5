use Rattle.std.proofs.Common.{◌<◌, ◌≤◌, length, ap, arith, subst}
use Rattle.st_chunks.proofs.GroupCounts.{but_within, none_left_out, recounted}
use Rattle.st_chunks.proofs.group.recount.Goals as goal

pub count_group-requires-clause-there : goal.count_group-requires-clause-there
count_group-requires-clause-there c =
    let n : c.args.place < length c.args.groups.now.items = subst (λ k. c.args.place < k) (ap length c.as_slice.ensures.value) c.if-place-as_slice.true in
    omega (arith, but_within c.args.groups.now.items c.args.blocks.now c.args.place c.requires.groups, n)

pub returns-then-place-as_slice : goal.returns-then-place-as_slice
returns-then-place-as_slice c =
    let n : c.args.place < length c.args.groups.now.items = subst (λ k. c.args.place < k) (ap length c.as_slice.ensures.value) c.if-place-as_slice.true in
    recounted c.args.groups.now.items c.count_group.result c.args.blocks.now c.args.place n c.requires.groups c.count_group.ensures

pub returns-else-place-as_slice : goal.returns-else-place-as_slice
returns-else-place-as_slice c =
    let n : length c.args.groups.now.items ≤ c.args.place = subst (λ k. k ≤ c.args.place) (ap length c.as_slice.ensures.value) c.if-place-as_slice.false in
    none_left_out c.args.groups.now.items c.args.blocks.now c.args.place n c.requires.groups
