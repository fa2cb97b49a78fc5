use Rattle.std.proofs.Common.{◌≡◌, ◌<◌, ◌+◌, ◌^◌, ap, ◌∙◌, length, drop, arith, rules}
use Rattle.st_chunks.specs.Slots.{all_slots, count_full}
use Rattle.st_chunks.proofs.Counting.{count-length}
use Rattle.st_chunks.proofs.Found.{drop_shorter}
use Rattle.st_chunks.proofs.GroupCounts.{groups_within}
use Rattle.st_chunks.proofs.Walks.{full_in_all, full_in_short}
use Rattle.st_chunks.proofs.gap.count_all.Goals as goal

pub first_block-from-requires : goal.first_block-from-requires
first_block-from-requires c = groups_within c.args.groups.now c.args.blocks.now c.requires.groups

pub full_in-requires : goal.full_in-requires
full_in-requires c = omega (arith, full_in_short c.args.groups.now c.args.blocks.now c.requires.groups, c.requires.short)

pub count_of-requires : goal.count_of-requires
count_of-requires c =
    let e : length (all_slots c.behind.result.now) ≡ length (all_slots (drop c.first_block-from.result c.args.blocks.now)) = ap (λ x. length (all_slots x)) c.behind.ensures in
    omega (arith, e, drop_shorter c.args.blocks.now c.first_block-from.result, c.requires.short)

pub overflow_add-result : goal.overflow_add-result
overflow_add-result c =
    let k = c.first_block-from.result in
    let e : c.count_of.result.full ≡ count_full (all_slots (drop k c.args.blocks.now)) = c.count_of.ensures.full ∙ ap (λ x. count_full (all_slots x)) c.behind.ensures in
    let a = full_in_all c.args.groups.now c.args.blocks.now k c.first_block-from.ensures.first c.requires.groups in
    let h : c.full_in.result + c.count_of.result.full < 2 ^ 64 = omega (arith, e, a, c.full_in.ensures, count-length (all_slots c.args.blocks.now), c.requires.short) in
    search rules

pub returns : goal.returns
returns c =
    let k = c.first_block-from.result in
    let e : c.count_of.result.full ≡ count_full (all_slots (drop k c.args.blocks.now)) = c.count_of.ensures.full ∙ ap (λ x. count_full (all_slots x)) c.behind.ensures in
    let a = full_in_all c.args.groups.now c.args.blocks.now k c.first_block-from.ensures.first c.requires.groups in
    omega (arith, e, a, c.full_in.ensures)
