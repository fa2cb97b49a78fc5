use Rattle.std.proofs.Common.{◌≤◌, length, subst, sym, arith}
use Rattle.st_chunks.proofs.Walks.{gap_behind, group_inside, none_behind, slots_before}
use Rattle.st_chunks.proofs.gap.find_gap.Goals as goal

pub first_block-from-requires : goal.first_block-from-requires
first_block-from-requires c = group_inside c.args.groups.now c.args.blocks.now c.before_gap-start.result.group c.requires c.before_gap-start.ensures.within

pub returns-in-Some-clause-gap : goal.returns-in-Some-clause-gap
returns-in-Some-clause-gap c =
    let s = c.before_gap-start in
    let k = c.first_block-from.result in
    gap_behind c.args.blocks.now k c.args.place s.result.rest c.in-Some.gap.block c.in-Some.gap.offset
    (slots_before c.args.groups.now c.args.blocks.now s.result.group k s.result.slots s.result.rest c.args.place c.first_block-from.ensures.first c.requires s.ensures.within s.ensures.slots s.ensures.before) c.in-Some.ensures.gap

pub returns-in-None-clause-none : goal.returns-in-None-clause-none
returns-in-None-clause-none c =
    let s = c.before_gap-start in
    let k = c.first_block-from.result in
    let i : k ≤ length c.args.blocks.now = subst (λ j. j ≤ length c.args.blocks.now) (sym c.first_block-from.ensures.first) (group_inside c.args.groups.now c.args.blocks.now s.result.group c.requires s.ensures.within) in
    none_behind c.args.blocks.now k c.args.place s.result.rest
    (slots_before c.args.groups.now c.args.blocks.now s.result.group k s.result.slots s.result.rest c.args.place c.first_block-from.ensures.first c.requires s.ensures.within s.ensures.slots s.ensures.before) i
    (λ h. s.ensures.more (omega (arith, h, c.first_block-from.ensures.first))) c.in-None.ensures.none
