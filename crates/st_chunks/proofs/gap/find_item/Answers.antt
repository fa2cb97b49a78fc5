use Rattle.std.proofs.Common.{◌≡◌, ◌≤◌, length, true, false, subst}
use Rattle.st_chunks.specs.Slots.{all_slots}
use Rattle.st_chunks.specs.inside.Gaps.{IsItem}
use Rattle.st_chunks.proofs.Walks.{group_inside, item_behind, item_range, slots_before}
use Rattle.st_chunks.proofs.gap.find_item.Goals as goal

pub first_block-from-requires : goal.first_block-from-requires
first_block-from-requires c = group_inside c.args.groups.now c.args.blocks.now c.before_gap-start.result.group c.requires c.before_gap-start.ensures.within

pub returns-in-Ok-clause-item : goal.returns-in-Ok-clause-item
returns-in-Ok-clause-item c =
    let s = c.before_gap-start in
    let k = c.first_block-from.result in
    item_behind c.args.blocks.now k c.args.place s.result.rest c.in-Ok.item.block c.in-Ok.item.offset
    (slots_before c.args.groups.now c.args.blocks.now s.result.group k s.result.slots s.result.rest c.args.place c.first_block-from.ensures.first c.requires s.ensures.within s.ensures.slots s.ensures.before)
    (subst (λ x. IsItem x s.result.rest c.in-Ok.item.block c.in-Ok.item.offset) c.behind.ensures c.in-Ok.ensures.item)

pub returns-in-Ok-clause-range : goal.returns-in-Ok-clause-range
returns-in-Ok-clause-range c =
    let s = c.before_gap-start in
    let k = c.first_block-from.result in
    item_range c.args.blocks.now k c.args.place s.result.rest
    (slots_before c.args.groups.now c.args.blocks.now s.result.group k s.result.slots s.result.rest c.args.place c.first_block-from.ensures.first c.requires s.ensures.within s.ensures.slots s.ensures.before)
    (subst (λ x. (false ≡ true → length (all_slots x) ≤ s.result.rest) × (length (all_slots x) ≤ s.result.rest → false ≡ true)) c.behind.ensures c.in-Ok.ensures.range)

pub returns-in-Err-clause-range : goal.returns-in-Err-clause-range
returns-in-Err-clause-range c =
    let s = c.before_gap-start in
    let k = c.first_block-from.result in
    item_range c.args.blocks.now k c.args.place s.result.rest
    (slots_before c.args.groups.now c.args.blocks.now s.result.group k s.result.slots s.result.rest c.args.place c.first_block-from.ensures.first c.requires s.ensures.within s.ensures.slots s.ensures.before)
    (subst (λ x. (true ≡ true → length (all_slots x) ≤ s.result.rest) × (length (all_slots x) ≤ s.result.rest → true ≡ true)) c.behind.ensures c.in-Err.ensures.range)
