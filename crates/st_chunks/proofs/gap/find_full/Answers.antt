use Rattle.std.proofs.Common.{subst, true, false, ◌<◌, ◌≤◌, ◌+◌, ◌^◌, ◌≡◌, ap, arith, rules, length, drop}
use Rattle.st_chunks.specs.Slots.{all_slots, count_full, IsFullPlace}
use Rattle.st_chunks.proofs.Found.{drop_shorter}
use Rattle.st_chunks.proofs.Walks.{front_short, full_before, full_behind, full_inside, full_range, group_inside, sizes_short, slots_are}
use Rattle.st_chunks.proofs.gap.find_full.Goals as goal

pub before_full-start-requires : goal.before_full-start-requires
before_full-start-requires c = omega (arith, sizes_short c.args.groups.now c.args.blocks.now c.requires.groups, c.requires.short)

pub first_block-from-requires : goal.first_block-from-requires
first_block-from-requires c = group_inside c.args.groups.now c.args.blocks.now c.before_full-start.result.group c.requires.groups c.before_full-start.ensures.within

pub full_at-requires : goal.full_at-requires
full_at-requires c =
    let k = c.first_block-from.result in
    let e : length (all_slots c.behind.result.now) ≡ length (all_slots (drop k c.args.blocks.now)) = ap (λ x. length (all_slots x)) c.behind.ensures in
    omega (arith, e, drop_shorter c.args.blocks.now k, c.requires.short)

pub overflow_add-result : goal.overflow_add-result
overflow_add-result c =
    let k = c.first_block-from.result in
    let b = c.before_full-start in
    let s = slots_are c.args.groups.now c.args.blocks.now b.result.group k b.result.slots c.first_block-from.ensures.first c.requires.groups b.ensures.within b.ensures.slots in
    let p = full_inside (all_slots c.behind.result.now) b.result.rest c.in-Ok.place c.in-Ok.ensures.ok in
    let e : length (all_slots c.behind.result.now) ≡ length (all_slots (drop k c.args.blocks.now)) = ap (λ x. length (all_slots x)) c.behind.ensures in
    let h : b.result.slots + c.in-Ok.place < 2 ^ 64 = omega (arith, s, p, e, front_short c.args.blocks.now k, drop_shorter c.args.blocks.now k, c.requires.short) in
    search rules

pub returns-in-Ok-clause-ok : goal.returns-in-Ok-clause-ok
returns-in-Ok-clause-ok c =
    let k = c.first_block-from.result in
    let b = c.before_full-start in
    full_behind c.args.blocks.now k c.args.index b.result.rest b.result.slots c.in-Ok.place
    (slots_are c.args.groups.now c.args.blocks.now b.result.group k b.result.slots c.first_block-from.ensures.first c.requires.groups b.ensures.within b.ensures.slots)
    (full_before c.args.groups.now c.args.blocks.now b.result.group k b.result.rest c.args.index c.first_block-from.ensures.first c.requires.groups b.ensures.within b.ensures.before)
    (subst (λ x. IsFullPlace (all_slots x) b.result.rest c.in-Ok.place) c.behind.ensures c.in-Ok.ensures.ok)

pub returns-in-Ok-clause-range : goal.returns-in-Ok-clause-range
returns-in-Ok-clause-range c =
    let k = c.first_block-from.result in
    let b = c.before_full-start in
    full_range c.args.blocks.now k c.args.index b.result.rest
    (full_before c.args.groups.now c.args.blocks.now b.result.group k b.result.rest c.args.index c.first_block-from.ensures.first c.requires.groups b.ensures.within b.ensures.before)
    (subst (λ x. (false ≡ true → count_full (all_slots x) ≤ b.result.rest) × (count_full (all_slots x) ≤ b.result.rest → false ≡ true)) c.behind.ensures c.in-Ok.ensures.range)

pub returns-in-Err-clause-range : goal.returns-in-Err-clause-range
returns-in-Err-clause-range c =
    let k = c.first_block-from.result in
    let b = c.before_full-start in
    full_range c.args.blocks.now k c.args.index b.result.rest
    (full_before c.args.groups.now c.args.blocks.now b.result.group k b.result.rest c.args.index c.first_block-from.ensures.first c.requires.groups b.ensures.within b.ensures.before)
    (subst (λ x. (true ≡ true → count_full (all_slots x) ≤ b.result.rest) × (count_full (all_slots x) ≤ b.result.rest → true ≡ true)) c.behind.ensures c.in-Err.ensures.range)
