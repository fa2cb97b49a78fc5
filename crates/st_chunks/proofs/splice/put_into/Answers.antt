use Rattle.std.proofs.Common.{◌/◌, ◌≡◌, ◌+◌, ap, ◌∙◌, length, subst, sym, arith}
use Rattle.st_chunks.specs.Slots.{all_slots}
use Rattle.st_chunks.specs.inside.Groups.{AreGroupsBut}
use Rattle.st_chunks.proofs.Walks.{groups_set, length-put}
use Rattle.st_chunks.proofs.splice.put_into.Goals as goal

pub recount-requires-clause-groups : goal.recount-requires-clause-groups
recount-requires-clause-groups c =
    subst (λ x. AreGroupsBut (c.args.gap.block / 64) c.args.groups.now.items x) (sym c.as_slice.ensures.value)
    (groups_set c.args.groups.now.items c.args.blocks.now.items c.insert_into.new.blocks.items c.args.gap.block c.requires.groups c.in_ok-insert_into.ensures.block)

pub recount-requires-clause-short : goal.recount-requires-clause-short
recount-requires-clause-short c =
    let e = c.in_ok-insert_into.ensures.ok c.requires.gap.0 c.requires.gap.1 in
    let n : length (all_slots c.as_slice.result.now) ≡ length (all_slots c.args.blocks.now.items) + 1 =
    ap (λ x. length (all_slots x)) c.as_slice.ensures.value ∙ length-put (all_slots c.args.blocks.now.items) (all_slots c.insert_into.new.blocks.items) c.requires.gap.0 c.args.slot e in
    omega (arith, n, c.requires.room)
