use Rattle.std.proofs.Common.{◌/◌, ◌≡◌, ap, ◌∙◌, length, subst, sym, arith}
use Rattle.st_chunks.specs.Slots.{all_slots}
use Rattle.st_chunks.specs.inside.Groups.{AreGroupsBut}
use Rattle.st_chunks.proofs.Found.{length-full}
use Rattle.st_chunks.proofs.Walks.{groups_set}
use Rattle.st_chunks.proofs.splice.flip_at.Goals as goal

pub recount-requires-clause-groups : goal.recount-requires-clause-groups
recount-requires-clause-groups c =
    subst (λ x. AreGroupsBut (c.args.gap.block / 64) c.args.groups.now.items x) (sym c.as_slice.ensures.value)
    (groups_set c.args.groups.now.items c.args.blocks.now.items c.flip_in.new.blocks.items c.args.gap.block c.requires.groups c.flip_in.ensures.block)

pub recount-requires-clause-short : goal.recount-requires-clause-short
recount-requires-clause-short c =
    let e = c.flip_in.ensures.flip c.requires.item.0 c.requires.item.1 in
    let n : length (all_slots c.as_slice.result.now) ≡ length (all_slots c.args.blocks.now.items) =
    ap (λ x. length (all_slots x)) c.as_slice.ensures.value ∙ ap length e ∙ length-full (all_slots c.args.blocks.now.items) c.requires.item.0 c.args.full in
    omega (arith, n, c.requires.room)
