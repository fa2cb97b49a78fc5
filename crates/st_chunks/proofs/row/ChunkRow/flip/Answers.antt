use Rattle.std.proofs.Common.{◌≡◌, ◌<◌, ◌^◌, ap, sym, ◌∙◌, subst, length}
use Rattle.st_chunks.specs.Slots.{all_slots, with_full}
use Rattle.st_chunks.specs.inside.Gaps.{IsItem}
use Rattle.st_chunks.proofs.Found.{length-full}
use Rattle.st_chunks.proofs.row.ChunkRow.flip.Goals as goal

pub invariant_of-self : goal.invariant_of-self
invariant_of-self c =
    let bs = c.self.inside.blocks.items in
    let g : IsItem bs c.args.place c.in_ok-at.at.block c.in_ok-at.at.offset = subst (λ b. IsItem b c.args.place c.in_ok-at.at.block c.in_ok-at.at.offset) c.as_slice.ensures.value c.in_ok-at.ensures.item in
    let e : all_slots c.flip_at.new.blocks.items ≡ with_full (all_slots bs) c.args.place c.args.full = c.flip_at.ensures.flip c.args.place g in
    let n : length (all_slots c.flip_at.new.blocks.items) ≡ length (all_slots bs) = ap length e ∙ length-full (all_slots bs) c.args.place c.args.full in
    (c.self.invariant.0 ∙ sym n, subst (λ k. k < 2 ^ 32) (sym n) c.self.invariant.1, c.flip_at.ensures.groups)
