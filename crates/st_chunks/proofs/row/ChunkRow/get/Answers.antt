use Rattle.std.proofs.Common.{◌≡◌, ap, sym, ◌∙◌, subst, get_or, false}
use Rattle.std.specs.Prelude.{slice_get}
use Rattle.st_ids.specs.Root.{root}
use Rattle.st_marks.specs.declared.places.Slot.{Slot}
use Rattle.st_chunks.specs.Slots.{all_slots}
use Rattle.st_chunks.specs.inside.Gaps.{IsItem}
use Rattle.st_chunks.proofs.Found.{item_is}
use Rattle.st_chunks.proofs.row.ChunkRow.get.Goals as goal

pub returns-in-Ok-clause-ok : goal.returns-in-Ok-clause-ok
returns-in-Ok-clause-ok c =
    let bs = c.self.inside.blocks.items in
    let v : c.args.self.now ≡ all_slots bs = cc (c.self.view_is) in
    let x = c.as_slice-in-Ok.result.now in
    let e : x ≡ get_or bs c.in-Ok.at.block x = c.as_slice-in-Ok.ensures ∙ c.index.ensures ∙ ap (λ d. get_or bs c.in-Ok.at.block d) (sym c.as_slice-in-Ok.ensures) in
    let d : Slot = record { cell = record { 0 = root.0 }; node = root; full = false } in
    let g : IsItem bs c.args.place c.in-Ok.at.block c.in-Ok.at.offset = subst (λ b. IsItem b c.args.place c.in-Ok.at.block c.in-Ok.at.offset) c.as_slice.ensures.value c.in-Ok.ensures.item in
    ap (λ l. slice_get l c.args.place) v ∙ item_is bs c.args.place c.in-Ok.at.block c.in-Ok.at.offset x d g e
