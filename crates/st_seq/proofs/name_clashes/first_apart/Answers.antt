use Rattle.std.proofs.Common.{ap, ◌∙◌}
use Rattle.st_ids.specs.Order.{lesser}
use Rattle.st_seq.proofs.NamedCells.{clash_on}
use Rattle.st_seq.proofs.name_clashes.first_apart.Goals as goal

pub loop-name-preserved : goal.loop-name-preserved
loop-name-preserved c = λ A h. clash_on A c.args.then.now c.loop-name.name-index _ c.lesser-place.result c.loop-name.place c.name_entry.result c.loop-name-test.true (c.loop-name.invariant A h) (c.name_entry.ensures ∙ h _) (c.lesser-place.ensures ∙ ap (lesser c.loop-name.place) c.clash.ensures)
