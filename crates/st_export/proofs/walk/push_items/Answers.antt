use Rattle.std.proofs.Common.{◌∙◌, ◌++◌, ap, arith}
use Rattle.std.proofs.lemmas.List.{take_all}
use Rattle.st_marks.specs.LiveTree.{owners_shown}
use Rattle.st_export.proofs.Shown.{items_more}
use Rattle.st_export.proofs.walk.push_items.Goals as goal

pub loop-place-preserved : goal.loop-place-preserved
loop-place-preserved c =
    items_more c.args.row.now c.loop-place.place c.slot_at.result c.loop-place.nodes.items c.push_full.new.nodes.items c.args.nodes.now.items c.slot_at.ensures c.in_ok-push_full.ensures c.loop-place.invariant

pub returns : goal.returns
returns c =
    c.loop-place.invariant
    ∙ ap (λ l. c.args.nodes.now.items ++ owners_shown l) (take_all c.loop-place.place c.args.row.now (omega (arith, c.loop-place-test.false, c.len-place-end.ensures.len)))
