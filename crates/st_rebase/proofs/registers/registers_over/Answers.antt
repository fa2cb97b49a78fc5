use Rattle.st_ids.specs.Listing.{item_of}
use Rattle.st_ids.specs.Order.{field_cmp}
use Rattle.st_marks.specs.declared.marks.RegMark.{RegMark}
use Rattle.st_marks.specs.declared.marks.RegStep.{RegStep}
use Rattle.st_rebase.specs.Registers.{RegBecomes}
use Rattle.st_rebase.proofs.RowOver.{exchanged_on}
use Rattle.st_rebase.proofs.registers.registers_over.Goals as goal

pub loop-mark-preserved : goal.loop-mark-preserved
loop-mark-preserved c =
    exchanged_on (λ (r : RegMark). r.field) (λ r t. RegBecomes c.args.rev c.args.new.now (item_of field_cmp (λ (s : RegStep). s.field) c.args.step.now r.field) r t)
    c.args.marks.now c.loop-mark.over c.push.new.self c.loop-mark.mark-index c.mark-item.result c.in_ok-register_over.field-0
    c.loop-mark-test.true c.mark-item.is c.loop-mark.invariant c.in_ok-register_over.ensures.field c.in_ok-register_over.ensures.becomes c.in_ok-push.ensures.ok
