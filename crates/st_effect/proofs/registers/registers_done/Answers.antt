use Rattle.st_marks.specs.declared.marks.RegMark.{RegMark}
use Rattle.st_marks.specs.declared.marks.RegStep.{RegStep}
use Rattle.st_effect.specs.inside.Done.{IsRegisterDone}
use Rattle.st_effect.proofs.ItemPairs.{listed_on}
use Rattle.st_effect.proofs.registers.registers_done.Goals as goal

pub loop-mark-preserved : goal.loop-mark-preserved
loop-mark-preserved c =
    listed_on (λ (r : RegMark). r.field) (λ (t : RegStep). t.field) (IsRegisterDone c.args.void c.args.rev c.args.new.now)
    c.args.marks.now c.loop-mark.done c.push.new.self c.loop-mark.mark-index c.mark-item.result c.in_ok-register_done.field-0
    c.loop-mark-test.true c.mark-item.is c.loop-mark.invariant c.in_ok-register_done.ensures.field c.in_ok-register_done.ensures.done c.in_ok-push.ensures.ok
