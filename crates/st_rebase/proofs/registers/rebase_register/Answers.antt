use Rattle.std.proofs.Common.{false, Option, Some, sym, subst}
use Rattle.st_ids.specs.declared.names.FieldId.{FieldId}
use Rattle.st_marks.specs.declared.marks.RegStep.{RegStep}
use Rattle.st_register.specs.Readings.{as_mark}
use Rattle.st_register.specs.declared.values.RegChange.{RegChange}
use Rattle.st_register.specs.declared.values.RegSwap.{RegSwap}
use Rattle.st_rebase.specs.Registers.{RegBecomes}
use Rattle.st_rebase.proofs.RegisterLaw.{IsLaw, change_in, register_law}
use Rattle.st_rebase.proofs.registers.rebase_register.Goals as goal

pub returns-clause-becomes : goal.returns-clause-becomes
returns-clause-becomes c =
    let rest : RegSwap = record { before = c.args.mark.now.held; after = c.in-Some.step.after } in
    let law : IsLaw (change_in c.args.rev c.args.new.now c.args.mark.now) rest c.in_ok-over.over
    = subst (λ (x : RegChange). IsLaw x rest c.in_ok-over.over) c.reg_change-change.ensures (λ p a b. c.in_ok-over.ensures p (λ n. false) a b) in
    let becomes : RegBecomes c.args.rev c.args.new.now (Some c.in-Some.step) c.args.mark.now (as_mark c.args.mark.now.field c.in_ok-over.over)
    = register_law c.args.rev c.args.new.now c.args.mark.now c.in-Some.step c.in_ok-over.over law in
    let here : RegBecomes c.args.rev c.args.new.now c.args.step.now c.args.mark.now (as_mark c.args.mark.now.field c.in_ok-over.over)
    = subst (λ (s : Option RegStep). RegBecomes c.args.rev c.args.new.now s c.args.mark.now (as_mark c.args.mark.now.field c.in_ok-over.over)) (sym c.in-Some.is) becomes in
    subst (λ (f : FieldId). RegBecomes c.args.rev c.args.new.now c.args.step.now c.args.mark.now (as_mark f c.in_ok-over.over)) (sym c.in_ok-copy.ensures) here
