use Rattle.std.proofs.Common.{Option, subst}
use Rattle.std.specs.Prelude.{IfOk}
use Rattle.st_marks.specs.declared.marks.RegStep.{RegStep}
use Rattle.st_rebase.specs.Registers.{RegBecomes}
use Rattle.st_rebase.proofs.registers.register_over.Goals as goal

pub returns-clause-becomes : goal.returns-clause-becomes
returns-clause-becomes c =
    subst (λ (o : Option RegStep). IfOk c.rebase_register.result (λ t. RegBecomes c.args.rev c.args.new.now o c.args.mark.now t)) c.in_ok-step.ensures c.rebase_register.ensures.becomes
