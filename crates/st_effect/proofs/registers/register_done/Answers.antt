use Rattle.std.proofs.Common.{subst, sym}
use Rattle.st_ids.specs.declared.names.FieldId.{FieldId}
use Rattle.st_register.specs.declared.values.RegChange.{RegChange}
use Rattle.st_effect.specs.inside.Done.{IsRegisterDone}
use Rattle.st_effect.proofs.FieldLaws.{IsSwapLaw, change_in, swap_law}
use Rattle.st_effect.proofs.registers.register_done.Goals as goal

pub returns-clause-done : goal.returns-clause-done
returns-clause-done c =
    let law : IsSwapLaw c.args.void (change_in c.args.rev c.args.new.now c.args.mark.now) c.in_ok-swap.swap
    = subst (λ (x : RegChange). IsSwapLaw c.args.void x c.in_ok-swap.swap) (c.reg_change-change.ensures c.requires) c.in_ok-swap.ensures in
    subst (λ (f : FieldId). IsRegisterDone c.args.void c.args.rev c.args.new.now c.args.mark.now (record { field = f; before = c.in_ok-swap.swap.before; after = c.in_ok-swap.swap.after })) (sym c.in_ok-copy.ensures)
    (swap_law c.args.void c.args.rev c.args.new.now c.args.mark.now c.in_ok-swap.swap law)
