-- That a part has a change, and two contents a step between them.
use Rattle.std.specs.Prelude.{◌≡◌, true, false}
use Rattle.st_register.specs.Register.{RegCanHold, RegLeadsOver, RegPart, reg_carried, reg_change_of}
use Rattle.st_register.specs.declared.values.RegChange.{RegChange}
use Rattle.st_register.specs.declared.values.RegHeld.{RegHeld}
use Rattle.st_register.specs.declared.values.RegSwap.{RegSwap}

-- there is a change of the part where the register holds this; and what it leads to, whole or void, is what a register can hold
pub record HasChange (p : RegPart) (c : RegHeld) : Type 0 where
  pub change : RegChange
  pub says : change ≡ reg_change_of p c
  pub whole : RegCanHold (reg_carried p false c)
  pub void : RegCanHold (reg_carried p true c)

-- there is a step from one content to the other
pub record HasStep (c d : RegHeld) : Type 0 where
  pub step : RegSwap
  pub leads : RegLeadsOver c d step
