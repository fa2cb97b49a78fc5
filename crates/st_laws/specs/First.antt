-- The answer of calls in turn, of which the first tells whether two arguments agree.
use Rattle.std.specs.Prelude.{◌⊎◌, Result, Ok, Err}
use Rattle.st_ids.specs.declared.fault.Or.{Or}
use Rattle.st_ids.specs.declared.fault.Or.TheVariants.{Fault, NoMemory}
use Rattle.st_ids.specs.declared.names.FieldId.{FieldId}
use Rattle.st_marks.specs.Agree.{Agrees, IsApartAt}
use Rattle.st_agree.specs.declared.agreement.FieldApart.{FieldApart}

-- where the first call names a field, the least is told; where it names none, a later call may refuse; nothing is said where memory
-- fails
abbrev pub TellsLeastFirst : {T : Type 0} → Result T (Or FieldApart) → (FieldId → Type 0) → Type 0
TellsLeastFirst (Ok v) Clash = Agrees Clash
TellsLeastFirst (Err (Fault a)) Clash = Agrees Clash ⊎ IsApartAt Clash a.field
TellsLeastFirst (Err NoMemory) Clash = Unit {0}
