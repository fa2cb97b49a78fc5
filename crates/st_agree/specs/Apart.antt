-- The answer of a test whether two arguments agree.
use Rattle.std.specs.Prelude.{Result, Ok, Err}
use Rattle.st_ids.specs.declared.fault.Or.{Or}
use Rattle.st_ids.specs.declared.fault.Or.TheVariants.{Fault, NoMemory}
use Rattle.st_ids.specs.declared.names.FieldId.{FieldId}
use Rattle.st_marks.specs.Agree.{Agrees, IsApartAt}
use Rattle.st_agree.specs.declared.agreement.FieldApart.{FieldApart}

-- where a field is named, the least is told; where none is, the arguments pass; nothing is said where memory fails
abbrev pub TellsLeast : {T : Type 0} → Result T (Or FieldApart) → (FieldId → Type 0) → Type 0
TellsLeast (Ok v) Clash = Agrees Clash
TellsLeast (Err (Fault a)) Clash = IsApartAt Clash a.field
TellsLeast (Err NoMemory) Clash = Unit {0}
