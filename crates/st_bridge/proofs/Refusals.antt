-- A refusal that is handed on.
use Rattle.std.specs.Prelude.{Err}
use Rattle.st_ids.specs.Or.{IfRefused}
use Rattle.st_ids.specs.declared.fault.Or.{Or}
use Rattle.st_ids.specs.declared.fault.Or.TheVariants.{Fault, NoMemory}
use Rattle.st_ids.specs.declared.names.FieldId.{FieldId}
use Rattle.st_kind.specs.Refused.{IfMemory}
use Rattle.st_agree.specs.Apart.{TellsLeast}
use Rattle.st_agree.specs.declared.agreement.FieldApart.{FieldApart}

pub refused_none : (A T F : Type 0) (P : T → Type 0) (why : Or F) → IfRefused {T = A} {F = F} (Err why) (λ f. ⊥) → IfMemory {T = T} {F = F} (Err why) P
refused_none A T F P (Fault f) h = absurd h
refused_none A T F P NoMemory h = tt

pub refused_same : (A T F : Type 0) (Q : F → Type 0) (why : Or F) → IfRefused {T = A} {F = F} (Err why) Q → IfRefused {T = T} {F = F} (Err why) Q
refused_same A T F Q (Fault f) h = h
refused_same A T F Q NoMemory h = tt

pub least_same : (A T : Type 0) (Clash : FieldId → Type 0) (why : Or FieldApart) → TellsLeast {T = A} (Err why) Clash → TellsLeast {T = T} (Err why) Clash
least_same A T Clash (Fault f) h = h
least_same A T Clash NoMemory h = tt
