-- A refusal that is handed on.
use Rattle.std.specs.Prelude.{Err}
use Rattle.st_ids.specs.Or.{IfRefused}
use Rattle.st_ids.specs.declared.fault.Or.{Or}
use Rattle.st_ids.specs.declared.fault.Or.TheVariants.{Fault, NoMemory}
use Rattle.st_kind.specs.Refused.{IfMemory}

pub refused_none : (A T F : Type 0) (P : T → Type 0) (why : Or F) → IfRefused {T = A} {F = F} (Err why) (λ f. ⊥) → IfMemory {T = T} {F = F} (Err why) P
refused_none A T F P (Fault f) h = absurd h
refused_none A T F P NoMemory h = tt
