-- What wants memory alone.
use Rattle.std.proofs.Common.{◌≡◌, Err, refl}
use Rattle.st_ids.specs.declared.fault.Or.{Or}
use Rattle.st_ids.specs.declared.fault.Or.TheVariants.{Fault, NoMemory}
use Rattle.st_kind.specs.Refused.{IfMemory}

-- an answer that is never refused, and is no value
pub no_memory : {T F : Type 0} (e : Or F) (P : T → Type 0) → IfMemory {T = T} (Err e) P → e ≡ NoMemory
no_memory (Fault f) P h = absurd h
no_memory NoMemory P h = refl
