-- What follows of a call that may be refused.
use Rattle.std.proofs.Common.{Result, Ok, Err}
use Rattle.st_ids.specs.Or.{IfRefused}
use Rattle.st_ids.specs.declared.fault.Or.{Or}
use Rattle.st_ids.specs.declared.fault.Or.TheVariants.{Fault, NoMemory}

pub refused_along : {T F : Type 0} (r : Result T (Or F)) (P Q : F → Type 0) → ((x : F) → P x → Q x) → IfRefused r P → IfRefused r Q
refused_along (Ok v) P Q on h = tt
refused_along (Err (Fault f)) P Q on h = on f h
refused_along (Err NoMemory) P Q on h = tt
